pub mod Lanes
pub mod LanesLemmas
pub mod Compiled

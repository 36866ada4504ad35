pub mod Lanes
pub mod Numbers
pub mod Making

pub mod Ranges
pub mod Numbers
pub mod Leaders
pub mod LeaderStates
pub mod RangesLemmas

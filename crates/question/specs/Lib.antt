pub mod Halves
pub mod Tested

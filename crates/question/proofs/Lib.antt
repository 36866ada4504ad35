pub mod Units
pub mod Halves
pub mod Replies
pub mod Tested

pub mod Following
pub mod Stability
pub mod Settle

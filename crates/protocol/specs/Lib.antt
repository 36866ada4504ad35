pub mod Protocols
pub mod Laws
pub mod Places
pub mod Joining
pub mod Sums
pub mod Threshold
pub mod Remainder
pub mod Presence

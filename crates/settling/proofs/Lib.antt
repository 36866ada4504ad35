pub mod Verdicts
pub mod Reaching
pub mod Stability
pub mod Following
pub mod Asking

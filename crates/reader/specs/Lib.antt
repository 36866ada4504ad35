pub mod Classed
pub mod Lines

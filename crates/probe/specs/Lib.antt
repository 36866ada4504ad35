pub mod Classes
pub mod Classing

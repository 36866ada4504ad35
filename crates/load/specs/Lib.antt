pub mod Phases
pub mod Asked
pub mod Calls

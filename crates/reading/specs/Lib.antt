pub mod Counting
pub mod Letters

pub mod Constant
pub mod ConstantLemmas

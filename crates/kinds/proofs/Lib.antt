pub mod Led
pub mod ThresholdSpan
pub mod ThresholdNumbers

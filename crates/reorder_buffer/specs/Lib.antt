pub mod FaultText
pub mod Growing

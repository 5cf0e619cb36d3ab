pub mod OriginValue
pub mod Limits
pub mod Start
pub mod OriginBytes
pub mod FaultText

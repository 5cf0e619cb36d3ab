pub mod FaultText
pub mod Queues
pub mod Answered

pub mod FaultText
pub mod Counts
pub mod Book
pub mod Allowed
pub mod Decided
pub mod Closed

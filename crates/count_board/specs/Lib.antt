pub mod Counts
pub mod FaultText
pub mod GreatestCounts
pub mod Seats
pub mod Views

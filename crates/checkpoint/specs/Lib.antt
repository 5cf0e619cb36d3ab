pub mod MarkValue
pub mod Further
pub mod Furthest
pub mod Aligned
pub mod AlignedParts
pub mod Starts
pub mod Best
pub mod FaultText

pub mod Allowed
pub mod Ascending
pub mod FirstFault
pub mod InRange
pub mod OneProfile
pub mod Laws

pub mod Keys
pub mod Lawful
pub mod Least
pub mod Places
pub mod Counts

pub mod WordsBytes
pub mod Fitting
pub mod Joined
pub mod Starting
pub mod Same

pub mod Codes
pub mod Fields
pub mod Policies
pub mod Refusals
pub mod Tables

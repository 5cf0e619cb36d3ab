pub mod Codes
pub mod Explanations

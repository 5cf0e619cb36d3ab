pub mod Predictor
pub mod Stated

pub mod Crossing
mod Aligned
mod Histories
mod Kept
mod Standing

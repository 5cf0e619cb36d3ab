pub mod Text
pub mod Plain
pub mod Operands
pub mod Effects
pub mod Due
pub mod Mispredicted
pub mod Heads

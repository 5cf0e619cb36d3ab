pub mod Masks
pub mod Bits
pub mod FirstBits

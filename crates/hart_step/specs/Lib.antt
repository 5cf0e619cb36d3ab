pub mod Causes
pub mod State
pub mod Values
pub mod Effects
pub mod Mnemonics
pub mod Next
pub mod StateCode
pub mod Decoded

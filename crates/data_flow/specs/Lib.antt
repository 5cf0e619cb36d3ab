pub mod Flow
pub mod Slots
pub mod Numbered
pub mod Listed
pub mod Banks
pub mod Wired

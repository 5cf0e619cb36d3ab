mod Greatest
mod Kept
mod Gathers

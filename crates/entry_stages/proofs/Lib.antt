mod Texts
mod Computes
mod Unwritten

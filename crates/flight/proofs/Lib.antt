mod Words
mod Looks
mod Freed
mod Kept
mod Ahead
mod KindWords
mod EightWords

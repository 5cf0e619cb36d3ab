pub mod Cells
pub mod Regions
pub mod Stored
pub mod Layout
pub mod Pages
pub mod Start
pub mod Table

pub mod Track
pub mod TrackCode
pub mod Cores
pub mod Queued
pub mod Issuable
pub mod Performed
pub mod Steps
pub mod NextEntry
pub mod Renamable
pub mod Left
pub mod Ends
pub mod FrontLists
-- of the crate below, what contracts here speak of
pub use Rattle.entry_stages.specs.Plain
pub use Rattle.entry_stages.specs.Heads
pub use Rattle.entry_stages.specs.Effects
pub use Rattle.entry_stages.specs.Due
pub use Rattle.entry_stages.specs.Mispredicted

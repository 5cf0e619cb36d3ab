pub mod Machine
pub mod Fills
pub mod Shown
pub mod Issued
pub mod Issuing
pub mod Selected
pub mod Fetched
pub mod Renamable
pub mod First
pub mod Turn
pub mod Learned
pub mod Coming
pub mod Completing
-- of the crate below, what a contract here speaks of
pub use Rattle.core_context.specs.FrontLists

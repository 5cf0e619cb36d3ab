-- The laws of physical registers, for callers to cite.

-- how often a register stands in the file
pub use Rattle.rename_file.proofs.Uses.{at_self, committed_in_range, newest_use, used_in_range, used_once}

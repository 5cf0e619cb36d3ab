-- The laws of memories, for callers to cite.
-- rights at each address of a span, and the bytes of a store
pub use Rattle.paged_memory.proofs.Writes.{all_have-at, stored, stored_from}
-- what a tabulated map has at an address
pub use Rattle.paged_memory.proofs.Tabulated.{get-tabulated}

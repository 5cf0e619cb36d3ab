-- The laws of marks, for callers to cite.
-- how far a mark is that went on from its start, and the further of two marks
pub use Rattle.checkpoint.proofs.FurthestLemmas.{IsFurthest-advanced, IsFurthest-further}
-- eights of marks of one origin are kin
pub use Rattle.checkpoint.proofs.AlignedLemmas.{AreMarksOf-kin}
-- so many steps and then some more are as many as both
pub use Rattle.checkpoint.proofs.Trajectory.{after-+}

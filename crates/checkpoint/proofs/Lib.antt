pub mod Trajectory
pub mod Advanced
pub mod FurthestLemmas
pub mod AlignedLemmas
pub mod MarkLemmas
pub mod StartLemmas
pub mod BestLemmas
pub mod Laws

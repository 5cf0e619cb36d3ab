-- The laws of the machine, for callers to cite.
-- two places of a flight with one stamp are one
pub use Rattle.core_context.proofs.Laws.{same_place}
-- the contexts in order
pub use Rattle.core_back.proofs.ContextByContext.{nth_context}
-- stamps that are all below a number are below it place by place
pub use Rattle.core_back.proofs.Renamable.{stamped_below}
-- what a machine shows at first is a first view, and a machine starts in one way from marks
pub use Rattle.core_back.proofs.FirstViews.{first_view, first_decided}

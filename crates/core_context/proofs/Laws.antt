-- The laws of a context, for callers to cite.

-- ---- a context whose track and data flow stand for it

-- after an event at another context
pub use Rattle.core_context.proofs.OtherContexts.{left_core, other_core}
-- its data flow has its renamed entries, with the values of their sources
pub use Rattle.core_context.proofs.SourcesSeen.{node_count, operands_at, sources_are}
-- its queues of loads and stores answer what the flight says, and what was selected is known there
pub use Rattle.core_context.proofs.Issues.{core_answered, core_sources, queued_renamed, selected_at}
-- an entry of it issues, or of another context
pub use Rattle.core_context.proofs.Issues.{issue_core, issue_other}
-- the oldest entry, where it is done
pub use Rattle.core_context.proofs.Retires.{is_first_done}
-- ---- counts over the flight by counts that are kept

pub use Rattle.core_context.proofs.RenamedAreOldest.{count_cons, count_split, eligible_is, fetched_count, fetched_none, guessed_count, missed_count}
pub use Rattle.core_context.proofs.WaitingCounts.{count_waiters, oldest_waiting, sum_eight_same, waiting_guesses, waiting_number}
-- how full its front list is, before and after an event
pub use Rattle.core_context.proofs.FrontFills.{fill_finished, fill_is, fill_issued, fill_renamed, fill_retired}
-- ---- what waits

pub use Rattle.core_context.proofs.Queue.{behind_at, core_waiting, eight-remarked, waiting-remarked}
pub use Rattle.core_context.proofs.Waiting.{eqb-flip, growing_at, queued_stage, same_place}
pub use Rattle.core_context.proofs.Flights.{growing_take}
-- what is held, and what a release lets go
pub use Rattle.core_context.proofs.ReadyLoads.{none_ready_held}
pub use Rattle.core_context.proofs.HeldLoads.{held_kept, issued_clear, let_go_marked, released_all, released_remarked, remarked_lane, remarked_twice}
-- an entry that issues changes of none whether it may issue
pub use Rattle.core_context.proofs.HeldLoads.{issued_may}

-- The laws of lawful cycles, for callers to cite.
-- sums that agree at each
pub use Rattle.lawful_cycle.proofs.Listed.{sum_agree}
-- views are equal where their contexts are; what a view with entries renamed shows of a context, and with none renamed
pub use Rattle.lawful_cycle.proofs.SameViews.{same_views, renamed_in, renamed_none}
-- a run goes on by a lawful cycle
pub use Rattle.lawful_cycle.proofs.Chains.{run_next}
-- a lawful cycle leaves nothing issued that was due before the next one
pub use Rattle.lawful_cycle.proofs.Timing.{cycle_timely}
-- each part keeps what holds of each entry by its stamp and the cycle in which it was fetched
pub use Rattle.lawful_cycle.proofs.KeptEntries.{retire_keeps, complete_keeps, issue_keeps, rename_keeps, fetch_keeps, holds_of_oldest}
-- what retires, completes or issues leaves a context's oldest fetched entry, if any stays, as it is
pub use Rattle.lawful_cycle.proofs.OldestFetched.{HasOwnStamps, retire_oldest, complete_oldest, issue_oldest}
-- a place is another or isn't; what can be told from each other is in a list or isn't
pub use Rattle.lawful_cycle.proofs.UniqueIssue.{same_or_not}
pub use Rattle.lawful_cycle.proofs.OneFirst.{among_or_not}
-- states that go on along a list
pub use Rattle.lawful_cycle.proofs.Goes.{goes_on, goes_once, goes_one}
-- what no step of a guess or a delay changes, no cycle changes
pub use Rattle.lawful_cycle.proofs.KeptStates.{shown_keeps, block_keeps, queries_keep, learns_keep, timed_keeps, times_keep}
-- runs by the steps of a guess and a delay
pub use Rattle.lawful_cycle.proofs.Decided.{stepped_next, run_stepped, cycle_decided, run_decided, notes_decided, figures_decided}
-- the stamps of a first view are in order
pub use Rattle.lawful_cycle.proofs.UniqueCycle.{first_stamped}
-- what never stalls goes on by each lawful cycle, and its runs are bounded
pub use Rattle.lawful_cycle.proofs.GoingOn.{cycle_goes_on, run_goes_on}
-- a view with nothing in flight is steady; OLDEST_FIRST and SPEC_LAST put sure entries first
pub use Rattle.lawful_cycle.proofs.FirstSteady.{empty_steady, oldest_first_sure, spec_last_sure}
-- no step changes how many registers a state has
pub use Rattle.lawful_cycle.proofs.Wide.{after_wide}
-- the best of two counts to which plain RV64I comes
pub use Rattle.lawful_cycle.proofs.PlainOutcome.{join_two}
-- products
pub use Rattle.lawful_cycle.proofs.BoundedRuns.{times_le}

use Rattle.std.proofs.Common.{◌≡◌, ◌≤◌, ℕ, None}
use Rattle.core_view.specs.Spans.{shares}
use Rattle.flight.specs.Flights.{entry_in}
use Rattle.load_store_queue.proofs.StoresBefore.{bytes_passing}
use Rattle.load_store_queue.proofs.search.newest_sharing.Given as goal

abbrev pub invariant-loop-older : goal.invariant-loop-older
invariant-loop-older g l = record {
  within : l.below ≤ l.place;
  past : (i : ℕ) → l.below ≤ i → bytes_passing (λ b. shares b.span l.span) (entry_in l.flight.entries l.place).stamp (entry_in l.flight.entries i) ≡ None;
}

abbrev pub decreases-loop-older : goal.decreases-loop-older
decreases-loop-older g l = l.below

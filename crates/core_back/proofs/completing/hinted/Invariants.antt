use Rattle.std.proofs.Common.{◌≡◌, ℕ, ◌<◌, true, false}
use Rattle.word_mask.specs.Mask.{has}
use Rattle.flight.specs.Flights.{is_due, NoneFrom}
use Rattle.core_back.specs.Machine.{context_at}
use Rattle.core_back.proofs.completing.hinted.Given as goal

abbrev pub invariant-loop-context : goal.invariant-loop-context
invariant-loop-context g l = record {
  known : (c : ℕ) → has l.word c ≡ true → c < l.context-index;
  none : (c : ℕ) → c < l.context-index → has l.word c ≡ false → NoneFrom (is_due l.machine.view.cycle) (context_at l.machine c).flight 0;
}

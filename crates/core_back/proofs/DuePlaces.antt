-- One entry of a context that is due completes: the oldest.
use Rattle.std.proofs.Common.{◌≡◌, ℕ, zero, suc, ◌+◌, ◌<◌, false, List, [], ◌∷◌, length, get_or, Option, Some, None, is_some, refl, sym, ap, subst, ◌∙◌, arith, add-one, inl, inr}
use Rattle.std.proofs.lemmas.Bool.{cases_eq}
use Rattle.core_view.specs.declared.entry.Execution.{Execution}
use Rattle.core_view.specs.declared.entry.Entry.{Entry}
use Rattle.core_view.specs.View.{Context, no_entry}
use Rattle.core_view.specs.Events.{with_flight, due_at, completed_at, completed_from, complete_in, complete_event}
use Rattle.core_view.proofs.Completed.{from_end}
use Rattle.core_view.specs.Stages.{execution_of}
use Rattle.flight.specs.Flights.{is_due, NoneFrom, IsNext}
use Rattle.core_back.specs.Machine.{Machine, context_at, with_context, due_in}
use Rattle.core_back.specs.Coming.{to_come, number_of}
use Rattle.core_back.specs.Completing.{IsTurn}
use Rattle.core_back.proofs.CompletedCount.{come_none, come_end, come_step}
use Rattle.core_back.proofs.CompletedByPlace.{due_none, due_here, due_step, flight_same, set_here}

is_none : (o : Option Execution) → is_some o ≡ false → o ≡ None
is_none None h = refl
is_none (Some x) h = absurd cc

not_due : (cycle : ℕ) (es : List Entry) (i : ℕ) → is_due cycle (get_or es i no_entry) ≡ false → due_in cycle es i ≡ None
not_due cycle [] i h = refl
not_due cycle (e ∷ es) zero h = is_none (due_at cycle e.stage) h
not_due cycle (e ∷ es) (suc i) h = not_due cycle es i h

-- what stays at each place of some stays over all of them
pass_to : {X : Type 0} (f : ℕ → X) (m : ℕ) → ((i : ℕ) → i < m → f (suc i) ≡ f i) → f m ≡ f 0
pass_to f zero h = refl
pass_to f (suc m) h = h m (omega arith) ∙ pass_to f m (λ i lt. h i (omega (arith, lt)))

-- no entry before a place is due
abbrev NoneBefore : ℕ → List Entry → ℕ → Type 0
NoneBefore cycle es m = (i : ℕ) → i < m → is_due cycle (get_or es i no_entry) ≡ false

from_pass : (cycle : ℕ) (es : List Entry) (m : ℕ) → NoneBefore cycle es m → completed_from cycle m es ≡ completed_at cycle es
from_pass cycle es m none = pass_to (λ k. completed_from cycle k es) m (λ i lt. ap (λ k. completed_from cycle k es) (sym (add-one i)) ∙ due_none cycle es i (not_due cycle es i (none i lt)))

come_pass : (cycle : ℕ) (es : List Entry) (m : ℕ) → NoneBefore cycle es m → to_come cycle m es ≡ to_come cycle 0 es
come_pass cycle es m none = pass_to (λ k. to_come cycle k es) m (λ i lt. come_none cycle es i (not_due cycle es i (none i lt)))

-- where none is due, all stay, and none completes
pub none_due : (cycle : ℕ) (es : List Entry) → NoneFrom (is_due cycle) es 0 → completed_at cycle es ≡ es
none_due cycle es none = sym (from_pass cycle es (length es) (λ i lt. none i (omega arith))) ∙ from_end cycle (length es) es (omega arith)

pub none_comes : (cycle : ℕ) (x : Context) → NoneFrom (is_due cycle) x.flight 0 → number_of cycle x ≡ 0
none_comes cycle x none = sym (come_pass cycle x.flight (length x.flight) (λ i lt. none i (omega arith))) ∙ come_end cycle (length x.flight) x.flight (omega arith)

-- what stands before the place where an entry completes
before_same : (es : List Entry) (i : ℕ) (x : Execution) (j : ℕ) → j < i → get_or (complete_in es i x) j no_entry ≡ get_or es j no_entry
before_same [] i x j lt = refl
before_same (e ∷ es) zero x j lt = absurd (omega arith)
before_same (e ∷ es) (suc i) x zero lt = refl
before_same (e ∷ es) (suc i) x (suc j) lt = before_same es i x j (omega (arith, lt))

done_here : (cycle : ℕ) (es : List Entry) (i : ℕ) (x : Execution) → is_due cycle (get_or (complete_in es i x) i no_entry) ≡ false
done_here cycle [] i x = refl
done_here cycle (e ∷ es) zero x = refl
done_here cycle (e ∷ es) (suc i) x = done_here cycle es i x

-- nothing completes in a turn where nothing is due
pub idle_turn : (m n : Machine) (c : ℕ) → n ≡ m → NoneFrom (is_due m.view.cycle) (context_at m c).flight 0 → IsTurn m n c 0 0
idle_turn m n c same none = subst (λ k. IsTurn m k c 0 0) (sym same) (record {
  others = flight_same m c;
  goes_on = refl;
  fewer = omega arith;
  counted = omega arith;
  one = omega arith;
  last = λ h. none;
})

-- the first entry that is due completes
pub one_turn : (m n : Machine) (c place cut : ℕ) → IsNext (is_due m.view.cycle) (context_at m c).flight 0 place
    → n ≡ with_context m c (complete_event (context_at m c) place (execution_of (get_or (context_at m c).flight place no_entry).stage))
    → cut + length (context_at n c).flight ≡ length (context_at m c).flight → IsTurn m n c 1 cut
one_turn m n c place cut next event fewer = record {
  others = event ∙ ap (λ (es : List Entry). with_context m c (with_flight (context_at m c) es)) (sym flight);
  goes_on = sym (from_pass m.view.cycle (context_at n c).flight (place + 1) none_after) ∙ due_step m n c place x event due ∙ from_pass m.view.cycle (context_at m c).flight place none_before;
  fewer = fewer;
  counted = omega (arith, come_step m n c place x event due, come_pass m.view.cycle (context_at n c).flight (place + 1) none_after, come_pass m.view.cycle (context_at m c).flight place none_before);
  one = omega arith;
  last = λ h. absurd (omega (arith, h));
}
  where
    x : Execution
    x = execution_of (get_or (context_at m c).flight place no_entry).stage

    due : due_in m.view.cycle (context_at m c).flight place ≡ Some x
    due = due_here m.view.cycle (context_at m c).flight place next.within next.passes

    flight : (context_at n c).flight ≡ complete_in (context_at m c).flight place x
    flight = ap (λ (k : Machine). (context_at k c).flight) event ∙ ap (λ (y : Context). y.flight) (set_here m.view.contexts c (complete_event (context_at m c) place x) place next.within)

    none_before : NoneBefore m.view.cycle (context_at m c).flight place
    none_before i lt = next.first i (omega arith) lt

    none_after : NoneBefore m.view.cycle (context_at n c).flight (place + 1)
    none_after i lt = ap (λ (es : List Entry). is_due m.view.cycle (get_or es i no_entry)) flight ∙ elim (cases_eq i place) [
      | inl here ↦ ap (λ k. is_due m.view.cycle (get_or (complete_in (context_at m c).flight place x) k no_entry)) here ∙ done_here m.view.cycle (context_at m c).flight place x
      | inr other ↦ let before : i < place = omega (arith, lt, other) in ap (is_due m.view.cycle) (before_same (context_at m c).flight place x i before) ∙ none_before i before
    ]

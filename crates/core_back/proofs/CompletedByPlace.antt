-- The entries of a context complete, one place after another.
use Rattle.std.proofs.Common.{◌≡◌, ℕ, zero, suc, ◌+◌, ◌<◌, Bool, true, false, List, [], ◌∷◌, length, get_or, is_some, Some, None, refl, sym, ap, ◌∙◌, arith, add-one}
use Rattle.std.specs.Prelude.{set, ◌==◌, if◌then◌else◌}
use Rattle.std.proofs.lemmas.List.{set-get_or}
use Rattle.core_view.specs.declared.entry.Execution.{Execution}
use Rattle.core_view.specs.declared.entry.Stage.{Stage}
use Rattle.core_view.specs.declared.entry.Stage.TheVariants.{Fetched, Queued, Issued, Done}
use Rattle.core_view.specs.declared.entry.Entry.{Entry}
use Rattle.core_view.specs.View.{Context, no_entry}
use Rattle.core_view.specs.Events.{with_flight, due_at, completed_by, completed_at, completed_from, complete_event}
use Rattle.core_view.proofs.Completed.{from_step}
use Rattle.core_view.specs.Stages.{execution_of}
use Rattle.flight.specs.Flights.{is_due}
use Rattle.core_back.specs.Machine.{Machine, no_context, context_at, with_context, due_in, with_contexts}

pub due_some : (cycle : ℕ) (es : List Entry) (i : ℕ) (x : Execution) → due_in cycle es i ≡ Some x → (i < length es) × (due_at cycle (get_or es i no_entry).stage ≡ Some x)
due_some cycle [] i x h = absurd cc
due_some cycle (e ∷ es) zero x h = (omega arith, h)
due_some cycle (e ∷ es) (suc i) x h = let later = due_some cycle es i x h in let lt = later.0 in (omega (arith, lt), later.1)

-- what is due is issued
stage_due : (cycle : ℕ) (s : Stage) → is_some (due_at cycle s) ≡ true → due_at cycle s ≡ Some (execution_of s)
stage_due cycle Fetched h = absurd cc
stage_due cycle Queued h = absurd cc
stage_due cycle (Issued x) h = go (x.due == cycle) h
  where
    go : (b : Bool) → is_some (if b then Some x else None) ≡ true → (if b then Some x else None) ≡ Some x
    go true h = refl
    go false h = absurd cc
stage_due cycle (Done x) h = absurd cc

pub due_here : (cycle : ℕ) (es : List Entry) (i : ℕ) → i < length es → is_due cycle (get_or es i no_entry) ≡ true → due_in cycle es i ≡ Some (execution_of (get_or es i no_entry).stage)
due_here cycle [] i lt h = absurd (omega arith)
due_here cycle (e ∷ es) zero lt h = stage_due cycle e.stage h
due_here cycle (e ∷ es) (suc i) lt h = due_here cycle es i (omega (arith, lt)) h

none_due : (cycle : ℕ) (es : List Entry) (i : ℕ) → due_in cycle es i ≡ None → completed_from cycle (suc i) es ≡ completed_from cycle i es
none_due cycle [] zero h = refl
none_due cycle [] (suc i) h = refl
none_due cycle (e ∷ es) zero h = sym (ap (λ o. completed_by o e (completed_at cycle es)) h)
none_due cycle (e ∷ es) (suc i) h = ap (λ fs. e ∷ fs) (none_due cycle es i h)

-- one that isn't due stays
pub due_none : (cycle : ℕ) (es : List Entry) (i : ℕ) → due_in cycle es i ≡ None → completed_from cycle (i + 1) es ≡ completed_from cycle i es
due_none cycle es i h = ap (λ n. completed_from cycle n es) (add-one i) ∙ none_due cycle es i h

pub set_here : (xs : List Context) (c : ℕ) (x : Context) (i : ℕ) → i < length (get_or xs c no_context).flight → get_or (set xs c x) c no_context ≡ x
set_here [] c x i lt = absurd (omega arith)
set_here (y ∷ ys) zero x i lt = refl
set_here (y ∷ ys) (suc c) x i lt = set_here ys c x i lt

-- one that is due completes
pub due_step : (m n : Machine) (c i : ℕ) (x : Execution) → n ≡ with_context m c (complete_event (context_at m c) i x) → due_in m.view.cycle (context_at m c).flight i ≡ Some x
    → completed_from m.view.cycle (i + 1) (context_at n c).flight ≡ completed_from m.view.cycle i (context_at m c).flight
due_step m n c i x e due =
    let here = due_some m.view.cycle (context_at m c).flight i x due in
    ap (λ k. completed_from m.view.cycle k (context_at n c).flight) (add-one i)
    ∙ ap (λ (k : Machine). completed_from m.view.cycle (suc i) (context_at k c).flight) e
    ∙ ap (λ (y : Context). completed_from m.view.cycle (suc i) y.flight) (set_here m.view.contexts c (complete_event (context_at m c) i x) i here.0)
    ∙ from_step m.view.cycle i (context_at m c).flight no_entry x here.0 here.1

-- only the flight of a context has changed
pub flight_same : (m : Machine) (c : ℕ) → m ≡ with_context m c (with_flight (context_at m c) (context_at m c).flight)
flight_same m c = ap (with_contexts m) (sym (set-get_or m.view.contexts c no_context))

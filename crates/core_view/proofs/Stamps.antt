-- Stamps grow through each event.
use Rattle.std.proofs.Common.{◌≡◌, ℕ, zero, suc, ◌+◌, ◌<◌, ◌≤◌, Bool, true, false, List, [], ◌∷◌, ◌++◌, length, get_or, drop, Option, Some, None, arith}
use Rattle.std.specs.Prelude.{set, if◌then◌else◌}
use Rattle.core_view.specs.declared.span.Bytes.{Bytes}
use Rattle.core_view.specs.declared.outcome.Outcome.{Outcome}
use Rattle.core_view.specs.declared.outcome.Outcome.TheVariants.{Goes, Stops}
use Rattle.core_view.specs.declared.entry.Execution.{Execution}
use Rattle.core_view.specs.declared.entry.Entry.{Entry}
use Rattle.core_view.specs.Outcomes.{bytes_written}
use Rattle.core_view.specs.Flight.{IsGrowing, IsStampedBelow, span_read, touches, before_touch}
use Rattle.core_view.specs.Events.{is_mispredicted, kept_after, complete_in, due_at, completed_by, completed_at}

-- stamps grow from one on and are below another
abbrev pub IsStamped : ℕ → ℕ → List Entry → Type 0
IsStamped low next [] = Unit {0}
IsStamped low next (e ∷ es) = (low ≤ e.stamp) × (e.stamp < next) × IsStamped (e.stamp + 1) next es

pub stamped_from : (low next : ℕ) (es : List Entry) → IsGrowing low es → IsStampedBelow next es → IsStamped low next es
stamped_from low next [] g b = tt
stamped_from low next (e ∷ es) g b = (g.0, b.0, stamped_from (e.stamp + 1) next es g.1 b.1)

pub stamped_growing : (low next : ℕ) (es : List Entry) → IsStamped low next es → IsGrowing low es
stamped_growing low next [] h = tt
stamped_growing low next (e ∷ es) h = (h.0, stamped_growing (e.stamp + 1) next es h.2)

pub stamped_below : (low next : ℕ) (es : List Entry) → IsStamped low next es → IsStampedBelow next es
stamped_below low next [] h = tt
stamped_below low next (e ∷ es) h = (h.1, stamped_below (e.stamp + 1) next es h.2)

-- from fewer on, below more
pub stamped_wider : (low low' next next' : ℕ) (es : List Entry) → low' ≤ low → next ≤ next' → IsStamped low next es → IsStamped low' next' es
stamped_wider low low' next next' [] from to h = tt
stamped_wider low low' next next' (e ∷ es) from to h =
    let a = h.0 in
    let b = h.1 in
    (omega (arith, a), omega (arith, b), stamped_wider (e.stamp + 1) (e.stamp + 1) next next' es (omega arith) to h.2)

pub stamped-drop : (low next : ℕ) (es : List Entry) → IsStamped low next es → IsStamped low next (drop 1 es)
stamped-drop low next [] h = tt
stamped-drop low next (e ∷ es) h = let a = h.0 in stamped_wider (e.stamp + 1) low next next es (omega (arith, a)) (omega arith) h.2

stamped-before : (b : Option Bytes) (low next : ℕ) (es : List Entry) → IsStamped low next es → IsStamped low next (before_touch b es)
stamped-before b low next [] h = tt
stamped-before b low next (e ∷ es) h = go (touches b (span_read e.stage)) (stamped-before b (e.stamp + 1) next es h.2)
  where
    go : (t : Bool) → IsStamped (e.stamp + 1) next (before_touch b es) → IsStamped low next (if t then [] else e ∷ before_touch b es)
    go true rest = tt
    go false rest = (h.0, h.1, rest)

stamped-kept : (low next : ℕ) (e : Entry) (outcome : Outcome) (es : List Entry) → IsStamped low next es → IsStamped low next (kept_after e outcome es)
stamped-kept low next e (Stops why) es h = h
stamped-kept low next e (Goes step) es h = go (is_mispredicted e step)
  where
    go : (t : Bool) → IsStamped low next (if t then [] else before_touch (bytes_written step.access) es)
    go true = tt
    go false = stamped-before (bytes_written step.access) low next es h

pub stamped-complete : (low next : ℕ) (es : List Entry) (i : ℕ) (x : Execution) → IsStamped low next es → IsStamped low next (complete_in es i x)
stamped-complete low next [] i x h = tt
stamped-complete low next (e ∷ es) zero x h = (h.0, h.1, stamped-kept (e.stamp + 1) next e x.outcome es h.2)
stamped-complete low next (e ∷ es) (suc i) x h = (h.0, h.1, stamped-complete (e.stamp + 1) next es i x h.2)

pub stamped-completed : (low next cycle : ℕ) (es : List Entry) → IsStamped low next es → IsStamped low next (completed_at cycle es)
stamped-completed low next cycle [] h = tt
stamped-completed low next cycle (e ∷ es) h = go (due_at cycle e.stage) (stamped-completed (e.stamp + 1) next cycle es h.2)
  where
    go : (due : Option Execution) → IsStamped (e.stamp + 1) next (completed_at cycle es) → IsStamped low next (completed_by due e (completed_at cycle es))
    go None rest = (h.0, h.1, rest)
    go (Some x) rest = (h.0, h.1, stamped-kept (e.stamp + 1) next e x.outcome (completed_at cycle es) rest)

pub stamped-set : (low next : ℕ) (es : List Entry) (i : ℕ) (d e : Entry) → i < length es → e.stamp ≡ (get_or es i d).stamp → IsStamped low next es → IsStamped low next (set es i e)
stamped-set low next [] i d e lt same h = tt
stamped-set low next (f ∷ es) zero d e lt same h = rw same h
stamped-set low next (f ∷ es) (suc i) d e lt same h = (h.0, h.1, stamped-set (f.stamp + 1) next es i d e (omega arith) same h.2)

pub stamped-push : (low next : ℕ) (es : List Entry) (e : Entry) → low ≤ next → e.stamp ≡ next → IsStamped low next es → IsStamped low (next + 1) (es ++ e ∷ [])
stamped-push low next [] e from is h = (omega (arith, is), omega (arith, is), tt)
stamped-push low next (f ∷ es) e from is h =
    let b = h.1 in
    (h.0, omega (arith, b), stamped-push (f.stamp + 1) next es e (omega (arith, b)) is h.2)

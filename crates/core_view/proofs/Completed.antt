-- The part of a cycle in which entries complete, one at a time and all at once.
use Rattle.std.proofs.Common.{◌≡◌, ℕ, zero, suc, ◌<◌, ◌≤◌, Bool, true, false, List, [], ◌∷◌, length, get_or, Option, Some, None, refl, sym, ap, subst, arith}
use Rattle.std.specs.Prelude.{if◌then◌else◌}
use Rattle.core_view.specs.declared.span.Bytes.{Bytes}
use Rattle.core_view.specs.declared.outcome.Outcome.{Outcome}
use Rattle.core_view.specs.declared.outcome.Outcome.TheVariants.{Goes, Stops}
use Rattle.core_view.specs.declared.entry.Execution.{Execution}
use Rattle.core_view.specs.declared.entry.Stage.{Stage}
use Rattle.core_view.specs.declared.entry.Entry.{Entry}
use Rattle.core_view.specs.Outcomes.{bytes_written}
use Rattle.core_view.specs.Flight.{span_read, span_in, touches, before_touch}
use Rattle.core_view.specs.Events.{is_mispredicted, completed_entry, kept_after, complete_in, due_at, completed_by, completed_at, completed_from}
use Rattle.core_view.proofs.Sound.{due_stage}

-- a conflict is the same before and after the load is done
pub due_span : (cycle : ℕ) (s : Stage) (x : Execution) → due_at cycle s ≡ Some x → span_read s ≡ span_in x.outcome
due_span cycle s x h = ap span_read (due_stage cycle s x h)

-- two squashes may be made in either order
before_before : (a b : Option Bytes) (es : List Entry) → before_touch a (before_touch b es) ≡ before_touch b (before_touch a es)
before_before a b [] = refl
before_before a b (e ∷ es) = go (touches a (span_read e.stage)) (touches b (span_read e.stage)) refl refl (before_before a b es)
  where
    go : (s t : Bool) → touches a (span_read e.stage) ≡ s → touches b (span_read e.stage) ≡ t → before_touch a (before_touch b es) ≡ before_touch b (before_touch a es)
        → before_touch a (if t then [] else e ∷ before_touch b es) ≡ before_touch b (if s then [] else e ∷ before_touch a es)
    go true true p q ih = refl
    go true false p q ih = rw p refl
    go false true p q ih = rw q refl
    go false false p q ih = rw (p, q) (ap (λ fs. e ∷ fs) ih)

kept_before : (b : Option Bytes) (e : Entry) (outcome : Outcome) (es : List Entry) → before_touch b (kept_after e outcome es) ≡ kept_after e outcome (before_touch b es)
kept_before b e (Stops why) es = refl
kept_before b e (Goes step) es = go (is_mispredicted e step)
  where
    go : (t : Bool) → before_touch b (if t then [] else before_touch (bytes_written step.access) es) ≡ (if t then [] else before_touch (bytes_written step.access) (before_touch b es))
    go true = refl
    go false = before_before b (bytes_written step.access) es

-- what a conflict squashes doesn't depend on what completes meanwhile
complete_before : (cycle : ℕ) (b : Option Bytes) (es : List Entry) → completed_at cycle (before_touch b es) ≡ before_touch b (completed_at cycle es)
complete_before cycle b [] = refl
complete_before cycle b (e ∷ es) = go (touches b (span_read e.stage)) (due_at cycle e.stage) refl refl (complete_before cycle b es)
  where
    go : (t : Bool) (d : Option Execution) → touches b (span_read e.stage) ≡ t → due_at cycle e.stage ≡ d → completed_at cycle (before_touch b es) ≡ before_touch b (completed_at cycle es)
        → completed_at cycle (if t then [] else e ∷ before_touch b es) ≡ before_touch b (completed_by d e (completed_at cycle es))
    go true None p q ih = rw p refl
    go true (Some x) p q ih =
        let here : touches b (span_in x.outcome) ≡ true = subst (λ s. touches b s ≡ true) (due_span cycle e.stage x q) p in
        rw here refl
    go false None p q ih = rw (p, q, ih) refl
    go false (Some x) p q ih =
        let here : touches b (span_in x.outcome) ≡ false = subst (λ s. touches b s ≡ false) (due_span cycle e.stage x q) p in
        rw (here, q, ih) (ap (λ fs. completed_entry e x ∷ fs) (sym (kept_before b e x.outcome (completed_at cycle es))))

kept_complete : (cycle : ℕ) (e : Entry) (outcome : Outcome) (es : List Entry) → completed_at cycle (kept_after e outcome es) ≡ kept_after e outcome (completed_at cycle es)
kept_complete cycle e (Stops why) es = refl
kept_complete cycle e (Goes step) es = go (is_mispredicted e step)
  where
    go : (t : Bool) → completed_at cycle (if t then [] else before_touch (bytes_written step.access) es) ≡ (if t then [] else before_touch (bytes_written step.access) (completed_at cycle es))
    go true = refl
    go false = complete_before cycle (bytes_written step.access) es

-- ---- oldest first: each step is one event or none, and what is to come stays the same

pub from_skip : (cycle i : ℕ) (es : List Entry) (d : Entry) → i < length es → due_at cycle (get_or es i d).stage ≡ None → completed_from cycle (suc i) es ≡ completed_from cycle i es
from_skip cycle i [] d lt q = absurd (omega arith)
from_skip cycle zero (e ∷ es) d lt q = rw q refl
from_skip cycle (suc i) (e ∷ es) d lt q = ap (λ fs. e ∷ fs) (from_skip cycle i es d (omega arith) q)

pub from_step : (cycle i : ℕ) (es : List Entry) (d : Entry) (x : Execution) → i < length es → due_at cycle (get_or es i d).stage ≡ Some x → completed_from cycle (suc i) (complete_in es i x) ≡ completed_from cycle i es
from_step cycle i [] d x lt q = absurd (omega arith)
from_step cycle zero (e ∷ es) d x lt q = rw q (ap (λ fs. completed_entry e x ∷ fs) (kept_complete cycle e x.outcome es))
from_step cycle (suc i) (e ∷ es) d x lt q = ap (λ fs. e ∷ fs) (from_step cycle i es d x (omega arith) q)

pub from_end : (cycle i : ℕ) (es : List Entry) → length es ≤ i → completed_from cycle i es ≡ es
from_end cycle zero [] le = refl
from_end cycle zero (e ∷ es) le = absurd (omega arith)
from_end cycle (suc i) [] le = refl
from_end cycle (suc i) (e ∷ es) le = ap (λ fs. e ∷ fs) (from_end cycle i es (omega arith))

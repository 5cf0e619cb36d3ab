-- A completion as a ring makes it: the entry is written, and the flight is squashed to a length.
use Rattle.std.proofs.Common.{◌≡◌, ℕ, zero, suc, ◌+◌, ◌<◌, Bool, true, false, List, [], ◌∷◌, length, get_or, take, drop, Option, refl, sym, ap, arith, add-one}
use Rattle.std.specs.Prelude.{set, if◌then◌else◌}
use Rattle.std.proofs.Math.Seq.{take-length}
use Rattle.core_view.specs.declared.span.Bytes.{Bytes}
use Rattle.core_view.specs.declared.outcome.Outcome.{Outcome}
use Rattle.core_view.specs.declared.outcome.Outcome.TheVariants.{Goes, Stops}
use Rattle.core_view.specs.declared.entry.Execution.{Execution}
use Rattle.core_view.specs.declared.entry.Entry.{Entry}
use Rattle.core_view.specs.Outcomes.{bytes_written}
use Rattle.core_view.specs.Flight.{span_read, touches, before_touch, clean_length}
use Rattle.core_view.specs.Events.{is_mispredicted, kept_after, kept_length, completed_entry, complete_in}

pub before_take : (b : Option Bytes) (es : List Entry) → before_touch b es ≡ take (clean_length b es) es
before_take b [] = refl
before_take b (e ∷ es) = go (touches b (span_read e.stage)) (before_take b es)
  where
    go : (t : Bool) → before_touch b es ≡ take (clean_length b es) es → (if t then [] else e ∷ before_touch b es) ≡ take (if t then 0 else clean_length b es + 1) (e ∷ es)
    go true ih = refl
    go false ih = rw (add-one, ih) refl

pub kept_take : (e : Entry) (o : Outcome) (es : List Entry) → kept_after e o es ≡ take (kept_length e o es) es
kept_take e (Stops why) es = sym (take-length es)
kept_take e (Goes step) es = go (is_mispredicted e step)
  where
    go : (t : Bool) → (if t then [] else before_touch (bytes_written step.access) es) ≡ take (if t then 0 else clean_length (bytes_written step.access) es) es
    go true = refl
    go false = before_take (bytes_written step.access) es

pub complete_take : (es : List Entry) (i : ℕ) (x : Execution) (d : Entry) → i < length es
    → complete_in es i x ≡ take (i + 1 + kept_length (get_or es i d) x.outcome (drop (i + 1) es)) (set es i (completed_entry (get_or es i d) x))
complete_take [] i x d lt = absurd (omega arith)
complete_take (e ∷ es) zero x d lt =
    let len : 0 + 1 + kept_length e x.outcome es ≡ suc (kept_length e x.outcome es) = omega arith in
    rw (len, kept_take e x.outcome es) refl
complete_take (e ∷ es) (suc i) x d lt =
    let one : suc i + 1 ≡ suc (i + 1) = omega arith in
    let len : suc (i + 1) + kept_length (get_or es i d) x.outcome (drop (i + 1) es) ≡ suc (i + 1 + kept_length (get_or es i d) x.outcome (drop (i + 1) es)) = omega arith in
    rw (one, len) (ap (λ fs. e ∷ fs) (complete_take es i x d (omega arith)))

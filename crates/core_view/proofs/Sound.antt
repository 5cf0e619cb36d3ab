-- A flight stays sound through each event.
use Rattle.std.proofs.Common.{◌≡◌, ℕ, zero, suc, ◌%◌, ◌<◌, Bool, true, false, not, ◌&&◌, List, [], ◌∷◌, ◌++◌, length, get_or, take, Option, Some, None, refl, sym, ap, subst, ◌∙◌, arith, inl, inr, ◌⊎◌}
use Rattle.std.specs.Prelude.{set, ◌==◌, if◌then◌else◌}
use Rattle.std.proofs.lemmas.Bool.Decides.{nat_tests}
use Rattle.core_view.specs.declared.operation.Operation.{Operation}
use Rattle.core_view.specs.declared.operation.Operation.TheVariants as operation
use Rattle.core_view.specs.declared.span.Bytes.{Bytes}
use Rattle.core_view.specs.declared.outcome.Step.{Step}
use Rattle.core_view.specs.declared.outcome.Outcome.{Outcome}
use Rattle.core_view.specs.declared.outcome.Outcome.TheVariants.{Goes, Stops}
use Rattle.core_view.specs.declared.entry.Execution.{Execution}
use Rattle.core_view.specs.declared.entry.Stage.{Stage}
use Rattle.core_view.specs.declared.entry.Stage.TheVariants.{Fetched, Queued, Issued, Done}
use Rattle.core_view.specs.declared.entry.Entry.{Entry}
use Rattle.core_view.specs.Operations.{stops_at_fetch, is_guessed, unguessed_next, first_source_of, second_source_of}
use Rattle.core_view.specs.Outcomes.{Image, bytes_written, outcome_in}
use Rattle.core_view.specs.Flight.{Seen, is_open, result_of, bytes_done, span_read, span_in, seen_with, seen_after, seen_past, pc_past, IsOutcome, HasOutcome, GoesOnAt, IsFollowed, IsSoundEntry, IsSound, touches, before_touch, IsUntouched}
use Rattle.core_view.specs.Events.{completed_entry, followed_by, is_mispredicted, kept_after, complete_in, due_at, completed_by, completed_at}
use Rattle.core_view.proofs.Seen.{Grows, IsBelow, below_after, below_stage, below_done, source_grows, outcome_same}
use Rattle.core_view.proofs.Steps.{GoesOnAligned, outcome_aligned, outcome_unguessed}

-- ---- other registers known, other bytes outside what was read

outcome_more : (image : Image) (b : Option Bytes) (seen more : Seen) (o : Operation) (pc : ℕ) (outcome : Outcome) → IsBelow b seen more → touches b (span_in outcome) ≡ false → IsOutcome image seen o pc outcome → IsOutcome image more o pc outcome
outcome_more image b seen more o pc outcome h t out =
    let apart : touches b (span_in (outcome_in image seen.bytes o pc out.first out.second)) ≡ false = subst (λ p. touches b (span_in p) ≡ false) out.is t in
    record {
      first = out.first;
      second = out.second;
      first_ready = source_grows seen.registers more.registers (first_source_of o) h.registers out.first out.first_ready;
      second_ready = source_grows seen.registers more.registers (second_source_of o) h.registers out.second out.second_ready;
      is = out.is ∙ outcome_same image seen.bytes more.bytes b o pc out.first out.second h.agree apart;
    }

HasOutcome-more : (image : Image) (b : Option Bytes) (seen more : Seen) (o : Operation) (pc : ℕ) (s : Stage) → IsBelow b seen more → touches b (span_read s) ≡ false → HasOutcome image seen o pc s → HasOutcome image more o pc s
HasOutcome-more image b seen more o pc Fetched h t has = tt
HasOutcome-more image b seen more o pc Queued h t has = has
HasOutcome-more image b seen more o pc (Issued x) h t has = (has.0, outcome_more image b seen more o pc x.outcome h t has.1)
HasOutcome-more image b seen more o pc (Done x) h t has = outcome_more image b seen more o pc x.outcome h t has

-- where more is known, and no issued load read a byte of b, a change of these bytes breaks nothing
pub sound_more : (image : Image) (b : Option Bytes) (seen more : Seen) (pc : ℕ) (es : List Entry) → IsBelow b seen more → IsUntouched b es → IsSound image seen pc es → IsSound image more pc es
sound_more image b seen more pc [] h u s = tt
sound_more image b seen more pc (e ∷ es) h u s = (
  record { place = s.0.place; operation = s.0.operation; outcome = HasOutcome-more image b seen more e.operation e.pc e.stage h u.0 s.0.outcome; followed = s.0.followed },
  s.1,
  sound_more image b (seen_after seen e) (seen_after more e) e.followed es (below_after b seen more e h) u.1 s.2,
)

pub untouched_none : (es : List Entry) → IsUntouched None es
untouched_none [] = tt
untouched_none (e ∷ es) = (refl, untouched_none es)

-- ---- what stands before the oldest conflict

pub before_untouched : (b : Option Bytes) (es : List Entry) → IsUntouched b (before_touch b es)
before_untouched b [] = tt
before_untouched b (e ∷ es) = go (touches b (span_read e.stage)) refl (before_untouched b es)
  where
    go : (t : Bool) → touches b (span_read e.stage) ≡ t → IsUntouched b (before_touch b es) → IsUntouched b (if t then [] else e ∷ before_touch b es)
    go true is h = tt
    go false is h = (is, h)

pub sound_before : (image : Image) (b : Option Bytes) (seen : Seen) (pc : ℕ) (es : List Entry) → IsSound image seen pc es → IsSound image seen pc (before_touch b es)
sound_before image b seen pc [] s = tt
sound_before image b seen pc (e ∷ es) s = go (touches b (span_read e.stage)) (sound_before image b (seen_after seen e) e.followed es s.2)
  where
    go : (t : Bool) → IsSound image (seen_after seen e) e.followed (before_touch b es) → IsSound image seen pc (if t then [] else e ∷ before_touch b es)
    go true h = tt
    go false h = (s.0, (λ stop. ap (before_touch b) (s.1 stop)), h)

-- ---- one entry completes

-- the outcome of an issued entry
issued_outcome : (image : Image) (seen : Seen) (pc : ℕ) (e : Entry) (x : Execution) → e.stage ≡ Issued x → IsSoundEntry image seen pc e → IsOutcome image seen e.operation e.pc x.outcome
issued_outcome image seen pc e x stage s = let has : HasOutcome image seen e.operation e.pc (Issued x) = subst (λ t. HasOutcome image seen e.operation e.pc t) stage s.outcome in has.1

-- it goes on at a multiple of four, and where it isn't guessed as it was followed
outcome_goes : (image : Image) (seen : Seen) (pc : ℕ) (o : Operation) (outcome : Outcome) → pc % 4 ≡ 0 → IsOutcome image seen o pc outcome → GoesOnAligned outcome × (is_guessed o ≡ false → GoesOnAt (unguessed_next o pc) outcome)
outcome_goes image seen pc o outcome aligned out = (
  subst GoesOnAligned (sym out.is) (outcome_aligned image seen.bytes o pc out.first out.second aligned),
  (λ unguessed. subst (GoesOnAt (unguessed_next o pc)) (sym out.is) (outcome_unguessed image seen.bytes o pc out.first out.second unguessed)),
)

complete_entry : (image : Image) (seen : Seen) (pc : ℕ) (e : Entry) (x : Execution) → pc % 4 ≡ 0 → e.stage ≡ Issued x → IsSoundEntry image seen pc e → IsSoundEntry image seen pc (completed_entry e x)
complete_entry image seen pc e x aligned stage s =
    let out = issued_outcome image seen pc e x stage s in
    let here : e.pc % 4 ≡ 0 = ap (λ p. p % 4) s.place ∙ aligned in
    let goes = outcome_goes image seen e.pc e.operation x.outcome here out in
    record { place = s.place; operation = s.operation; outcome = out; followed = follows x.outcome goes.0 goes.1 }
  where
    follows : (outcome : Outcome) → GoesOnAligned outcome → (is_guessed e.operation ≡ false → GoesOnAt (unguessed_next e.operation e.pc) outcome) → IsFollowed e.operation e.pc (Done (record { due = x.due; miss = x.miss; outcome = outcome })) (followed_by e.followed outcome)
    follows (Goes step) four on = record { aligned = four; unguessed = λ h. sym (on h); settled = refl }
    follows (Stops why) four on = record { aligned = s.followed.aligned; unguessed = s.followed.unguessed; settled = tt }

pub kept_nil : (e : Entry) (outcome : Outcome) → kept_after e outcome [] ≡ []
kept_nil e (Goes step) = go (is_mispredicted e step)
  where
    go : (t : Bool) → (if t then [] else before_touch (bytes_written step.access) []) ≡ []
    go true = refl
    go false = refl
kept_nil e (Stops why) = refl

-- where the guess was right, or there was none, the true next pc was followed
right_guess : (e : Entry) (step : Step) → is_mispredicted e step ≡ false → (is_guessed e.operation ≡ false → e.followed ≡ step.next) → e.followed ≡ step.next
right_guess e step h unguessed = go (is_guessed e.operation) refl h
  where
    go : (t : Bool) → is_guessed e.operation ≡ t → (t && not (e.followed == step.next)) ≡ false → e.followed ≡ step.next
    go true is same = grind (arith, nat_tests, same)
    go false is same = unguessed is

-- what is kept is sound over what the entry now lets it see
kept_sound : (image : Image) (seen : Seen) (pc : ℕ) (e : Entry) (x : Execution) (es : List Entry) → pc % 4 ≡ 0 → e.stage ≡ Issued x → IsSoundEntry image seen pc e → IsSound image (seen_after seen e) e.followed es
    → IsSound image (seen_with seen e.operation (Done x)) (followed_by e.followed x.outcome) (kept_after e x.outcome es)
kept_sound image seen pc e x es aligned stage entry s =
    let here : e.pc % 4 ≡ 0 = ap (λ p. p % 4) entry.place ∙ aligned in
    by_outcome x.outcome refl (outcome_goes image seen e.pc e.operation x.outcome here (issued_outcome image seen pc e x stage entry)).1
  where
    issued : IsSound image (seen_with seen e.operation (Issued x)) e.followed es
    issued = subst (λ t. IsSound image (seen_with seen e.operation t) e.followed es) stage s

    by_outcome : (outcome : Outcome) → x.outcome ≡ outcome → (is_guessed e.operation ≡ false → GoesOnAt (unguessed_next e.operation e.pc) outcome)
        → IsSound image (seen_with seen e.operation (Done x)) (followed_by e.followed outcome) (kept_after e outcome es)
    by_outcome (Stops why) is on =
        sound_more image None (seen_with seen e.operation (Issued x)) (seen_with seen e.operation (Done x)) e.followed es
        (below_stage seen e.operation (Issued x) (Done x) (λ v h. absurd (let bad : None ≡ Some v = h in cc)) (sym (ap (λ outcome. bytes_done (Done (record { due = x.due; miss = x.miss; outcome = outcome }))) is)))
        (untouched_none es) issued
    by_outcome (Goes step) is on = go (is_mispredicted e step) refl
      where
        b : Option Bytes
        b = bytes_written step.access

        go : (t : Bool) → is_mispredicted e step ≡ t → IsSound image (seen_with seen e.operation (Done x)) step.next (if t then [] else before_touch b es)
        go true wrong = tt
        go false right =
            let same : e.followed ≡ step.next = right_guess e step right (λ h. entry.followed.unguessed h ∙ on h) in
            let at_next : IsSound image (seen_with seen e.operation (Issued x)) step.next es = subst (λ p. IsSound image (seen_with seen e.operation (Issued x)) p es) same issued in
            let writes : bytes_done (Done x) ≡ b = ap (λ outcome. bytes_done (Done (record { due = x.due; miss = x.miss; outcome = outcome }))) is in
            let below : IsBelow b (seen_with seen e.operation (Issued x)) (seen_with seen e.operation (Done x)) = subst (λ c. IsBelow c (seen_with seen e.operation (Issued x)) (seen_with seen e.operation (Done x))) writes (below_done seen e.operation x) in
            sound_more image b (seen_with seen e.operation (Issued x)) (seen_with seen e.operation (Done x)) step.next (before_touch b es) below (before_untouched b es)
            (sound_before image b (seen_with seen e.operation (Issued x)) step.next es at_next)

pub sound_done : (image : Image) (seen : Seen) (pc : ℕ) (e : Entry) (x : Execution) (es : List Entry) → pc % 4 ≡ 0 → e.stage ≡ Issued x → IsSound image seen pc (e ∷ es) → IsSound image seen pc (completed_entry e x ∷ kept_after e x.outcome es)
sound_done image seen pc e x es aligned stage s = (
  complete_entry image seen pc e x aligned stage s.0,
  (λ stop. ap (kept_after e x.outcome) (s.1 stop) ∙ kept_nil e x.outcome),
  kept_sound image seen pc e x es aligned stage s.0 s.2,
)

-- the entry at a place completes
pub sound_complete : (image : Image) (seen : Seen) (pc : ℕ) (es : List Entry) (i : ℕ) (x : Execution) (d : Entry) → pc % 4 ≡ 0 → i < length es → (get_or es i d).stage ≡ Issued x → IsSound image seen pc es → IsSound image seen pc (complete_in es i x)
sound_complete image seen pc [] i x d aligned lt stage s = tt
sound_complete image seen pc (e ∷ es) zero x d aligned lt stage s = sound_done image seen pc e x es aligned stage s
sound_complete image seen pc (e ∷ es) (suc i) x d aligned lt stage s = (
  s.0,
  (λ stop. ap (λ fs. complete_in fs i x) (s.1 stop)),
  sound_complete image (seen_after seen e) e.followed es i x d s.0.followed.aligned (omega arith) stage s.2,
)

-- what is due was issued
pub due_stage : (cycle : ℕ) (s : Stage) (x : Execution) → due_at cycle s ≡ Some x → s ≡ Issued x
due_stage cycle Fetched x h = absurd cc
due_stage cycle Queued x h = absurd cc
due_stage cycle (Issued y) x h = go (y.due == cycle) h
  where
    go : (t : Bool) → (if t then Some y else None) ≡ Some x → Issued y ≡ Issued x
    go true is = cc
    go false is = absurd cc
due_stage cycle (Done y) x h = absurd cc

-- all that are due complete, oldest first
pub sound_completed : (image : Image) (seen : Seen) (pc cycle : ℕ) (es : List Entry) → pc % 4 ≡ 0 → IsSound image seen pc es → IsSound image seen pc (completed_at cycle es)
sound_completed image seen pc cycle [] aligned s = tt
sound_completed image seen pc cycle (e ∷ es) aligned s =
    go (due_at cycle e.stage) refl (s.0, (λ stop. ap (completed_at cycle) (s.1 stop)), sound_completed image (seen_after seen e) e.followed cycle es s.0.followed.aligned s.2)
  where
    go : (due : Option Execution) → due_at cycle e.stage ≡ due → IsSound image seen pc (e ∷ completed_at cycle es) → IsSound image seen pc (completed_by due e (completed_at cycle es))
    go None is h = h
    go (Some x) is h = sound_done image seen pc e x (completed_at cycle es) aligned (due_stage cycle e.stage x is) h

-- ---- the entry at a place, what stands before it, and a new one

pub sound_at : (image : Image) (seen : Seen) (pc : ℕ) (es : List Entry) (i : ℕ) (d : Entry) → i < length es → IsSound image seen pc es
    → IsSoundEntry image (seen_past seen (take i es)) (pc_past pc (take i es)) (get_or es i d)
sound_at image seen pc [] i d lt s = absurd (omega arith)
sound_at image seen pc (e ∷ es) zero d lt s = s.0
sound_at image seen pc (e ∷ es) (suc i) d lt s = sound_at image (seen_after seen e) e.followed es i d (omega arith) s.2

take_nil : {A : Type 0} (i : ℕ) → take {A = A} i [] ≡ []
take_nil zero = refl
take_nil (suc i) = refl

-- what stands before a place is sound
pub sound_take : (image : Image) (seen : Seen) (pc : ℕ) (es : List Entry) (i : ℕ) → IsSound image seen pc es → IsSound image seen pc (take i es)
sound_take image seen pc es zero s = tt
sound_take image seen pc [] (suc i) s = tt
sound_take image seen pc (e ∷ es) (suc i) s = (s.0, (λ stop. ap (take i) (s.1 stop) ∙ take_nil i), sound_take image (seen_after seen e) e.followed es i s.2)

-- the pc where a sound flight ends is a multiple of four
pub end_aligned : (image : Image) (seen : Seen) (pc : ℕ) (es : List Entry) → pc % 4 ≡ 0 → IsSound image seen pc es → pc_past pc es % 4 ≡ 0
end_aligned image seen pc [] aligned s = aligned
end_aligned image seen pc (e ∷ es) aligned s = end_aligned image (seen_after seen e) e.followed es s.0.followed.aligned s.2

open_or_stop : (o : Operation) → (stops_at_fetch o ≡ true) ⊎ (not (stops_at_fetch o) ≡ true)
open_or_stop (operation.Performs insn) = inr refl
open_or_stop (operation.Stops why) = inl refl

-- no entry before another one stops at fetch
pub is_open_take : (image : Image) (seen : Seen) (pc : ℕ) (es : List Entry) (i : ℕ) → i < length es → IsSound image seen pc es → is_open (take i es) ≡ true
is_open_take image seen pc [] i lt s = absurd (omega arith)
is_open_take image seen pc (e ∷ es) zero lt s = refl
is_open_take image seen pc (e ∷ []) (suc i) lt s = absurd (omega arith)
is_open_take image seen pc (e ∷ f ∷ es) (suc zero) lt s =
    elim (open_or_stop e.operation) [ inl stop ↦ absurd (let bad : (f ∷ es) ≡ [] = s.1 stop in cc) | inr go ↦ go ]
is_open_take image seen pc (e ∷ f ∷ es) (suc (suc i)) lt s = is_open_take image (seen_after seen e) e.followed (f ∷ es) (suc i) (omega arith) s.2

pub sound_push : (image : Image) (seen : Seen) (pc : ℕ) (es : List Entry) (e : Entry) → is_open es ≡ true → IsSound image seen pc es
    → IsSoundEntry image (seen_past seen es) (pc_past pc es) e → IsSound image seen pc (es ++ e ∷ [])
sound_push image seen pc [] e o s h = (h, (λ _. refl), tt)
sound_push image seen pc (f ∷ []) e o s h = (s.0, (λ stop. absurd (let bad : not true ≡ true = subst (λ b. not b ≡ true) stop o in cc)), sound_push image (seen_after seen f) f.followed [] e refl s.2 h)
sound_push image seen pc (f ∷ g ∷ es) e o s h = (s.0, (λ stop. absurd (let bad : (g ∷ es) ≡ [] = s.1 stop in cc)), sound_push image (seen_after seen f) f.followed (g ∷ es) e o s.2 h)

-- an entry is replaced at a place, and all after it are squashed
pub sound_cut : (image : Image) (seen : Seen) (pc : ℕ) (es : List Entry) (i : ℕ) (e : Entry) → i < length es → IsSound image seen pc es
    → IsSoundEntry image (seen_past seen (take i es)) (pc_past pc (take i es)) e → IsSound image seen pc (take i es ++ e ∷ [])
sound_cut image seen pc es i e lt s h = sound_push image seen pc (take i es) e (is_open_take image seen pc es i lt s) (sound_take image seen pc es i s) h

-- one entry goes on, and what is known of its result stays known; it shows no other bytes than before
pub sound_set : (image : Image) (seen : Seen) (pc : ℕ) (es : List Entry) (i : ℕ) (d e : Entry) → i < length es → IsSound image seen pc es
    → IsSoundEntry image (seen_past seen (take i es)) (pc_past pc (take i es)) e
    → e.operation ≡ (get_or es i d).operation → e.followed ≡ (get_or es i d).followed
    → Grows (result_of (get_or es i d).stage) (result_of e.stage) → bytes_done (get_or es i d).stage ≡ bytes_done e.stage
    → IsSound image seen pc (set es i e)
sound_set image seen pc [] i d e lt s h same_operation same_followed g same_bytes = absurd (omega arith)
sound_set image seen pc (f ∷ es) zero d e lt s h same_operation same_followed g same_bytes = (
  h,
  (λ stop. s.1 (ap stops_at_fetch (sym same_operation) ∙ stop)),
  rw (same_followed, same_operation) (sound_more image None (seen_after seen f) (seen_with seen f.operation e.stage) f.followed es
      (below_stage seen f.operation f.stage e.stage g same_bytes) (untouched_none es) s.2),
)
sound_set image seen pc (f ∷ es) (suc i) d e lt s h same_operation same_followed g same_bytes = (
  s.0,
  (λ stop. absurd (let none : es ≡ [] = s.1 stop in omega (arith, ap length none))),
  sound_set image (seen_after seen f) f.followed es i d e (omega arith) s.2 h same_operation same_followed g same_bytes,
)

-- Where a cycle squashes in a flight: at the first place that a kept entry names.
use Rattle.std.proofs.Common.{◌≡◌, ℕ, zero, suc, ◌+◌, ◌<◌, ◌≤◌, Bool, true, false, List, [], ◌∷◌, length, take, map, min, Option, Some, None, option_map, refl, sym, ap, subst, ◌∙◌, arith, inl, inr, add-one}
use Rattle.std.specs.Prelude.{nat_lt, if◌then◌else◌}
use Rattle.std.proofs.lemmas.Bool.{cases_lt}
use Rattle.std.proofs.lemmas.Bool.Decides.{nat_tests}
use Rattle.core_view.specs.declared.span.Bytes.{Bytes}
use Rattle.core_view.specs.declared.outcome.Step.{Step}
use Rattle.core_view.specs.declared.outcome.Outcome.{Outcome}
use Rattle.core_view.specs.declared.outcome.Outcome.TheVariants.{Goes, Stops}
use Rattle.core_view.specs.declared.entry.Execution.{Execution}
use Rattle.core_view.specs.declared.entry.Entry.{Entry}
use Rattle.core_view.specs.Outcomes.{bytes_written}
use Rattle.core_view.specs.Flight.{span_read, touches, before_touch, clean_length}
use Rattle.core_view.specs.Events.{is_mispredicted, kept_after, due_at, completed_by, completed_at, completed_one, completed_if, named_by, named_at, IsCutAt}
use Rattle.core_view.proofs.Completed.{due_span}

-- ---- one list is the front of another

abbrev pub IsFront : List Entry → List Entry → Type 0
IsFront [] ys = Unit {0}
IsFront (x ∷ xs) [] = ⊥
IsFront (x ∷ xs) (y ∷ ys) = (x ≡ y) × IsFront xs ys

pub front_take : (xs ys : List Entry) → IsFront xs ys → xs ≡ take (length xs) ys
front_take [] ys h = refl
front_take (x ∷ xs) [] h = absurd h
front_take (x ∷ xs) (y ∷ ys) h = let t = front_take xs ys h.1 in let e = h.0 in cc

pub front_length : (xs ys : List Entry) → IsFront xs ys → length xs ≤ length ys
front_length [] ys h = omega arith
front_length (x ∷ xs) [] h = absurd h
front_length (x ∷ xs) (y ∷ ys) h = omega (arith, front_length xs ys h.1)

front_before : (b : Option Bytes) (xs ys : List Entry) → IsFront xs ys → IsFront (before_touch b xs) ys
front_before b [] ys h = tt
front_before b (x ∷ xs) [] h = absurd h
front_before b (x ∷ xs) (y ∷ ys) h = go (touches b (span_read x.stage)) (h.0, front_before b xs ys h.1)
  where
    go : (t : Bool) → IsFront (x ∷ before_touch b xs) (y ∷ ys) → IsFront (if t then [] else x ∷ before_touch b xs) (y ∷ ys)
    go true f = tt
    go false f = f

front_kept : (e : Entry) (outcome : Outcome) (xs ys : List Entry) → IsFront xs ys → IsFront (kept_after e outcome xs) ys
front_kept e (Stops why) xs ys h = h
front_kept e (Goes step) xs ys h = go (is_mispredicted e step)
  where
    go : (t : Bool) → IsFront (if t then [] else before_touch (bytes_written step.access) xs) ys
    go true = tt
    go false = front_before (bytes_written step.access) xs ys h

-- what is left is a front of the entries, each completed where it is due
pub completed_front : (cycle : ℕ) (es : List Entry) → IsFront (completed_at cycle es) (map (completed_one cycle) es)
completed_front cycle [] = tt
completed_front cycle (e ∷ es) = go (due_at cycle e.stage) (completed_front cycle es)
  where
    go : (d : Option Execution) → IsFront (completed_at cycle es) (map (completed_one cycle) es) → IsFront (completed_by d e (completed_at cycle es)) (completed_if d e ∷ map (completed_one cycle) es)
    go None h = (refl, h)
    go (Some x) h = (refl, front_kept e x.outcome (completed_at cycle es) (map (completed_one cycle) es) h)

-- ---- how much of a front stands before the oldest conflict

one_span : (cycle : ℕ) (e : Entry) → span_read (completed_one cycle e).stage ≡ span_read e.stage
one_span cycle e = go (due_at cycle e.stage) refl
  where
    go : (d : Option Execution) → due_at cycle e.stage ≡ d → span_read (completed_if d e).stage ≡ span_read e.stage
    go None q = refl
    go (Some x) q = sym (due_span cycle e.stage x q)

before_length : (cycle : ℕ) (b : Option Bytes) (xs es : List Entry) → IsFront xs (map (completed_one cycle) es) → length (before_touch b xs) ≡ min (clean_length b es) (length xs)
before_length cycle b [] es h = omega arith
before_length cycle b (x ∷ xs) [] h = absurd h
before_length cycle b (x ∷ xs) (e ∷ es) h =
    let same : touches b (span_read x.stage) ≡ touches b (span_read e.stage) = ap (λ y. touches b (span_read y.stage)) h.0 ∙ ap (touches b) (one_span cycle e) in
    rw same (go (touches b (span_read e.stage)) (before_length cycle b xs es h.1))
  where
    go : (t : Bool) → length (before_touch b xs) ≡ min (clean_length b es) (length xs) → length (if t then [] else x ∷ before_touch b xs) ≡ min (if t then 0 else clean_length b es + 1) (length (x ∷ xs))
    go true ih = omega arith
    go false ih = omega (arith, ih)

-- ---- the squash

more_some : (o : Option ℕ) (p : ℕ) → option_map (λ (q : ℕ). q + 1) o ≡ Some p → (q : ℕ) × (o ≡ Some q) × (p ≡ q + 1)
more_some None p h = absurd cc
more_some (Some q) p h = (q, refl, cc)

-- the rest is squashed from j on, and the first entry names nothing below
cut_cons : (cycle : ℕ) (e : Entry) (es : List Entry) (j : ℕ) → IsCutAt cycle es j → ((p : ℕ) → named_at cycle (e ∷ es) 0 ≡ Some p → j + 1 ≤ p) → IsCutAt cycle (e ∷ es) (j + 1)
cut_cons cycle e es j c h =
    record {
      fits = let f = c.fits in omega arith;
      first = λ i p lt is. by_place i p lt is;
      named = elim c.named [ inl all ↦ inl (omega (arith, all)) | inr n ↦ let up : named_at cycle (e ∷ es) (suc n.0) ≡ Some (j + 1) = ap (option_map (λ (q : ℕ). q + 1)) n.2 in inr (suc n.0, let lt = n.1 in omega (arith, lt), up) ];
    }
  where
    by_place : (i p : ℕ) → i < j + 1 → named_at cycle (e ∷ es) i ≡ Some p → j + 1 ≤ p
    by_place zero p lt is = h p is
    by_place (suc i) p lt is =
        let m = more_some (named_at cycle es i) p is in
        let le : j ≤ m.0 = c.first i m.0 (omega arith) m.1 in
        let up = m.2 in
        omega (arith, up)

-- the first entry names place j, before which the rest names nothing
cut_here : (cycle : ℕ) (e : Entry) (es : List Entry) (j k : ℕ) → IsCutAt cycle es k → j ≤ k → named_at cycle (e ∷ es) 0 ≡ Some (j + 1) → IsCutAt cycle (e ∷ es) (j + 1)
cut_here cycle e es j k c le is =
    record {
      fits = let f = c.fits in omega arith;
      first = λ i p lt n. by_place i p lt n;
      named = inr (0, omega arith, is);
    }
  where
    by_place : (i p : ℕ) → i < j + 1 → named_at cycle (e ∷ es) i ≡ Some p → j + 1 ≤ p
    by_place zero p lt n = let same : Some (j + 1) ≡ Some p = sym is ∙ n in let q : j + 1 ≡ p = cc in omega (arith, q)
    by_place (suc i) p lt n =
        let m = more_some (named_at cycle es i) p n in
        let below : k ≤ m.0 = c.first i m.0 (omega arith) m.1 in
        let up = m.2 in
        omega (arith, up)

-- completion squashes from the first place of a flight that a kept entry names
pub cut_at : (cycle : ℕ) (es : List Entry) → IsCutAt cycle es (length (completed_at cycle es))
cut_at cycle [] = record { fits = omega arith; first = λ i p lt is. absurd (omega arith); named = inl refl }
cut_at cycle (e ∷ es) = go (due_at cycle e.stage) refl (cut_at cycle es)
  where
    rest : List Entry
    rest = completed_at cycle es

    nothing : (d : Option Execution) → due_at cycle e.stage ≡ d → named_by d e es ≡ None → (p : ℕ) → named_at cycle (e ∷ es) 0 ≡ Some p → length rest + 1 ≤ p
    nothing d q none p is = absurd (
        let one : option_map (λ (n : ℕ). n + 1) (named_by d e es) ≡ Some p = subst (λ x. option_map (λ (n : ℕ). n + 1) (named_by x e es) ≡ Some p) q is in
        let two : option_map (λ (n : ℕ). n + 1) None ≡ Some p = subst (λ x. option_map (λ (n : ℕ). n + 1) x ≡ Some p) none one in
        cc)

    by_length : (x : Execution) (step : Step) (t : Bool) → due_at cycle e.stage ≡ Some x → x.outcome ≡ Goes step → is_mispredicted e step ≡ false → nat_lt (clean_length (bytes_written step.access) es) (length es) ≡ t
        → length (before_touch (bytes_written step.access) rest) ≡ min (clean_length (bytes_written step.access) es) (length rest)
        → IsCutAt cycle es (length rest) → IsCutAt cycle (e ∷ es) (length (before_touch (bytes_written step.access) rest) + 1)
    by_length x step true q o g n len c =
        elim (cases_lt (clean_length (bytes_written step.access) es) (length rest)) [
          | inl lt ↦
              let m : length (before_touch (bytes_written step.access) rest) ≡ clean_length (bytes_written step.access) es = omega (arith, len) in
              rw m (cut_here cycle e es (clean_length (bytes_written step.access) es) (length rest) c (omega arith) (rw (q, o, g, n) refl))
          | inr ge ↦
              let m : length (before_touch (bytes_written step.access) rest) ≡ length rest = omega (arith, len) in
              let names : named_at cycle (e ∷ es) 0 ≡ Some (clean_length (bytes_written step.access) es + 1) = rw (q, o, g, n) refl in
              rw m (cut_cons cycle e es (length rest) c (λ p is. let same : Some (clean_length (bytes_written step.access) es + 1) ≡ Some p = sym names ∙ is in let at : clean_length (bytes_written step.access) es + 1 ≡ p = cc in omega (arith, at)))
        ]
    by_length x step false q o g n len c =
        let f = c.fits in
        let ge : length es ≤ clean_length (bytes_written step.access) es = grind (arith, nat_tests, n) in
        let m : length (before_touch (bytes_written step.access) rest) ≡ length rest = omega (arith, len) in
        rw m (cut_cons cycle e es (length rest) c (nothing (Some x) q (rw (o, g, n) refl)))

    by_guess : (x : Execution) (step : Step) (t : Bool) → due_at cycle e.stage ≡ Some x → x.outcome ≡ Goes step → is_mispredicted e step ≡ t → IsCutAt cycle es (length rest)
        → IsCutAt cycle (e ∷ es) (suc (length (if t then [] else before_touch (bytes_written step.access) rest)))
    by_guess x step true q o g c = cut_here cycle e es 0 (length rest) c (omega arith) (rw (q, o, g) refl)
    by_guess x step false q o g c =
        rw (← add-one) (by_length x step (nat_lt (clean_length (bytes_written step.access) es) (length es)) q o g refl (before_length cycle (bytes_written step.access) rest es (completed_front cycle es)) c)

    by_outcome : (x : Execution) (outcome : Outcome) → due_at cycle e.stage ≡ Some x → x.outcome ≡ outcome → IsCutAt cycle es (length rest) → IsCutAt cycle (e ∷ es) (suc (length (kept_after e outcome rest)))
    by_outcome x (Goes step) q o c = by_guess x step (is_mispredicted e step) q o refl c
    by_outcome x (Stops why) q o c = rw (← add-one) (cut_cons cycle e es (length rest) c (nothing (Some x) q (rw o refl)))

    go : (d : Option Execution) → due_at cycle e.stage ≡ d → IsCutAt cycle es (length rest) → IsCutAt cycle (e ∷ es) (length (completed_by d e rest))
    go None q c = rw (← add-one) (cut_cons cycle e es (length rest) c (nothing None q refl))
    go (Some x) q c = by_outcome x x.outcome q refl c

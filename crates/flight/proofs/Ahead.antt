-- How many of the entries that are not renamed are guessed, event by event.
use Rattle.std.proofs.Common.{◌≡◌, ℕ, zero, suc, ◌+◌, ◌-◌, ◌%◌, ◌^◌, ◌<◌, ◌≤◌, Bool, true, false, cond, List, [], ◌∷◌, ◌++◌, length, drop, set, refl, sym, ◌∙◌, ap, arith, length-drop}
use Rattle.std.proofs.lemmas.List.Sums.{sum_by-cons, count_by-le-length}
use mir.Val.{bool_byte}
use Rattle.core_view.specs.declared.entry.Entry.{Entry}
use Rattle.core_view.specs.Operations.{is_guessed}
use Rattle.flight.specs.Flights.{entry_in, guesses_ahead}

one-more : (e : Entry) (es : List Entry) → guesses_ahead 0 (e ∷ es) ≡ cond (is_guessed e.operation) 1 0 + guesses_ahead 0 es
one-more e es = sum_by-cons (λ (f : Entry). cond (is_guessed f.operation) 1 0) e es

-- no more than there are
pub guesses-most : (r : ℕ) (es : List Entry) → guesses_ahead r es ≤ length es
guesses-most r es = omega (arith, count_by-le-length (λ (e : Entry). is_guessed e.operation) (drop r es), length-drop r es)

-- those from a place on are the one there and those from the next on
pub guesses-next : (r : ℕ) (es : List Entry) → r < length es → guesses_ahead r es ≡ cond (is_guessed (entry_in es r).operation) 1 0 + guesses_ahead (r + 1) es
guesses-next r [] lt = absurd (omega arith)
guesses-next zero (e ∷ es) lt = one-more e es
guesses-next (suc r) (e ∷ es) lt = let one : suc r + 1 ≡ suc (r + 1) = omega arith in rw one (guesses-next r es (omega arith))

-- one more entry, the youngest
pub guesses-push : (r : ℕ) (es : List Entry) (e : Entry) → r ≤ length es → guesses_ahead r (es ++ e ∷ []) ≡ guesses_ahead r es + cond (is_guessed e.operation) 1 0
guesses-push zero [] e le = omega (arith, one-more e [])
guesses-push (suc r) [] e le = absurd (omega arith)
guesses-push zero (f ∷ es) e le = omega (arith, one-more f es, one-more f (es ++ e ∷ []), guesses-push 0 es e (omega arith))
guesses-push (suc r) (f ∷ es) e le = guesses-push r es e (omega arith)

-- another entry before them
pub guesses-set : (r i : ℕ) (es : List Entry) (e : Entry) → i < r → guesses_ahead r (set es i e) ≡ guesses_ahead r es
guesses-set zero i es e lt = absurd (omega arith)
guesses-set (suc r) i [] e lt = refl
guesses-set (suc r) zero (f ∷ es) e lt = refl
guesses-set (suc r) (suc i) (f ∷ es) e lt = guesses-set r i es e (omega arith)

pub set-kept : (g r i : ℕ) (es fs : List Entry) (e : Entry) → g ≡ guesses_ahead r es → fs ≡ set es i e → i < r → g ≡ guesses_ahead r fs
set-kept g r i es fs e is made lt = is ∙ sym (guesses-set r i es e lt) ∙ ap (guesses_ahead r) (sym made)

-- the oldest entry, which is renamed, leaves
pub guesses-retired : (r : ℕ) (es : List Entry) → 0 < r → guesses_ahead (r - 1) (drop 1 es) ≡ guesses_ahead r es
guesses-retired zero es some = absurd (omega arith)
guesses-retired (suc r) [] some = none (suc r - 1)
  where
    none : (n : ℕ) → guesses_ahead n [] ≡ 0
    none zero = refl
    none (suc n) = refl
guesses-retired (suc r) (e ∷ es) some = let same : suc r - 1 ≡ r = omega arith in ap (λ k. guesses_ahead k es) same

-- a test counts for one at most
pub one-most : (b : Bool) → bool_byte b ≤ 1
one-most true = omega arith
one-most false = omega arith

one-is : (b : Bool) → cond b 1 0 ≡ bool_byte b
one-is true = refl
one-is false = refl

-- the one at a place is counted, before those from the next on
pub guesses-step : (n m k r : ℕ) (es : List Entry) → n + guesses_ahead r es ≡ m → r < length es → k ≡ bool_byte (is_guessed (entry_in es r).operation) → (n + k) + guesses_ahead (r + 1) es ≡ m
guesses-step n m k r es was within one =
    let here : guesses_ahead r es ≡ bool_byte (is_guessed (entry_in es r).operation) + guesses_ahead (r + 1) es = guesses-next r es within ∙ ap (λ n. n + guesses_ahead (r + 1) es) (one-is (is_guessed (entry_in es r).operation)) in
    omega (arith, was, one, here)

-- one that is fetched is the youngest of them
pub guesses-pushed : (g r : ℕ) (es fs : List Entry) (e : Entry) → g ≡ guesses_ahead r es → r ≤ length es → fs ≡ es ++ e ∷ [] → (k : ℕ) → k ≡ bool_byte (is_guessed e.operation) → g + k ≡ guesses_ahead r fs
guesses-pushed g r es fs e is within made k one =
    let most : guesses_ahead r fs ≡ guesses_ahead r es + cond (is_guessed e.operation) 1 0 = ap (guesses_ahead r) made ∙ guesses-push r es e within in
    let here : cond (is_guessed e.operation) 1 0 ≡ bool_byte (is_guessed e.operation) = one-is (is_guessed e.operation) in
    omega (arith, is, most, here, one)

-- the first of them, if it is guessed, is counted no more
pub guesses-less : (g r : ℕ) (es : List Entry) (k n : ℕ) → g ≡ guesses_ahead r es → g < 2 ^ 64 → r < length es → k ≡ bool_byte (is_guessed (entry_in es r).operation) → n ≡ (g + (2 ^ 64 - k)) % 2 ^ 64 → n ≡ guesses_ahead (r + 1) es
guesses-less g r es k n is small within one left =
    let here : guesses_ahead r es ≡ bool_byte (is_guessed (entry_in es r).operation) + guesses_ahead (r + 1) es = guesses-next r es within ∙ ap (λ m. m + guesses_ahead (r + 1) es) (one-is (is_guessed (entry_in es r).operation)) in
    omega (arith, is, small, here, one, left, one-most (is_guessed (entry_in es r).operation))

-- the one at the first of their places is renamed
pub guesses-set-first : (n r : ℕ) (es fs : List Entry) (e : Entry) → n ≡ guesses_ahead (r + 1) es → fs ≡ set es r e → n ≡ guesses_ahead (r + 1) fs
guesses-set-first n r es fs e is made = is ∙ sym (ap (guesses_ahead (r + 1)) made ∙ guesses-set (r + 1) r es e (omega arith))

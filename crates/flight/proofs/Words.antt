-- The words of a flight at once, and what they count.
use Rattle.std.proofs.Common.{◌≡◌, ℕ, zero, suc, ◌+◌, ◌-◌, ◌*◌, ◌^◌, ◌<◌, ◌≤◌, min, Bool, true, false, not, cond, List, [], ◌∷◌, ◌++◌, length, take, map, set, get_or, count_by, bit_and, refl, sym, ◌∙◌, ap, arith, nat_eq, inl, inr, ◌⊎◌}
use Rattle.std.specs.Prelude.{◌||◌, ◌&&◌}
use Rattle.std.specs.Int.{bit_at, bit_not, w64}
use Rattle.std.specs.List.{list_any}
use Rattle.std.specs.Simd.Lanes.{mask_l}
use Rattle.std.proofs.lemmas.Bool.Decides.{nat_tests}
use Rattle.std.proofs.lemmas.List.{map-set, map-append, length-map, take-map, get_or-take, length-take-le}
use Rattle.std.proofs.Math.Seq.{map-set_same}
use Rattle.std.proofs.lemmas.Simd.{bit_mask_l, mask_l-lt}
use Rattle.std.proofs.lemmas.List.Sums.{sum_by-cons}
use Rattle.std.proofs.lemmas.Nat.{and_le_l}
use Rattle.std.proofs.lemmas.Nat.Bits.{bit_at_above, bit_at_and, bit_at_not, same_from_bits, same_from_bits_below}
use Rattle.std.proofs.Math.Pow.{pow_mono}
use Rattle.core_view.specs.declared.entry.Entry.{Entry}
use Rattle.core_view.specs.declared.entry.Stage.{Stage}
use Rattle.core_view.specs.declared.entry.Stage.TheVariants.{Fetched, Queued, Issued, Done}
use Rattle.core_view.specs.Operations.{is_load}
use Rattle.core_view.specs.Flight.{is_done, has_missed, is_missed_load}
use Rattle.core_view.specs.View.{no_entry}
use Rattle.flight.specs.declared.marks.Marks.{Marks}
use Rattle.flight.specs.Marked.{word_of, marks_of, missed_at_issue, is_load_that_missed, has_completed}
use Rattle.flight.specs.Flights.{entry_in}

bit-entry : (p : Entry → Bool) (es : List Entry) (i : ℕ) → i < length es → get_or (map p es) i false ≡ p (entry_in es i)
bit-entry p [] i lt = absurd (omega arith)
bit-entry p (e ∷ es) zero lt = refl
bit-entry p (e ∷ es) (suc i) lt = bit-entry p es i (omega arith)

pub word-push : (p : Entry → Bool) (es : List Entry) (e : Entry) (w r place : ℕ) (b : Bool) → w ≡ word_of p es → place ≡ length es → b ≡ p e →
    ((ms : List Bool) → w ≡ mask_l ms → place ≡ length ms → r ≡ mask_l (ms ++ b ∷ [])) → r ≡ word_of p (es ++ e ∷ [])
word-push p es e w r place b is at bit h = h (map p es) is (at ∙ sym (length-map es p)) ∙ ap (λ x. mask_l (map p es ++ x ∷ [])) bit ∙ ap mask_l (sym (map-append p es (e ∷ [])))

-- an entry that fails adds no bit
pub word-unset : (p : Entry → Bool) (es : List Entry) (e : Entry) (w : ℕ) → w ≡ word_of p es → p e ≡ false → w ≡ word_of p (es ++ e ∷ [])
word-unset p es e w is fails = is ∙ grown es
  where
    grown : (fs : List Entry) → word_of p fs ≡ word_of p (fs ++ e ∷ [])
    grown [] = ap (λ b. cond b 1 0 + 2 * 0) (sym fails)
    grown (f ∷ fs) = ap (λ n. cond (p f) 1 0 + 2 * n) (grown fs)

pub word-set : (p : Entry → Bool) (es : List Entry) (e : Entry) (w r place : ℕ) (b : Bool) → w ≡ word_of p es → place < length es → length es ≤ 64 → b ≡ p e →
    ((ms : List Bool) → w ≡ mask_l ms → place < length ms → length ms ≤ 64 → r ≡ mask_l (set ms place b)) → r ≡ word_of p (set es place e)
word-set p es e w r place b is within short bit h = let n : length (map p es) ≡ length es = length-map es p in
    h (map p es) is (omega arith) (omega arith) ∙ ap (λ x. mask_l (set (map p es) place x)) bit ∙ ap mask_l (sym (map-set p es place e))

pub and-none : (b : Bool) → false ≡ (b && false)
and-none true = refl
and-none false = refl

pub and-all : (b : Bool) → b ≡ (b && true)
and-all true = refl
and-all false = refl

-- an entry that a test doesn't tell from the one that it replaces
pub word-same : (p : Entry → Bool) (es : List Entry) (e : Entry) (w place : ℕ) → w ≡ word_of p es → p e ≡ p (entry_in es place) → w ≡ word_of p (set es place e)
word-same p es e w place is same = is ∙ ap mask_l (sym (map-set_same p es place e no_entry same))

pub word-take : (p : Entry → Bool) (es : List Entry) (w r n : ℕ) → w ≡ word_of p es → length es ≤ 64 → ((ms : List Bool) → w ≡ mask_l ms → length ms ≤ 64 → r ≡ mask_l (take n ms)) → r ≡ word_of p (take n es)
word-take p es w r n is short h = h (map p es) is (omega (arith, length-map es p)) ∙ ap mask_l (take-map p n es)

pub few-taken : (es : List Entry) (r : ℕ) → r ≤ length es → r ≤ 64 → length (take r es) ≤ 64
few-taken es r within few = omega (arith, length-take-le r es within, few)

-- ---- a word that is 0

some : (n : ℕ) → not (nat_eq (1 + 2 * n) 0) ≡ true
some n = grind (arith, nat_tests)

twice : (n : ℕ) → nat_eq (0 + 2 * n) 0 ≡ nat_eq n 0
twice n = grind (arith, nat_tests)

-- a word is 0 where no entry passes
pub none-set : (p : Entry → Bool) (es : List Entry) → not (nat_eq (word_of p es) 0) ≡ list_any p es
none-set p [] = refl
none-set p (e ∷ es) = go (p e) (word_of p es) (none-set p es)
  where
    go : (b : Bool) (n : ℕ) → not (nat_eq n 0) ≡ list_any p es → not (nat_eq (cond b 1 0 + 2 * n) 0) ≡ (b || list_any p es)
    go true n ih = some n
    go false n ih = ap not (twice n) ∙ ih

-- ---- bits

no-one : ◌≡◌ {A = ℕ} 0 1 → ⊥
no-one e = omega (arith, e)

clear-bit : (b : Bool) → cond {A = ℕ} b 1 0 ≡ 0 → b ≡ false
clear-bit true e = absurd (no-one (sym e))
clear-bit false e = refl

set-bit : (b : Bool) → cond {A = ℕ} b 1 0 ≡ 1 → b ≡ true
set-bit true e = refl
set-bit false e = absurd (no-one e)

-- the bit of a place, of the words of the oldest entries
pub bit-is : (p : Entry → Bool) (es : List Entry) (w r i : ℕ) → w ≡ word_of p (take r es) → r ≤ length es → i < r → bit_at w i ≡ cond (p (entry_in es i)) 1 0
bit-is p es w r i is within lt =
    let long : length (take r es) ≡ r = length-take-le r es within in
    ap (λ n. bit_at n i) is ∙ bit_mask_l (map p (take r es)) i ∙ ap (λ b. cond {A = ℕ} b 1 0) (bit-entry p (take r es) i (omega arith)) ∙ ap (λ (e : Entry). cond {A = ℕ} (p e) 1 0) (get_or-take r es i no_entry lt)

pub bit-clear : (p : Entry → Bool) (es : List Entry) (w r i : ℕ) → w ≡ word_of p (take r es) → r ≤ length es → i < r → bit_at w i ≡ 0 → p (entry_in es i) ≡ false
bit-clear p es w r i is within lt clear = clear-bit (p (entry_in es i)) (sym (bit-is p es w r i is within lt) ∙ clear)

pub bit-set : (p : Entry → Bool) (es : List Entry) (w r i : ℕ) → w ≡ word_of p (take r es) → r ≤ length es → i < r → bit_at w i ≡ 1 → p (entry_in es i) ≡ true
bit-set p es w r i is within lt set = set-bit (p (entry_in es i)) (sym (bit-is p es w r i is within lt) ∙ set)

pub bit-one : (p : Entry → Bool) (es : List Entry) (w r i : ℕ) → w ≡ word_of p (take r es) → r ≤ length es → i < r → p (entry_in es i) ≡ true → bit_at w i ≡ 1
bit-one p es w r i is within lt passes = bit-is p es w r i is within lt ∙ ap (λ b. cond {A = ℕ} b 1 0) passes

pub bit-zero : (p : Entry → Bool) (es : List Entry) (w r i : ℕ) → w ≡ word_of p (take r es) → r ≤ length es → i < r → p (entry_in es i) ≡ false → bit_at w i ≡ 0
bit-zero p es w r i is within lt fails = bit-is p es w r i is within lt ∙ ap (λ b. cond {A = ℕ} b 1 0) fails

below-or : (a b : ℕ) → (a < b) ⊎ (b ≤ a)
below-or a b = grind arith

-- a bit that is set is an entry's
pub bit-within : (p : Entry → Bool) (es : List Entry) (w r i : ℕ) → w ≡ word_of p (take r es) → r ≤ length es → bit_at w i ≡ 1 → i < r
bit-within p es w r i is within one =
    let long : length (map p (take r es)) ≡ r = length-map (take r es) p ∙ length-take-le r es within in
    elim (below-or i r) [
      | inl lt ↦ lt
      | inr ge ↦ absurd (no-one (sym (ap (λ n. bit_at n i) is ∙ bit_at_above (mask_l (map p (take r es))) (length (map p (take r es))) i (mask_l-lt (map p (take r es))) (omega (arith, ge, long))) ∙ one))
    ]

-- ---- loads that missed

fits : (p : Entry → Bool) (es : List Entry) → length es ≤ 64 → word_of p es < 2 ^ 64
fits p es short = let few : length (map p es) ≤ 64 = omega (arith, short, length-map es p) in
    let le : 2 ^ length (map p es) ≤ 2 ^ 64 = pow_mono few in omega (arith, mask_l-lt (map p es), le)

-- what passes one test and not another passes a third
module _ (p q r : Entry → Bool) (is : (e : Entry) → (p e && not (q e)) ≡ r e) where
  one : (a b c : Bool) → (a && not b) ≡ c → min (cond a 1 0) (1 - cond b 1 0) ≡ cond c 1 0
  one true true c e = ap (λ d. cond {A = ℕ} d 1 0) e
  one true false c e = ap (λ d. cond {A = ℕ} d 1 0) e
  one false true c e = ap (λ d. cond {A = ℕ} d 1 0) e
  one false false c e = ap (λ d. cond {A = ℕ} d 1 0) e

  at : (es : List Entry) (i : ℕ) → min (cond (get_or (map p es) i false) 1 0) (1 - cond (get_or (map q es) i false) 1 0) ≡ cond (get_or (map r es) i false) 1 0
  at [] i = refl
  at (e ∷ es) zero = one (p e) (q e) (r e) (is e)
  at (e ∷ es) (suc i) = at es i

  bit : (es : List Entry) (i : ℕ) → length es ≤ 64 → i < 64 → bit_at (bit_and (word_of p es) (bit_not w64 (word_of q es))) i ≡ bit_at (word_of r es) i
  bit es i short low = bit_at_and (word_of p es) (bit_not w64 (word_of q es)) i ∙ ap (λ n. min (bit_at (word_of p es) i) n) (bit_at_not w64 (word_of q es) i (fits q es short) low)
      ∙ ap (λ n. min n (1 - bit_at (word_of q es) i)) (bit_mask_l (map p es) i) ∙ ap (λ n. min (cond (get_or (map p es) i false) 1 0) (1 - n)) (bit_mask_l (map q es) i) ∙ at es i ∙ sym (bit_mask_l (map r es) i)

  pub word-without : (es : List Entry) → length es ≤ 64 → bit_and (word_of p es) (bit_not w64 (word_of q es)) ≡ word_of r es
  word-without es short =
      let le : bit_and (word_of p es) (bit_not w64 (word_of q es)) ≤ word_of p es = and_le_l _ _ in
      same_from_bits_below 64 _ _ (omega (arith, le, fits p es short)) (fits r es short) (λ i low. bit es i short low)

-- what passes two tests passes a third
module _ (p q r : Entry → Bool) (is : (e : Entry) → (p e && q e) ≡ r e) where
  one-of : (a b c : Bool) → (a && b) ≡ c → min (cond a 1 0) (cond b 1 0) ≡ cond c 1 0
  one-of true true c e = ap (λ d. cond {A = ℕ} d 1 0) e
  one-of true false c e = ap (λ d. cond {A = ℕ} d 1 0) e
  one-of false true c e = ap (λ d. cond {A = ℕ} d 1 0) e
  one-of false false c e = ap (λ d. cond {A = ℕ} d 1 0) e

  at-both : (es : List Entry) (i : ℕ) → min (cond (get_or (map p es) i false) 1 0) (cond (get_or (map q es) i false) 1 0) ≡ cond (get_or (map r es) i false) 1 0
  at-both [] i = refl
  at-both (e ∷ es) zero = one-of (p e) (q e) (r e) (is e)
  at-both (e ∷ es) (suc i) = at-both es i

  pub word-both : (es : List Entry) → bit_and (word_of p es) (word_of q es) ≡ word_of r es
  word-both es = same_from_bits _ _ (λ i. bit_at_and (word_of p es) (word_of q es) i ∙ ap (λ n. min n (bit_at (word_of q es) i)) (bit_mask_l (map p es) i)
      ∙ ap (λ n. min (cond (get_or (map p es) i false) 1 0) n) (bit_mask_l (map q es) i) ∙ at-both es i ∙ sym (bit_mask_l (map r es) i))

missed-is : (e : Entry) → (is_load_that_missed e && not (has_completed e)) ≡ is_missed_load e
missed-is e = go (is_load e.operation) e.stage
  where
    go : (load : Bool) (s : Stage) → ((load && missed_at_issue s) && not (is_done s)) ≡ (load && has_missed s)
    go false s = refl
    go true Fetched = refl
    go true Queued = refl
    go true (Issued x) = sym (and-all x.miss)
    go true (Done x) = sym (and-none x.miss)

pub missed-word : (m : Marks) (es : List Entry) → m ≡ marks_of es → length es ≤ 64 → bit_and (get_or m.words 7 0) (bit_not w64 m.done) ≡ word_of is_missed_load es
missed-word m es is short = ap (λ (n : Marks). bit_and (get_or n.words 7 0) (bit_not w64 n.done)) is ∙ word-without is_load_that_missed has_completed is_missed_load missed-is es short

pub count-tests : (p : Entry → Bool) (es : List Entry) → count_by (λ b. b) (map p es) ≡ count_by p es
count-tests p [] = refl
count-tests p (e ∷ es) = sum_by-cons (λ b. cond b 1 0) (p e) (map p es) ∙ ap (λ n. cond (p e) 1 0 + n) (count-tests p es) ∙ sym (sum_by-cons (λ (f : Entry). cond (p f) 1 0) e es)

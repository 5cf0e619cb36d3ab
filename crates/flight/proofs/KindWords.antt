-- The words of the kinds.
use Rattle.std.proofs.Common.{◌≡◌, ◌≢◌, ℕ, zero, suc, ◌<◌, ◌≤◌, Bool, true, false, List, [], ◌∷◌, ◌++◌, length, map, set, get_or, refl, sym, ◌∙◌, ap, arith, bit_and}
use Rattle.std.specs.Prelude.{◌==◌, ◌&&◌, not}
use Rattle.std.specs.Int.{bit_not, w64}
use Rattle.std.specs.Simd.Lanes.{mask_l}
use Rattle.std.proofs.lemmas.Bool.{eq-eqb, ne_eqb}
use Rattle.core_view.specs.declared.entry.Entry.{Entry}
use Rattle.core_view.specs.Kinds.{kind_index, kind_of}
use Rattle.flight.specs.Marked.{word_of, kinds_of, is_of_kind}
use Rattle.flight.specs.Flights.{entry_in}
use Rattle.flight.proofs.Words.{word-push, word-unset, word-same, word-both, word-without}

-- ---- six words

abbrev six : (ℕ → ℕ) → List ℕ
six f = map f (0 ∷ 1 ∷ 2 ∷ 3 ∷ 4 ∷ 5 ∷ [])

-- the word of a place, with more words after the six
at : (f : ℕ → ℕ) (more : List ℕ) (k : ℕ) → k < 6 → get_or (six f ++ more) k 0 ≡ f k
at f more zero lt = refl
at f more (suc zero) lt = refl
at f more (suc (suc zero)) lt = refl
at f more (suc (suc (suc zero))) lt = refl
at f more (suc (suc (suc (suc zero)))) lt = refl
at f more (suc (suc (suc (suc (suc zero))))) lt = refl
at f more (suc (suc (suc (suc (suc (suc k)))))) lt = absurd (omega arith)

each : (f g : ℕ → ℕ) → ((k : ℕ) → f k ≡ g k) → six f ≡ six g
each f g h = rw (h 0) (rw (h 1) (rw (h 2) (rw (h 3) (rw (h 4) (rw (h 5) refl)))))

-- another word at a place
with_word : (ℕ → ℕ) → ℕ → ℕ → ℕ → ℕ
with_word f zero r zero = r
with_word f zero r (suc j) = f (suc j)
with_word f (suc k) r zero = f zero
with_word f (suc k) r (suc j) = with_word (λ i. f (suc i)) k r j

put : (f : ℕ → ℕ) (more : List ℕ) (k r : ℕ) → k < 6 → set (six f ++ more) k r ≡ six (with_word f k r) ++ more
unfolding with_word
put f more zero r lt = refl
put f more (suc zero) r lt = refl
put f more (suc (suc zero)) r lt = refl
put f more (suc (suc (suc zero))) r lt = refl
put f more (suc (suc (suc (suc zero)))) r lt = refl
put f more (suc (suc (suc (suc (suc zero))))) r lt = refl
put f more (suc (suc (suc (suc (suc (suc k)))))) r lt = absurd (omega arith)

with_word-is : (f g : ℕ → ℕ) (k r : ℕ) → r ≡ g k → ((j : ℕ) → j ≢ k → f j ≡ g j) → (j : ℕ) → with_word f k r j ≡ g j
unfolding with_word
with_word-is f g zero r here other zero = here
with_word-is f g zero r here other (suc j) = other (suc j) (omega arith)
with_word-is f g (suc k) r here other zero = other zero (omega arith)
with_word-is f g (suc k) r here other (suc j) = with_word-is (λ i. f (suc i)) (λ i. g (suc i)) k r here (λ i ne. other (suc i) (omega (arith, ne))) j

-- ---- events

-- the word of a kind
pub kind-word : (es : List Entry) (more ws : List ℕ) (k : ℕ) → ws ≡ kinds_of es ++ more → k < 6 → get_or ws k 0 ≡ word_of (is_of_kind k) es
kind-word es more ws k is lt = ap (λ vs. get_or vs k 0) is ∙ at (λ j. word_of (is_of_kind j) es) more k lt

-- one more entry has its bit in the word of its kind
pub kinds-push : (es : List Entry) (e : Entry) (more ws : List ℕ) (k place r : ℕ) → ws ≡ kinds_of es ++ more → place ≡ length es → k ≡ kind_index (kind_of e.operation) → k < 6 →
    ((ms : List Bool) → get_or ws k 0 ≡ mask_l ms → place ≡ length ms → r ≡ mask_l (ms ++ true ∷ [])) → set ws k r ≡ kinds_of (es ++ e ∷ []) ++ more
kinds-push es e more ws k place r is end kind lt h =
    let here = word-push (is_of_kind k) es e (get_or ws k 0) r place true (kind-word es more ws k is lt) end (sym (eq-eqb _ _ (sym kind))) h in
    ap (λ vs. set vs k r) is ∙ put (λ j. word_of (is_of_kind j) es) more k r lt
    ∙ ap (λ ks. ks ++ more) (each _ _ (with_word-is (λ j. word_of (is_of_kind j) es) (λ j. word_of (is_of_kind j) (es ++ e ∷ [])) k r here
    (λ j ne. word-unset (is_of_kind j) es e _ refl (ne_eqb _ j (λ same. ne (sym same ∙ sym kind))))))

-- another entry with the operation of the one that it replaces
pub kinds-same : (es : List Entry) (e : Entry) (place : ℕ) → (entry_in es place).operation ≡ e.operation → kinds_of es ≡ kinds_of (set es place e)
kinds-same es e place same = each _ _ (λ k. word-same (is_of_kind k) es e _ place refl (ap (λ o. kind_index (kind_of o) == k) (sym same)))

-- ---- what waits and what is open

pub and-turned : (a b : Bool) → (a && b) ≡ (b && a)
and-turned true true = refl
and-turned true false = refl
and-turned false true = refl
and-turned false false = refl

-- those of a kind that pass a test, and those that don't
pub of-kind-and : (k : ℕ) (q r : Entry → Bool) → ((e : Entry) → (is_of_kind k e && q e) ≡ r e) → (es : List Entry) (w v : ℕ) → w ≡ word_of (is_of_kind k) es → v ≡ word_of q es → bit_and w v ≡ word_of r es
of-kind-and k q r is es w v kind other = ap (λ n. bit_and n v) kind ∙ ap (bit_and (word_of (is_of_kind k) es)) other ∙ word-both (is_of_kind k) q r is es

pub of-kind-but : (k : ℕ) (q r : Entry → Bool) → ((e : Entry) → (is_of_kind k e && not (q e)) ≡ r e) → (es : List Entry) (w v : ℕ) → length es ≤ 64 → w ≡ word_of (is_of_kind k) es → v ≡ word_of q es → bit_and w (bit_not w64 v) ≡ word_of r es
of-kind-but k q r is es w v short kind other = ap (λ n. bit_and n (bit_not w64 v)) kind ∙ ap (λ n. bit_and (word_of (is_of_kind k) es) (bit_not w64 n)) other ∙ word-without (is_of_kind k) q r is es short

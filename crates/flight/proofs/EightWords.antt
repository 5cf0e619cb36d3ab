-- The eight words that stand side by side, each of a test.
use Rattle.std.proofs.Common.{◌≡◌, ℕ, ◌<◌, ◌≤◌, Bool, List, [], ◌∷◌, ◌++◌, length, take, drop, map, get_or, refl, sym, ◌∙◌, ap, arith}
use Rattle.std.specs.Simd.Lanes.{mask_l}
use Rattle.std.proofs.lemmas.Grind.{same_number_lists}
use Rattle.std.proofs.lemmas.List.{get_or-map}
use Rattle.core_view.specs.declared.entry.Entry.{Entry}
use Rattle.flight.specs.declared.marks.Marks.{Marks}
use Rattle.flight.specs.Marked.{word_of, kinds_of, words_of, marks_of, is_of_kind, is_waiting, is_load_that_missed, has_completed}
use Rattle.flight.proofs.Words.{word-take}

-- the words of a list of entries: the eight, and the one beside them
pub marks-of-words : (es : List Entry) (ws : List ℕ) (c : ℕ) → ws ≡ words_of es → c ≡ word_of has_completed es → ◌≡◌ {A = Marks} record { words = ws; done = c } (marks_of es)
marks-of-words es ws c words done = ap (λ vs. record { words = vs; done = c }) words ∙ ap (λ n. record { words = words_of es; done = n }) done

-- the same, part by part
pub marks-of-parts : (es fs : List Entry) (ws : List ℕ) (a b c : ℕ) → ws ≡ kinds_of es ++ a ∷ b ∷ [] →
    kinds_of es ≡ kinds_of fs → a ≡ word_of is_waiting fs → b ≡ word_of is_load_that_missed fs → c ≡ word_of has_completed fs →
    ◌≡◌ {A = Marks} record { words = ws; done = c } (marks_of fs)
marks-of-parts es fs ws a b c is kinds waits missed done =
    marks-of-words fs ws c (is ∙ ap (λ ks. ks ++ a ∷ b ∷ []) kinds ∙ ap (λ n. kinds_of fs ++ n ∷ b ∷ []) waits ∙ ap (λ n. kinds_of fs ++ word_of is_waiting fs ∷ n ∷ []) missed) done

tests : List (Entry → Bool)
tests = is_of_kind 0 ∷ is_of_kind 1 ∷ is_of_kind 2 ∷ is_of_kind 3 ∷ is_of_kind 4 ∷ is_of_kind 5 ∷ is_waiting ∷ is_load_that_missed ∷ []

abbrev test_of : ℕ → Entry → Bool
test_of k = get_or tests k is_waiting

words-by-tests : (es : List Entry) (k : ℕ) → k < 8 → get_or (words_of es) k 0 ≡ word_of (test_of k) es
unfolding tests
words-by-tests es k lt = get_or-map (λ p. word_of p es) tests k is_waiting 0 lt

word-of-test : (es : List Entry) (ws : List ℕ) (k : ℕ) → ws ≡ words_of es → k < 8 → get_or ws k 0 ≡ word_of (test_of k) es
word-of-test es ws k is lt = ap (λ vs. get_or vs k 0) is ∙ words-by-tests es k lt

-- without the oldest entry
pub word-drop : (p : Entry → Bool) (es : List Entry) → mask_l (drop 1 (map p es)) ≡ word_of p (drop 1 es)
word-drop p [] = refl
word-drop p (e ∷ es) = refl

pub words-drop : (es : List Entry) (ws rs : List ℕ) → ws ≡ words_of es → length rs ≡ 8 →
    ((k : ℕ) (ms : List Bool) → k < 8 → get_or ws k 0 ≡ mask_l ms → get_or rs k 0 ≡ mask_l (drop 1 ms)) → rs ≡ words_of (drop 1 es)
words-drop es ws rs is long each = same_number_lists rs (words_of (drop 1 es)) long (λ k lt. one k (omega (arith, lt, long)))
  where
    one : (k : ℕ) → k < 8 → get_or rs k 0 ≡ get_or (words_of (drop 1 es)) k 0
    one k lt = each k (map (test_of k) es) lt (word-of-test es ws k is lt) ∙ word-drop (test_of k) es ∙ sym (words-by-tests (drop 1 es) k lt)

-- of the oldest entries
abbrev Takes : ℕ → ℕ → ℕ → Type 0
Takes n w r = (ms : List Bool) → w ≡ mask_l ms → length ms ≤ 64 → r ≡ mask_l (take n ms)

pub words-take : (es : List Entry) (ws : List ℕ) (n a b c d e f g h : ℕ) → ws ≡ words_of es → length es ≤ 64 →
    Takes n (get_or ws 0 0) a → Takes n (get_or ws 1 0) b → Takes n (get_or ws 2 0) c → Takes n (get_or ws 3 0) d →
    Takes n (get_or ws 4 0) e → Takes n (get_or ws 5 0) f → Takes n (get_or ws 6 0) g → Takes n (get_or ws 7 0) h →
    (a ∷ b ∷ c ∷ d ∷ e ∷ f ∷ g ∷ h ∷ []) ≡ words_of (take n es)
words-take es ws n a b c d e f g h is short pa pb pc pd pe pf pg ph =
    rw (one 0 a (omega arith) pa, one 1 b (omega arith) pb, one 2 c (omega arith) pc, one 3 d (omega arith) pd, one 4 e (omega arith) pe, one 5 f (omega arith) pf, one 6 g (omega arith) pg, one 7 h (omega arith) ph) refl
  where
    one : (k r : ℕ) → k < 8 → Takes n (get_or ws k 0) r → r ≡ get_or (words_of (take n es)) k 0
    one k r lt takes = word-take (test_of k) es (get_or ws k 0) r n (word-of-test es ws k is lt) short takes ∙ sym (words-by-tests (take n es) k lt)

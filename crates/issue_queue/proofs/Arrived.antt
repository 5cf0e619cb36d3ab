-- The queue's entries in the order of their arrival, as events keep them.
use Rattle.std.proofs.Common.{◌≡◌, ℕ, ◌<◌, ◌≤◌, ◌^◌, inl, inr, Bool, true, false, ◌&&◌, ◌||◌, eqb, List, [], ◌∷◌, ◌++◌, length, get_or, refl, ap, sym, subst, ◌∙◌, arith}
use Rattle.std.specs.Prelude.{count_ones}
use Rattle.std.specs.List.{AllPairs, filter}
use Rattle.std.proofs.lemmas.Bool.{true≢false, and_parts, or_cases, eqb-true}
use Rattle.std.proofs.lemmas.List.{length-map}
use Rattle.std.proofs.lemmas.List.Kept.{AllPairs-filter}
use Rattle.word_mask.specs.Mask.{has, is_listed}
use Rattle.word_mask.proofs.Laws.{count_listed, has_below, has_zero, filter_agree_on}
use Rattle.issue_queue.specs.declared.arrivals.Arrivals.{Arrivals}
use Rattle.issue_queue.specs.declared.places.Places.{Places}
use Rattle.issue_queue.specs.Arrivals.{arrived}
use Rattle.issue_queue.specs.Board.{slot, InStep, IsKept, listed, order_of, entries_of}
use Rattle.issue_queue.specs.Entry.{Entry, AreDistinct}
use Rattle.issue_queue.proofs.Lists.{filter-of_filter}
use Rattle.issue_queue.proofs.Kept.{ListsTaken, listed-filter}
use Rattle.issue_queue.proofs.Ordered.{arrived_listed, arrived_once}

-- ---- the places

and_when : (a b : Bool) → (b ≡ true → a ≡ true) → (a && b) ≡ b
and_when true b h = refl
and_when false true h = h refl
and_when false false h = refl

-- what is taken is listed among those that are taken
listed_taken : (a : Arrivals) (taken : ℕ) → ((p : ℕ) → has taken p ≡ true → p < 64) → (p : ℕ) → has taken p ≡ is_listed (filter (has taken) (arrived a.last.value)) p
listed_taken a taken small p =
    sym (listed-filter (has taken) p (arrived a.last.value) ∙ and_when (is_listed (arrived a.last.value) p) (has taken p) (λ t. arrived_listed a.last.value p (small p t)))

-- as many are taken as there are places that are taken
pub count-taken : (a : Arrivals) (taken : ℕ) → taken < 2 ^ 64 → count_ones taken ≡ length (filter (has taken) (arrived a.last.value))
count-taken a taken fits = count_listed taken (arrived a.last.value) fits (arrived_once a.last.value) (λ p t. arrived_listed a.last.value p (has_below taken p fits t))

-- ---- the queue

-- those that are taken are in the order of arrival
pub lists_taken : (capacity : ℕ) (b : Places) (a : Arrivals) → IsKept capacity b a → ListsTaken capacity b (order_of b a)
lists_taken capacity b a k = record {
  bounded = k.bounded;
  within = k.within;
  in_step = k.in_step;
  taken = listed_taken a b.valid k.taken;
  once = AllPairs-filter (λ p q. eqb p q ≡ false) (has b.valid) (arrived a.last.value) (arrived_once a.last.value);
  distinct = k.distinct;
}

pub count-entries : (capacity : ℕ) (b : Places) (a : Arrivals) → b.valid < 2 ^ 64 → IsKept capacity b a → count_ones b.valid ≡ length (entries_of b a)
count-entries capacity b a fits k = count-taken a b.valid fits ∙ sym (length-map (order_of b a) (slot b.slots))

kept_in : (capacity : ℕ) (b : Places) (a : Arrivals) (order : List ℕ) → order_of b a ≡ order → ListsTaken capacity b order → ((p : ℕ) → has b.valid p ≡ true → p < 64) → IsKept capacity b a
kept_in capacity b a order same l taken = record {
  bounded = l.bounded;
  within = subst (λ ps. length ps ≤ capacity) (sym same) l.within;
  in_step = l.in_step;
  taken = taken;
  distinct = subst (λ ps. AllPairs AreDistinct (listed b.slots ps)) (sym same) l.distinct;
}

none_pass : (t : ℕ → Bool) (ps : List ℕ) → ((p : ℕ) → t p ≡ false) → filter t ps ≡ []
none_pass t [] h = refl
none_pass t (p ∷ ps) h = rw (h p) (none_pass t ps h)

pub kept_none : (capacity : ℕ) (b : Places) (a : Arrivals) → capacity ≤ 64 → InStep b → b.valid ≡ 0 → IsKept capacity b a
kept_none capacity b a bound step free =
    kept_in capacity b a [] (none_pass (has b.valid) (arrived a.last.value) (λ p. ap (λ v. has v p) free ∙ has_zero p))
    (record {
      bounded = bound;
      within = omega arith;
      in_step = step;
      taken = λ p. ap (λ v. has v p) free ∙ has_zero p;
      once = λ i j d below within. absurd (omega arith);
      distinct = λ i j d below within. absurd (omega arith);
    }) (λ p t. absurd (true≢false (sym t ∙ ap (λ v. has v p) free ∙ has_zero p)))

pub entries_none : (b : Places) (a : Arrivals) → b.valid ≡ 0 → entries_of b a ≡ []
entries_none b a free = ap (listed b.slots) (none_pass (has b.valid) (arrived a.last.value) (λ p. ap (λ v. has v p) free ∙ has_zero p))

-- ---- the same places are taken

pub kept_there : (capacity : ℕ) (b c : Places) (a : Arrivals) → IsKept capacity b a → c.valid ≡ b.valid → ListsTaken capacity c (order_of b a) → IsKept capacity c a
kept_there capacity b c a k valid l =
    kept_in capacity c a (order_of b a) (ap (λ v. filter (has v) (arrived a.last.value)) valid) l (λ p t. k.taken p (ap (λ v. has v p) (sym valid) ∙ t))

pub entries_there : (b c : Places) (a : Arrivals) (es : List Entry) → c.valid ≡ b.valid → listed c.slots (order_of b a) ≡ es → entries_of c a ≡ es
entries_there b c a es valid h = ap (λ v. listed c.slots (filter (has v) (arrived a.last.value))) valid ∙ h

-- ---- fewer are taken

order_less : (b c : Places) (a : Arrivals) → ((p : ℕ) → has c.valid p ≡ (has b.valid p && has c.valid p)) → order_of c a ≡ filter (has c.valid) (order_of b a)
order_less b c a fewer = sym (filter-of_filter (has b.valid) (has c.valid) fewer (arrived a.last.value))

pub kept_less : (capacity : ℕ) (b c : Places) (a : Arrivals) → IsKept capacity b a → ((p : ℕ) → has c.valid p ≡ (has b.valid p && has c.valid p)) → ListsTaken capacity c (filter (has c.valid) (order_of b a)) → IsKept capacity c a
kept_less capacity b c a k fewer l =
    kept_in capacity c a (filter (has c.valid) (order_of b a)) (order_less b c a fewer) l
    (λ p t. k.taken p (and_parts (has b.valid p) (has c.valid p) (sym (fewer p) ∙ t)).0)

pub entries_less : (b c : Places) (a : Arrivals) → ((p : ℕ) → has c.valid p ≡ (has b.valid p && has c.valid p)) → entries_of c a ≡ listed c.slots (filter (has c.valid) (order_of b a))
entries_less b c a fewer = ap (listed c.slots) (order_less b c a fewer)

-- ---- one more is taken

order_more : (b c : Places) (a d : Arrivals) (place : ℕ) → ((p : ℕ) → has c.valid p ≡ (has b.valid p || eqb p place)) → filter (λ p. has b.valid p || eqb p place) (arrived d.last.value) ≡ order_of b a ++ place ∷ []
    → order_of c d ≡ order_of b a ++ place ∷ []
order_more b c a d place valid behind = filter_agree_on (has c.valid) (λ p. has b.valid p || eqb p place) (arrived d.last.value) (λ i x lt. valid (get_or (arrived d.last.value) i x)) ∙ behind

pub kept_more : (capacity : ℕ) (b c : Places) (a d : Arrivals) (place : ℕ) → ((p : ℕ) → has c.valid p ≡ (has b.valid p || eqb p place)) → filter (λ p. has b.valid p || eqb p place) (arrived d.last.value) ≡ order_of b a ++ place ∷ []
    → place < 64 → ((p : ℕ) → has b.valid p ≡ true → p < 64) → ListsTaken capacity c (order_of b a ++ place ∷ []) → IsKept capacity c d
kept_more capacity b c a d place valid behind small taken l =
    kept_in capacity c d (order_of b a ++ place ∷ []) (order_more b c a d place valid behind) l
    (λ p t. elim (or_cases (has b.valid p) (eqb p place) (sym (valid p) ∙ t)) [
      | inl before ↦ taken p before
      | inr here ↦ subst (λ q. q < 64) (sym (eqb-true p place here)) small
    ])

pub entries_more : (b c : Places) (a d : Arrivals) (place : ℕ) → ((p : ℕ) → has c.valid p ≡ (has b.valid p || eqb p place)) → filter (λ p. has b.valid p || eqb p place) (arrived d.last.value) ≡ order_of b a ++ place ∷ []
    → entries_of c d ≡ listed c.slots (order_of b a ++ place ∷ [])
entries_more b c a d place valid behind = ap (listed c.slots) (order_more b c a d place valid behind)

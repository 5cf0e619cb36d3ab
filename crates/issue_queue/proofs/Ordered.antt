-- Places in the order of the last arrival at each.
use Rattle.std.proofs.Common.{◌≡◌, ℕ, zero, suc, ◌<◌, inl, inr, Bool, true, false, cond, not, ◌&&◌, ◌||◌, eqb, List, [], ◌∷◌, ◌++◌, refl, ap, sym, ◌∙◌, arith}
use Rattle.std.specs.List.{All, AllPairs, filter}
use Rattle.std.proofs.lemmas.Bool.{cases_lt, or_right, eq-eqb, ne_eqb}
use Rattle.std.proofs.lemmas.Bool.Decides.{eqb_tells}
use Rattle.std.proofs.lemmas.List.Elements.{All-cons, All-nil, All-weaker, All-get_or, filter-append, filter_passes}
use Rattle.std.proofs.lemmas.List.Folds.{list_any-append}
use Rattle.std.proofs.lemmas.List.Kept.{AllPairs-cons, AllPairs-filter}
use Rattle.std.proofs.lemmas.List.Quantifiers.{all_pairs_push}
use Rattle.word_mask.specs.Mask.{is_listed}
use Rattle.word_mask.proofs.Laws.{eqb_swap, filter_agree_on}
use Rattle.issue_queue.specs.declared.arrivals.Arrival.{Arrival, Nothing, After'}
use Rattle.issue_queue.specs.Arrivals.{places_below, arrived}
use Rattle.issue_queue.proofs.Kept.{listed-filter}
use Rattle.issue_queue.proofs.Lists.{filter-of_filter}

-- ---- before the first arrival

below_less : (n : ℕ) → All (λ p. p < n) (places_below n)
below_less zero = All-nil (λ p. p < zero)
below_less (suc n) = All-cons (λ p. p < suc n) n (places_below n) (omega arith) (All-weaker (λ p. p < n) (λ p. p < suc n) (λ p lt. omega (arith, lt)) (places_below n) (below_less n))

below_once : (n : ℕ) → AllPairs (λ p q. eqb p q ≡ false) (places_below n)
below_once zero = λ i j d below within. absurd (omega arith)
below_once (suc n) =
    AllPairs-cons (λ p q. eqb p q ≡ false) n (places_below n) (All-weaker (λ p. p < n) (λ p. eqb n p ≡ false) (λ p lt. ne_eqb n p (λ same. omega (arith, lt, same))) (places_below n) (below_less n)) (below_once n)

below_listed : (n p : ℕ) → p < n → is_listed (places_below n) p ≡ true
below_listed zero p lt = absurd (omega (arith, lt))
below_listed (suc n) p lt = elim (eqb_tells n p) [
  | inl here ↦ rw here.0 refl
  | inr other ↦ rw other.0 (below_listed n p (elim (cases_lt p n) [
    | inl less ↦ less
    | inr le ↦ absurd (other.1 (omega (arith, lt, le)))
  ]))
]

-- ---- after an arrival

or_none : (a b : Bool) → not b ≡ true → (a || b) ≡ a
or_none true b h = refl
or_none false true h = sym h
or_none false false h = refl

-- a test that one place fails keeps the same of the others
kept_elsewhere : (t : ℕ → Bool) (place : ℕ) → t place ≡ false → (p : ℕ) → t p ≡ (not (eqb p place) && t p)
kept_elsewhere t place free p = elim (eqb_tells p place) [
  | inl here ↦ rw here.0 (ap t here.1 ∙ free)
  | inr other ↦ rw other.0 refl
]

moved_last : (t : ℕ → Bool) (place : ℕ) → t place ≡ false → (ps : List ℕ) → filter (λ p. t p || eqb p place) (filter (λ p. not (eqb p place)) ps ++ place ∷ []) ≡ filter t ps ++ place ∷ []
moved_last t place free ps =
    let passes : ℕ → Bool = λ p. t p || eqb p place in
    let others : List ℕ = filter (λ p. not (eqb p place)) ps in
    let alike : All (λ p. passes p ≡ t p) others = All-weaker (λ p. not (eqb p place) ≡ true) (λ p. passes p ≡ t p) (λ p. or_none (t p) (eqb p place)) others (filter_passes (λ p. not (eqb p place)) ps) in
    filter-append passes others (place ∷ [])
    ∙ ap (λ b. filter passes others ++ cond b (place ∷ []) []) (or_right (t place) (eqb place place) (eq-eqb place place refl))
    ∙ ap (λ qs. qs ++ place ∷ []) (filter_agree_on passes t others alike ∙ filter-of_filter (λ p. not (eqb p place)) t (kept_elsewhere t place free) ps)

listed_last : (place p : ℕ) (ps : List ℕ) → is_listed ps p ≡ true → is_listed (filter (λ q. not (eqb q place)) ps ++ place ∷ []) p ≡ true
listed_last place p ps l =
    list_any-append (λ q. eqb q p) (filter (λ q. not (eqb q place)) ps) (place ∷ [])
    ∙ ap (λ b. b || (eqb place p || false)) (listed-filter (λ q. not (eqb q place)) p ps ∙ ap (λ b. b && not (eqb p place)) l)
    ∙ elim (eqb_tells p place) [
      | inl here ↦ rw (here.0, eqb_swap place p, here.0) refl
      | inr other ↦ rw other.0 refl
    ]

once_last : (place : ℕ) (ps : List ℕ) → AllPairs (λ p q. eqb p q ≡ false) ps → AllPairs (λ p q. eqb p q ≡ false) (filter (λ p. not (eqb p place)) ps ++ place ∷ [])
once_last place ps once =
    let others : List ℕ = filter (λ p. not (eqb p place)) ps in
    let apart : All (λ p. eqb p place ≡ false) others = All-weaker (λ p. not (eqb p place) ≡ true) (λ p. eqb p place ≡ false) (λ p. or_none false (eqb p place)) others (filter_passes (λ p. not (eqb p place)) ps) in
    all_pairs_push (λ p q. eqb p q ≡ false) others place (AllPairs-filter (λ p q. eqb p q ≡ false) (λ p. not (eqb p place)) ps once) (λ k d lt. All-get_or (λ p. eqb p place ≡ false) others k d lt apart)

-- ---- all arrivals

-- an arrival comes behind those that pass a test
pub arrived_behind : (last before after : Arrival) (t : ℕ → Bool) (place : ℕ) → t place ≡ false → before ≡ last → arrived after ≡ filter (λ p. not (eqb p place)) (arrived before) ++ place ∷ []
    → filter (λ p. t p || eqb p place) (arrived after) ≡ filter t (arrived last) ++ place ∷ []
arrived_behind last before after t place free same is =
    ap (filter (λ p. t p || eqb p place)) is ∙ moved_last t place free (arrived before) ∙ ap (λ a. filter t (arrived a) ++ place ∷ []) same

pub arrived_listed : (last : Arrival) (p : ℕ) → p < 64 → is_listed (arrived last) p ≡ true
arrived_listed Nothing p small = below_listed 64 p small
arrived_listed (After' marker before place) p small = listed_last place p (arrived before) (arrived_listed before p small)

pub arrived_once : (last : Arrival) → AllPairs (λ p q. eqb p q ≡ false) (arrived last)
arrived_once Nothing = below_once 64
arrived_once (After' marker before place) = once_last place (arrived before) (arrived_once before)

-- Stamps along a list, after a change.
use Rattle.std.proofs.Common.{◌≡◌, ℕ, zero, suc, ◌+◌, ◌-◌, ◌<◌, ◌≤◌, true, false, List, [], ◌∷◌, ◌++◌, length, get_or, take, drop, slice_get, Some, refl, sym, ap, subst, ◌∙◌, arith, inl, inr}
use Rattle.std.specs.Prelude.{set, nat_lt, Result, Ok, Err, OnOk, IfErr}
use Rattle.std.proofs.lemmas.Bool.{cases_eq, lt-ltb, le-ltb}
use Rattle.std.proofs.lemmas.List.{length-set, length-take, length-take-le, length_push, get_or_push, get_or_append_left, get_or-set_same, get_or-set_other, get_or-take}
use Rattle.std.proofs.lemmas.Option.{get_or_from_slice_get, slice_get-get_or}
use Rattle.std.specs.Option.{ForSome}
use Rattle.circular_buffer.specs.Buffer.{Buffer, buffer, last_item}
use Rattle.reorder_buffer.specs.Growing.{IsGrowing, below}

-- every stamp is at least n, so none is below
none_below : {X : Type 0} (stamp : X → ℕ) (n : ℕ) (xs : List X) → ((i : ℕ) (d : X) → i < length xs → n ≤ stamp (get_or xs i d)) → below stamp n xs ≡ []
none_below stamp n [] past = refl
none_below stamp n (x ∷ xs) past =
    let first : nat_lt (stamp x) n ≡ false = le-ltb (stamp x) n (past 0 x (omega arith)) in
    rw first (none_below stamp n xs (λ i d lt. past (suc i) d (omega arith)))

-- a front is what is below n
pub take-below : {X : Type 0} (stamp : X → ℕ) (n k : ℕ) (xs : List X) → k ≤ length xs → ((i : ℕ) (d : X) → i < k → stamp (get_or xs i d) < n) → ((i : ℕ) (d : X) → k ≤ i → i < length xs → n ≤ stamp (get_or xs i d)) → take k xs ≡ below stamp n xs
take-below stamp n zero xs le front past = sym (none_below stamp n xs (λ i d lt. past i d (omega arith) lt))
take-below stamp n (suc k) [] le front past = absurd (omega arith)
take-below stamp n (suc k) (x ∷ xs) le front past =
    let first : nat_lt (stamp x) n ≡ true = lt-ltb (stamp x) n (front 0 x (omega arith)) in
    let rest : take k xs ≡ below stamp n xs = take-below stamp n k xs (omega arith) (λ i d lt. front (suc i) d (omega arith)) (λ i d ge lt. past (suc i) d (omega arith) (omega arith)) in
    rw first (ap (λ ys. x ∷ ys) rest)

-- where stamps grow and the entry before k is below n, the first k are what is below n
pub take-below_at : {X : Type 0} (stamp : X → ℕ) (n k : ℕ) (xs : List X) (x : X) → IsGrowing stamp xs → 0 < k → k ≤ length xs → slice_get xs (k - 1) ≡ Some x → stamp x < n
    → ((i : ℕ) (d : X) → k ≤ i → i < length xs → n ≤ stamp (get_or xs i d)) → take k xs ≡ below stamp n xs
take-below_at {X} stamp n k xs x growing some le last here past = take-below stamp n k xs le front past
  where
    front : (i : ℕ) (d : X) → i < k → stamp (get_or xs i d) < n
    front i d lt =
        let at_last : stamp (get_or xs (k - 1) d) ≡ stamp x = ap stamp (get_or_from_slice_get xs (k - 1) x d last) in
        elim (cases_eq i (k - 1)) [
          | inl same ↦ omega (arith, at_last, ap (λ j. stamp (get_or xs j d)) same)
          | inr differ ↦ omega (arith, at_last, growing i (k - 1) d (omega (arith, differ)) (omega arith))
        ]

-- one more entry of the end is at least n
pub past_more : {X : Type 0} (stamp : X → ℕ) (n k : ℕ) (xs : List X) (x : X) → slice_get xs (k - 1) ≡ Some x → n ≤ stamp x → ((i : ℕ) (d : X) → k ≤ i → i < length xs → n ≤ stamp (get_or xs i d))
    → (i : ℕ) (d : X) → k - 1 ≤ i → i < length xs → n ≤ stamp (get_or xs i d)
past_more stamp n k xs x last here past i d le lt =
    elim (cases_eq i (k - 1)) [
      | inl same ↦ omega (arith, ap stamp (get_or_from_slice_get xs (k - 1) x d last), ap (λ j. stamp (get_or xs j d)) same)
      | inr differ ↦ past i d (omega (arith, differ)) lt
    ]

-- an entry with the stamp of the one that it replaces
same_stamp : {X : Type 0} (stamp : X → ℕ) (xs : List X) (p i : ℕ) (x d : X) → stamp (get_or xs p x) ≡ stamp x → i < length xs → stamp (get_or (set xs p x) i d) ≡ stamp (get_or xs i d)
same_stamp stamp xs p i x d same lt =
    elim (cases_eq i p) [
      | inl here ↦ subst (λ j. stamp (get_or (set xs j x) i d) ≡ stamp (get_or xs i d)) here (ap stamp (get_or-set_same xs i x d lt) ∙ sym (subst (λ j. stamp (get_or xs j x) ≡ stamp x) (sym here) same) ∙ ap stamp (get_or_defaults xs i x d lt))
      | inr there ↦ ap stamp (get_or-set_other xs p i x d there)
    ]
  where
    get_or_defaults : {X : Type 0} (xs : List X) (i : ℕ) (a b : X) → i < length xs → get_or xs i a ≡ get_or xs i b
    get_or_defaults [] i a b lt = absurd (omega arith)
    get_or_defaults (x ∷ xs) zero a b lt = refl
    get_or_defaults (x ∷ xs) (suc i) a b lt = get_or_defaults xs i a b (omega arith)

pub growing-set : {X : Type 0} (stamp : X → ℕ) (xs : List X) (p : ℕ) (x : X) → IsGrowing stamp xs → stamp (get_or xs p x) ≡ stamp x → IsGrowing stamp (set xs p x)
growing-set stamp xs p x growing same i j d lt in_range =
    let len : length (set xs p x) ≡ length xs = length-set xs p x in
    omega (arith, len, same_stamp stamp xs p i x d same (omega (arith, len)), same_stamp stamp xs p j x d same (omega (arith, len)), growing i j d lt (omega (arith, len)))

-- an entry whose stamp is above the last one's
pub growing_push : {X : Type 0} (stamp : X → ℕ) (xs : List X) (x : X) → IsGrowing stamp xs → ForSome (last_item xs) (λ y. stamp y < stamp x) → IsGrowing stamp (xs ++ x ∷ [])
growing_push {X} stamp xs x growing above i j d lt in_range =
    let len : length (xs ++ x ∷ []) ≡ length xs + 1 = length_push xs x in
    let old : stamp (get_or (xs ++ x ∷ []) i d) ≡ stamp (get_or xs i d) = ap stamp (get_or_append_left xs (x ∷ []) d i (omega (arith, len))) in
    elim (cases_eq j (length xs)) [
      | inl new ↦ omega (arith, old, ap stamp (get_or_push xs x d j (sym new)), below_new i (omega arith))
      | inr differ ↦
          let old' : stamp (get_or (xs ++ x ∷ []) j d) ≡ stamp (get_or xs j d) = ap stamp (get_or_append_left xs (x ∷ []) d j (omega (arith, len, differ))) in
          omega (arith, old, old', growing i j d lt (omega (arith, len, differ)))
    ]
  where
    below_new : (i : ℕ) → i < length xs → stamp (get_or xs i d) < stamp x
    below_new i lt =
        let k : ℕ = length xs - 1 in
        let last : stamp (get_or xs k d) < stamp x = above (get_or xs k d) (slice_get-get_or xs k d (omega arith)) in
        elim (cases_eq i k) [
          | inl same ↦ omega (arith, last, ap (λ n. stamp (get_or xs n d)) same)
          | inr differ ↦ omega (arith, last, growing i k d (omega (arith, differ)) (omega arith))
        ]

-- what a push that may be refused leaves
pub growing_pushed : {X : Type 0} (stamp : X → ℕ) (old new : Buffer X) (x : X) (r : Result (Unit {0}) X) → IsGrowing stamp old.items → ForSome (last_item old.items) (λ y. stamp y < stamp x)
    → OnOk r (new ≡ buffer (old.items ++ x ∷ []) old.capacity) → IfErr r (λ y. (y ≡ x) × (new ≡ old)) → IsGrowing stamp new.items
growing_pushed stamp old new x (Ok u) growing above ok err = rw ok (growing_push stamp old.items x growing above)
growing_pushed stamp old new x (Err y) growing above ok err = rw err.1 growing

-- a front of the list
pub growing_front : {X : Type 0} (stamp : X → ℕ) (xs : List X) (k : ℕ) → IsGrowing stamp xs → IsGrowing stamp (take k xs)
growing_front stamp xs k growing i j d lt in_range =
    let within : j < k = omega (arith, in_range, length-take k xs) in
    omega (arith, ap stamp (get_or-take k xs i d (omega (arith, lt, within))), ap stamp (get_or-take k xs j d within), growing i j d lt (omega (arith, in_range, length-take k xs)))

-- what a cut leaves
pub cut_growing : {X : Type 0} (stamp : X → ℕ) (old new : Buffer X) (k : ℕ) → new ≡ buffer (take k old.items) old.capacity → IsGrowing stamp old.items → IsGrowing stamp new.items
cut_growing stamp old new k cut growing = rw cut (growing_front stamp old.items k growing)

pub cut_items : {X : Type 0} (old new : Buffer X) (k : ℕ) (left : List X) → new ≡ buffer (take k old.items) old.capacity → take k old.items ≡ left → new ≡ buffer left old.capacity
cut_items old new k left cut is = cut ∙ ap (λ xs. buffer xs old.capacity) is

-- it is as long as it was cut
pub cut_front : {X : Type 0} (old new : Buffer X) (k : ℕ) → k ≤ length old.items → new ≡ buffer (take k old.items) old.capacity → new.items ≡ take (length new.items) old.items
cut_front old new k within cut = rw cut (ap (λ n. take n old.items) (sym (length-take-le k old.items within)))

-- all but the first
pub growing_rest : {X : Type 0} (stamp : X → ℕ) (xs : List X) → IsGrowing stamp xs → IsGrowing stamp (drop 1 xs)
growing_rest stamp [] growing = growing
growing_rest stamp (x ∷ xs) growing = λ i j d lt in_range. growing (suc i) (suc j) d (omega (arith, lt)) (omega (arith, in_range))

-- what stands up to an entry that is below n
pub below_up_to : {X : Type 0} (stamp : X → ℕ) (n p : ℕ) (xs : List X) → IsGrowing stamp xs → p < length xs → ForSome (slice_get xs p) (λ e. stamp e < n) → (i : ℕ) (d : X) → i < p + 1 → stamp (get_or xs i d) < n
below_up_to stamp n p xs growing within here i d lt =
    let last : stamp (get_or xs p d) < n = here (get_or xs p d) (slice_get-get_or xs p d within) in
    elim (cases_eq i p) [
      | inl same ↦ omega (arith, last, ap (λ j. stamp (get_or xs j d)) same)
      | inr differ ↦ omega (arith, last, growing i p d (omega (arith, differ, lt)) within)
    ]

-- and one more
pub below_more : {X : Type 0} (stamp : X → ℕ) (n k : ℕ) (xs : List X) (x : X) → slice_get xs k ≡ Some x → stamp x < n → ((i : ℕ) (d : X) → i < k → stamp (get_or xs i d) < n) → (i : ℕ) (d : X) → i < k + 1 → stamp (get_or xs i d) < n
below_more stamp n k xs x read here before i d lt =
    elim (cases_eq i k) [
      | inl same ↦ omega (arith, here, ap stamp (get_or_from_slice_get xs k x d read), ap (λ j. stamp (get_or xs j d)) same)
      | inr differ ↦ before i d (omega (arith, differ, lt))
    ]

-- from one that is at least n on, all are
pub past_from : {X : Type 0} (stamp : X → ℕ) (n k : ℕ) (xs : List X) (x : X) → IsGrowing stamp xs → slice_get xs k ≡ Some x → n ≤ stamp x → (i : ℕ) (d : X) → k ≤ i → i < length xs → n ≤ stamp (get_or xs i d)
past_from stamp n k xs x growing read here i d le lt =
    let at : stamp (get_or xs k d) ≡ stamp x = ap stamp (get_or_from_slice_get xs k x d read) in
    elim (cases_eq i k) [
      | inl same ↦ omega (arith, at, here, ap (λ j. stamp (get_or xs j d)) same)
      | inr differ ↦ omega (arith, at, here, growing k i d (omega (arith, differ, le)) lt)
    ]

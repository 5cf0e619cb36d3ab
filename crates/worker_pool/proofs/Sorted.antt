-- A rising list that has each number as often as the numbers from a on is these numbers.
use Rattle.std.proofs.Common.{◌≡◌, ◌≢◌, ◌⊎◌, ℕ, zero, suc, ◌<◌, ◌≤◌, Bool, cond, eqb, eq-eqb, ne_eqb, List, [], ◌∷◌, Option, length, get_or, drop, map, Result, Ok, Err, IfOk, refl, sym, ap, ap₂, ◌∙◌, inl, inr, ⊎_elim, arith}
use Rattle.std.specs.List.{sum_by}
use Rattle.std.specs.List.Sorted.{IsNonDecreasingBy}
use Rattle.std.proofs.lemmas.List.{nil_from_length}
use Rattle.std.proofs.lemmas.List.Sums.{sum_by-cons}
use Rattle.worker_pool.specs.Numbers.{numbers, ended, jobs_of, numbered}
use Rattle.worker_pool.proofs.NewRuns.{ended-jobs, sum_ones}

abbrev AllAbove : ℕ → List ℕ → Type 0
AllAbove x [] = Unit {0}
AllAbove x (y ∷ ys) = (x ≤ y) × AllAbove x ys

abbrev Rising : List ℕ → Type 0
Rising [] = Unit {0}
Rising (x ∷ xs) = AllAbove x xs × Rising xs

abbrev is : ℕ → ℕ → ℕ
is k j = cond (eqb j k) 1 0

one : (k : ℕ) → is k k ≡ 1
one k = ap (λ (b : Bool). cond b 1 0) (eq-eqb k k refl)

other : (k j : ℕ) → j ≢ k → is k j ≡ 0
other k j ne = ap (λ (b : Bool). cond b 1 0) (ne_eqb j k ne)

none_below : (k a n : ℕ) → k < a → sum_by (is k) (numbers a n) ≡ 0
none_below k a zero l = refl
none_below k a (suc n) l = let r = none_below k (suc a) n (omega arith) in let z = other k a (λ e. omega arith) in let c = sum_by-cons (is k) a (numbers (suc a) n) in omega arith

none_above : (k x : ℕ) (xs : List ℕ) → AllAbove x xs → k < x → sum_by (is k) xs ≡ 0
none_above k x [] all l = refl
none_above k x (y ∷ ys) all l = let b = all.0 in let r = none_above k x ys all.1 l in let z = other k y (λ e. omega arith) in let c = sum_by-cons (is k) y ys in omega arith

order : (x a : ℕ) → (x < a) ⊎ ((x ≡ a) ⊎ (a < x))
order zero zero = inr (inl refl)
order zero (suc a) = inl (omega arith)
order (suc x) zero = inr (inr (omega arith))
order (suc x) (suc a) = ⊎_elim (λ (l : x < a). inl (omega arith)) (λ r. inr (⊎_elim (λ (e : x ≡ a). inl (ap suc e)) (λ (l : a < x). inr (omega arith)) r)) (order x a)

head_is : (x : ℕ) (xs : List ℕ) (a n : ℕ) → AllAbove x xs → ((h : ℕ → ℕ) → sum_by h (x ∷ xs) ≡ sum_by h (numbers a (suc n))) → x ≡ a
head_is x xs a n above same = ⊎_elim
    (λ (l : x < a). absurd (let e = same (is x) in let z = none_below x a (suc n) l in let o = one x in let c = sum_by-cons (is x) x xs in omega arith))
    (λ r. ⊎_elim (λ (e : x ≡ a). e)
    (λ (l : a < x). absurd (let e = same (is a) in let z = none_above a x xs above l in let o = one a in let y = other a x (λ e'. omega arith) in let c = sum_by-cons (is a) x xs in let d = sum_by-cons (is a) a (numbers (suc a) n) in omega arith)) r)
    (order x a)

pub same_numbers : (xs : List ℕ) (a n : ℕ) → Rising xs → ((h : ℕ → ℕ) → sum_by h xs ≡ sum_by h (numbers a n)) → xs ≡ numbers a n
same_numbers xs a zero up same = nil_from_length xs (let e = same (λ _. 1) in let o = sum_ones xs in omega arith)
same_numbers [] a (suc n) up same = absurd (let e = same (λ _. 1) in let c = sum_by-cons (λ (_ : ℕ). 1) a (numbers (suc a) n) in omega arith)
same_numbers (x ∷ xs) a (suc n) up same =
    let e = head_is x xs a n up.0 same in
    ap₂ (λ (y : ℕ) (ys : List ℕ). y ∷ ys) e (same_numbers xs (suc a) n up.1 (λ h. let s = same h in let c = sum_by-cons h x xs in let d = sum_by-cons h a (numbers (suc a) n) in let f = ap h e in omega arith))

module _ {N : Type 0} where
  above_from : (x : ℕ) (es : List (ℕ × Option N)) → ((j : ℕ) (d : ℕ × Option N) → j < length es → x ≤ (get_or es j d).0) → AllAbove x (jobs_of es)
  above_from x [] h = tt
  above_from x (e ∷ es) h = (h 0 e (omega arith), above_from x es (λ j d l. h (suc j) d (omega arith)))

  rising_from : (es : List (ℕ × Option N)) → IsNonDecreasingBy (λ (e : ℕ × Option N). e.0) es → Rising (jobs_of es)
  rising_from [] h = tt
  rising_from (e ∷ es) h = (above_from e.0 es (λ j d l. h 0 (suc j) d (omega arith) (omega arith)), rising_from es (λ i j d b l. h (suc i) (suc j) d (omega arith) (omega arith)))

  -- sorted, the jobs that each ended once are all in order
  pub sorted_jobs : (es : List (ℕ × Option N)) (n : ℕ) → IsNonDecreasingBy (λ (e : ℕ × Option N). e.0) es → ((h : ℕ → ℕ) → ended h es ≡ sum_by h (numbers 0 n)) → jobs_of es ≡ numbers 0 n
  sorted_jobs es n up same = same_numbers (jobs_of es) 0 n (rising_from es up) (λ h. sym (ended-jobs h es) ∙ same h)

  -- with their jobs again
  pub numbered_ends : (es : List (ℕ × Option N)) (a n : ℕ) → jobs_of es ≡ numbers a n → numbered a (map (λ (e : ℕ × Option N). e.1) es) ≡ es
  numbered_ends [] a n h = refl
  numbered_ends (e ∷ es) a zero h = absurd (let l = ap length h in omega arith)
  numbered_ends (e ∷ es) a (suc n) h =
      let first : e.0 ≡ a = ap (λ (l : List ℕ). get_or l 0 0) h in
      let rest : jobs_of es ≡ numbers (suc a) n = ap (λ (l : List ℕ). drop 1 l) h in
      ap₂ (λ (k : ℕ) (l : List (ℕ × Option N)). (k, e.1) ∷ l) (sym first) (numbered_ends es (suc a) n rest)

pub if_ok : {A E : Type 0} {P Q : A → Type 0} (r : Result A E) → ((x : A) → P x → Q x) → IfOk r P → IfOk r Q
if_ok (Ok x) f h = f x h
if_ok (Err e) f h = h

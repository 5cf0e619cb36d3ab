-- Eight ranks as the lanes of a vector.
use Rattle.std.proofs.Common.{◌≡◌, ℕ, zero, suc, ◌+◌, ◌*◌, ◌-◌, ◌%◌, ◌<◌, ◌≤◌, inl, inr, true, false, cond, nat_lt, nat_le, List, [], ◌∷◌, ◌++◌, map, length, get_or, bit_and, refl, sym, ap, subst, ◌∙◌, arith, w16}
use Rattle.std.specs.Simd.Lanes.{zip2, sel_l, top}
use Rattle.std.proofs.lemmas.Simd.{get_or-zip2, get_or-replicate, get_or-sel_l, tops_compared, length-zip2}
use Rattle.std.proofs.lemmas.Nat.{and_mask}
use Rattle.std.proofs.lemmas.Bool.{cases_lt}
use Rattle.std.proofs.lemmas.List.{get_or_append_left}
use Rattle.std.proofs.lemmas.Bool.Decides.{nat_tests}
use Rattle.fetch_policy.specs.Lawful.{turn, key_in}
use Rattle.fetch_policy.specs.Least.{IsLesser, IsOfOne}

-- ---- the lesser of two, lane by lane

less : (a b : ℕ) → IsLesser a b (cond (nat_lt a b) a b)
less a b = elim (cases_lt a b) [
  | inl lt ↦ let t : nat_lt a b ≡ true = grind (arith, nat_tests, lt) in rw t (inl refl, omega arith, omega (arith, lt))
  | inr le ↦ let t : nat_lt a b ≡ false = grind (arith, nat_tests, le) in rw t (inr refl, le, omega arith)
]

pub lesser_in : (xs ys : List ℕ) (i : ℕ) → length xs ≡ 8 → length ys ≡ 8 → i < 8
    → IsLesser (key_in xs i) (key_in ys i) (key_in (sel_l (map (top 15) (zip2 (λ a b. cond (nat_lt a b) 65535 0) xs ys)) xs ys) i)
lesser_in xs ys i hx hy lt =
    let long : length (zip2 nat_lt xs ys) ≡ 8 = length-zip2 nat_lt xs ys (hx ∙ sym hy) ∙ hx in
    let bits : map (top 15) (zip2 (λ a b. cond (nat_lt a b) 65535 0) xs ys) ≡ zip2 nat_lt xs ys = tops_compared w16 nat_lt xs ys in
    let at : key_in (sel_l (map (top 15) (zip2 (λ a b. cond (nat_lt a b) 65535 0) xs ys)) xs ys) i ≡ cond (nat_lt (key_in xs i) (key_in ys i)) (key_in xs i) (key_in ys i) =
    ap (λ ms. key_in (sel_l ms xs ys) i) bits ∙ get_or-sel_l (zip2 nat_lt xs ys) xs ys i 0 (omega (arith, long, lt)) (omega (arith, hx, lt)) (omega (arith, hy, lt))
    ∙ ap (λ t. cond t (key_in xs i) (key_in ys i)) (get_or-zip2 nat_lt xs ys i 0 0 false (omega (arith, hx, lt)) (omega (arith, hy, lt))) in
    subst (λ k. IsLesser (key_in xs i) (key_in ys i) k) (sym at) (less (key_in xs i) (key_in ys i))

-- ---- the least of eight, in three rounds

-- an element of a vector that was turned is one of the vector
pub of_turned : (xs : List ℕ) (a j k : ℕ) → j < length xs → IsLesser a (get_or (xs ++ xs) j 0) k → IsLesser a (key_in xs j) k
of_turned xs a j k lt h = subst (λ b. IsLesser a b k) (get_or_append_left xs xs 0 j lt) h

of_lesser : (xs : List ℕ) (a b k : ℕ) → IsLesser a b k → IsOfOne xs a → IsOfOne xs b → IsOfOne xs k
of_lesser xs a b k (inl is, _, _) p q = (p.0, p.1, p.2 ∙ sym is)
of_lesser xs a b k (inr is, _, _) p q = (q.0, q.1, q.2 ∙ sym is)

module _ (xs : List ℕ) (a0 a1 a2 a3 b0 b1 k : ℕ) (p0 : IsLesser (key_in xs 0) (key_in xs 4) a0) (p1 : IsLesser (key_in xs 1) (key_in xs 5) a1) (p2 : IsLesser (key_in xs 2) (key_in xs 6) a2) (p3 : IsLesser (key_in xs 3) (key_in xs 7) a3)
    (q0 : IsLesser a0 a2 b0) (q1 : IsLesser a1 a3 b1) (r : IsLesser b0 b1 k) where
  itself : (c : ℕ) → c < 8 → IsOfOne xs (key_in xs c)
  itself c lt = (c, lt, refl)

  pub is_of_one : IsOfOne xs k
  is_of_one = of_lesser xs b0 b1 k r
      (of_lesser xs a0 a2 b0 q0 (of_lesser xs _ _ a0 p0 (itself 0 (omega arith)) (itself 4 (omega arith))) (of_lesser xs _ _ a2 p2 (itself 2 (omega arith)) (itself 6 (omega arith))))
      (of_lesser xs a1 a3 b1 q1 (of_lesser xs _ _ a1 p1 (itself 1 (omega arith)) (itself 5 (omega arith))) (of_lesser xs _ _ a3 p3 (itself 3 (omega arith)) (itself 7 (omega arith))))

  pub is_least : (c : ℕ) → c < 8 → k ≤ key_in xs c
  is_least zero lt = omega (arith, p0.1, q0.1, r.1)
  is_least (suc zero) lt = omega (arith, p1.1, q1.1, r.1)
  is_least (suc (suc zero)) lt = omega (arith, p2.1, q0.1, r.1)
  is_least (suc (suc (suc zero))) lt = omega (arith, p3.1, q1.1, r.1)
  is_least (suc (suc (suc (suc zero)))) lt = omega (arith, p0.1, q0.1, r.1)
  is_least (suc (suc (suc (suc (suc zero))))) lt = omega (arith, p1.1, q1.1, r.1)
  is_least (suc (suc (suc (suc (suc (suc zero)))))) lt = omega (arith, p2.1, q0.1, r.1)
  is_least (suc (suc (suc (suc (suc (suc (suc zero))))))) lt = omega (arith, p3.1, q1.1, r.1)
  is_least (suc (suc (suc (suc (suc (suc (suc (suc c)))))))) lt = absurd (omega (arith, lt))

-- ---- ranks

below_8 : (n : ℕ) → n % 8 < 8
below_8 n = omega arith

rank_in : (x k r t : ℕ) → x ≤ 8191 → k < 8 → r < 8 → t ≡ bit_and ((k + 8 + (65536 - r)) % 65536) 7 → (x * 8 % 65536 + t) % 65536 ≡ 8 * x + (k + 8 - r) % 8
rank_in x k r t small lt le is =
    let low : t ≡ (k + 8 + (65536 - r)) % 65536 % 8 = is ∙ and_mask ((k + 8 + (65536 - r)) % 65536) 3 in
    omega (arith, small, lt, le, low)

turns_at : (cycle c : ℕ) → c < 8 → get_or (bit_and ((8 + (65536 - cycle % 8)) % 65536) 7 ∷ bit_and ((9 + (65536 - cycle % 8)) % 65536) 7 ∷ bit_and ((10 + (65536 - cycle % 8)) % 65536) 7 ∷ bit_and ((11 + (65536 - cycle % 8)) % 65536) 7 ∷ bit_and ((12 + (65536 - cycle % 8)) % 65536) 7 ∷ bit_and ((13 + (65536 - cycle % 8)) % 65536) 7 ∷ bit_and ((14 + (65536 - cycle % 8)) % 65536) 7 ∷ bit_and ((15 + (65536 - cycle % 8)) % 65536) 7 ∷ []) c 0 ≡ bit_and ((c + 8 + (65536 - cycle % 8)) % 65536) 7
turns_at cycle zero lt = refl
turns_at cycle (suc zero) lt = refl
turns_at cycle (suc (suc zero)) lt = refl
turns_at cycle (suc (suc (suc zero))) lt = refl
turns_at cycle (suc (suc (suc (suc zero)))) lt = refl
turns_at cycle (suc (suc (suc (suc (suc zero))))) lt = refl
turns_at cycle (suc (suc (suc (suc (suc (suc zero)))))) lt = refl
turns_at cycle (suc (suc (suc (suc (suc (suc (suc zero))))))) lt = refl
turns_at cycle (suc (suc (suc (suc (suc (suc (suc (suc c)))))))) lt = absurd (omega (arith, lt))

pub rank_at : (xs : List ℕ) (cycle c : ℕ) → length xs ≡ 8 → c < 8 → key_in xs c ≤ 8191
    → key_in (zip2 (λ a b. (a + b) % 65536) (zip2 (λ a b. a * b % 65536) xs (8 ∷ 8 ∷ 8 ∷ 8 ∷ 8 ∷ 8 ∷ 8 ∷ 8 ∷ [])) (bit_and ((8 + (65536 - cycle % 8)) % 65536) 7 ∷ bit_and ((9 + (65536 - cycle % 8)) % 65536) 7 ∷ bit_and ((10 + (65536 - cycle % 8)) % 65536) 7 ∷ bit_and ((11 + (65536 - cycle % 8)) % 65536) 7 ∷ bit_and ((12 + (65536 - cycle % 8)) % 65536) 7 ∷ bit_and ((13 + (65536 - cycle % 8)) % 65536) 7 ∷ bit_and ((14 + (65536 - cycle % 8)) % 65536) 7 ∷ bit_and ((15 + (65536 - cycle % 8)) % 65536) 7 ∷ [])) c ≡ 8 * key_in xs c + turn cycle c
rank_at xs cycle c eight lt small =
    let mul : ℕ → ℕ → ℕ = λ a b. a * b % 65536 in
    let long : length (zip2 mul xs (8 ∷ 8 ∷ 8 ∷ 8 ∷ 8 ∷ 8 ∷ 8 ∷ 8 ∷ [])) ≡ 8 = length-zip2 mul xs (8 ∷ 8 ∷ 8 ∷ 8 ∷ 8 ∷ 8 ∷ 8 ∷ 8 ∷ []) eight ∙ eight in
    let scaled : get_or (zip2 mul xs (8 ∷ 8 ∷ 8 ∷ 8 ∷ 8 ∷ 8 ∷ 8 ∷ 8 ∷ [])) c 0 ≡ key_in xs c * 8 % 65536 = get_or-zip2 mul xs (8 ∷ 8 ∷ 8 ∷ 8 ∷ 8 ∷ 8 ∷ 8 ∷ 8 ∷ []) c 0 0 0 (omega (arith, eight, lt)) lt ∙ ap (λ n. key_in xs c * n % 65536) (get_or-replicate 8 c 8 0 lt) in
    get_or-zip2 (λ a b. (a + b) % 65536) (zip2 mul xs (8 ∷ 8 ∷ 8 ∷ 8 ∷ 8 ∷ 8 ∷ 8 ∷ 8 ∷ [])) (bit_and ((8 + (65536 - cycle % 8)) % 65536) 7 ∷ bit_and ((9 + (65536 - cycle % 8)) % 65536) 7 ∷ bit_and ((10 + (65536 - cycle % 8)) % 65536) 7 ∷ bit_and ((11 + (65536 - cycle % 8)) % 65536) 7 ∷ bit_and ((12 + (65536 - cycle % 8)) % 65536) 7 ∷ bit_and ((13 + (65536 - cycle % 8)) % 65536) 7 ∷ bit_and ((14 + (65536 - cycle % 8)) % 65536) 7 ∷ bit_and ((15 + (65536 - cycle % 8)) % 65536) 7 ∷ []) c 0 0 0 (omega (arith, long, lt)) lt
    ∙ ap (λ n. (n + get_or (bit_and ((8 + (65536 - cycle % 8)) % 65536) 7 ∷ bit_and ((9 + (65536 - cycle % 8)) % 65536) 7 ∷ bit_and ((10 + (65536 - cycle % 8)) % 65536) 7 ∷ bit_and ((11 + (65536 - cycle % 8)) % 65536) 7 ∷ bit_and ((12 + (65536 - cycle % 8)) % 65536) 7 ∷ bit_and ((13 + (65536 - cycle % 8)) % 65536) 7 ∷ bit_and ((14 + (65536 - cycle % 8)) % 65536) 7 ∷ bit_and ((15 + (65536 - cycle % 8)) % 65536) 7 ∷ []) c 0) % 65536) scaled
    ∙ rank_in (key_in xs c) c (cycle % 8) (get_or (bit_and ((8 + (65536 - cycle % 8)) % 65536) 7 ∷ bit_and ((9 + (65536 - cycle % 8)) % 65536) 7 ∷ bit_and ((10 + (65536 - cycle % 8)) % 65536) 7 ∷ bit_and ((11 + (65536 - cycle % 8)) % 65536) 7 ∷ bit_and ((12 + (65536 - cycle % 8)) % 65536) 7 ∷ bit_and ((13 + (65536 - cycle % 8)) % 65536) 7 ∷ bit_and ((14 + (65536 - cycle % 8)) % 65536) 7 ∷ bit_and ((15 + (65536 - cycle % 8)) % 65536) 7 ∷ []) c 0) small lt (below_8 cycle) (turns_at cycle c lt)

-- ---- without those of full front lists

-- the count of a context by whether its front list is full
count_left : (xs fs : List ℕ) (c : ℕ) → length xs ≡ 8 → length fs ≡ 8 → c < 8
    → key_in (sel_l (map (top 15) (zip2 (λ a b. cond (nat_le a b) 65535 0) (16 ∷ 16 ∷ 16 ∷ 16 ∷ 16 ∷ 16 ∷ 16 ∷ 16 ∷ []) fs)) (8191 ∷ 8191 ∷ 8191 ∷ 8191 ∷ 8191 ∷ 8191 ∷ 8191 ∷ 8191 ∷ []) xs) c ≡ cond (nat_le 16 (key_in fs c)) 8191 (key_in xs c)
count_left xs fs c hx hf lt =
    let sixteen : List ℕ = 16 ∷ 16 ∷ 16 ∷ 16 ∷ 16 ∷ 16 ∷ 16 ∷ 16 ∷ [] in
    let none : List ℕ = 8191 ∷ 8191 ∷ 8191 ∷ 8191 ∷ 8191 ∷ 8191 ∷ 8191 ∷ 8191 ∷ [] in
    let long : length (zip2 nat_le sixteen fs) ≡ 8 = length-zip2 nat_le sixteen fs (sym hf) in
    ap (λ ms. key_in (sel_l ms none xs) c) (tops_compared w16 nat_le sixteen fs) ∙ get_or-sel_l (zip2 nat_le sixteen fs) none xs c 0 (omega (arith, long, lt)) lt (omega (arith, hx, lt))
    ∙ ap (λ t. cond t (get_or none c 0) (key_in xs c)) (get_or-zip2 nat_le sixteen fs c 0 0 false lt (omega (arith, hf, lt)))
    ∙ ap (λ k. cond (nat_le k (key_in fs c)) (get_or none c 0) (key_in xs c)) (get_or-replicate 8 c 16 0 lt)
    ∙ ap (λ k. cond (nat_le 16 (key_in fs c)) k (key_in xs c)) (get_or-replicate 8 c 8191 0 lt)

module _ (xs fs : List ℕ) (c : ℕ) (hx : length xs ≡ 8) (hf : length fs ≡ 8) (lt : c < 8) where
  pub full_left_out : 16 ≤ key_in fs c → key_in (sel_l (map (top 15) (zip2 (λ a b. cond (nat_le a b) 65535 0) (16 ∷ 16 ∷ 16 ∷ 16 ∷ 16 ∷ 16 ∷ 16 ∷ 16 ∷ []) fs)) (8191 ∷ 8191 ∷ 8191 ∷ 8191 ∷ 8191 ∷ 8191 ∷ 8191 ∷ 8191 ∷ []) xs) c ≡ 8191
  full_left_out full = let t : nat_le 16 (key_in fs c) ≡ true = grind (arith, nat_tests, full) in count_left xs fs c hx hf lt ∙ ap (λ b. cond b 8191 (key_in xs c)) t

  pub others_left : key_in fs c < 16 → key_in (sel_l (map (top 15) (zip2 (λ a b. cond (nat_le a b) 65535 0) (16 ∷ 16 ∷ 16 ∷ 16 ∷ 16 ∷ 16 ∷ 16 ∷ 16 ∷ []) fs)) (8191 ∷ 8191 ∷ 8191 ∷ 8191 ∷ 8191 ∷ 8191 ∷ 8191 ∷ 8191 ∷ []) xs) c ≡ key_in xs c
  others_left room = let t : nat_le 16 (key_in fs c) ≡ false = grind (arith, nat_tests, room) in count_left xs fs c hx hf lt ∙ ap (λ b. cond b 8191 (key_in xs c)) t

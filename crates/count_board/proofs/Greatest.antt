-- The greatest count of a list.
use Rattle.std.proofs.Common.{◌≡◌, ◌≢◌, ℕ, ◌≤◌, max, ne_eqb, eq-eqb, cond, sym, subst, ◌==◌, if◌then◌else◌, List, [], ◌∷◌, ◌++◌, refl, ap, ◌∙◌, arith}
use mathlib.Core.Logic.{dite}
use native.Mathlib.Decide.{ℕ_discrete}
use Rattle.count_board.specs.Counts.{count_at, greatest_at}

pub count_at_here : (i n : ℕ) → count_at i (i, n) ≡ n
count_at_here i n = ap (λ b. cond b n 0) (eq-eqb i i refl)

pub count_at_else : (i j n : ℕ) → i ≢ j → count_at i (j, n) ≡ 0
count_at_else i j n apart = ap (λ b. cond b n 0) (ne_eqb i j apart)

pub greatest_at-append : (i : ℕ) (xs ys : List (ℕ × ℕ)) → greatest_at i (xs ++ ys) ≡ max (greatest_at i xs) (greatest_at i ys)
greatest_at-append i [] ys = omega arith
greatest_at-append i (x ∷ xs) ys = let r = greatest_at-append i xs ys in omega arith

pub greatest_at_here : (i n : ℕ) (xs : List (ℕ × ℕ)) → greatest_at i (xs ++ (i, n) ∷ []) ≡ max (greatest_at i xs) n
greatest_at_here i n xs = let r = greatest_at-append i xs ((i, n) ∷ []) in let w = count_at_here i n in omega arith

pub greatest_at_else : (i j n : ℕ) (xs : List (ℕ × ℕ)) → i ≢ j → greatest_at i (xs ++ (j, n) ∷ []) ≡ greatest_at i xs
greatest_at_else i j n xs apart = let r = greatest_at-append i xs ((j, n) ∷ []) in let w = count_at_else i j n apart in omega arith

-- one entry more, at each context
pub raised_more : (i c c' n : ℕ) (xs ys : List (ℕ × ℕ)) → ys ≡ xs ++ (c, n) ∷ [] → c ≡ c' → greatest_at i ys ≡ (if i == c' then max (greatest_at i xs) n else greatest_at i xs)
raised_more i c c' n xs ys more same = ap (greatest_at i) more ∙ subst (λ k. greatest_at i (xs ++ (c, n) ∷ []) ≡ (if i == k then max (greatest_at i xs) n else greatest_at i xs)) same (dite (ℕ_discrete i c)
    (λ e. subst (λ j. greatest_at j (xs ++ (c, n) ∷ []) ≡ (if j == c then max (greatest_at j xs) n else greatest_at j xs)) (sym e)
    (greatest_at_here c n xs ∙ sym (ap (λ b. cond b (max (greatest_at c xs) n) (greatest_at c xs)) (eq-eqb c c refl))))
    (λ ne. greatest_at_else i c n xs ne ∙ sym (ap (λ b. cond b (max (greatest_at i xs) n) (greatest_at i xs)) (ne_eqb i c ne))))

-- the same, where the entry is the greatest
pub seen_more : (i c c' n : ℕ) (xs ys : List (ℕ × ℕ)) → ys ≡ xs ++ (c, n) ∷ [] → c ≡ c' → greatest_at c' xs ≤ n → greatest_at i ys ≡ (if i == c' then n else greatest_at i xs)
seen_more i c c' n xs ys more same within = raised_more i c c' n xs ys more same ∙ dite (ℕ_discrete i c')
    (λ e. subst (λ j. (if j == c' then max (greatest_at j xs) n else greatest_at j xs) ≡ (if j == c' then n else greatest_at j xs)) (sym e)
    (ap (λ k. if c' == c' then k else greatest_at c' xs) (omega arith)))
    (λ ne. ap (λ b. cond b (max (greatest_at i xs) n) (greatest_at i xs)) (ne_eqb i c' ne) ∙ sym (ap (λ b. cond b n (greatest_at i xs)) (ne_eqb i c' ne)))

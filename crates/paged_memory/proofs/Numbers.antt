-- A number in bytes, read from its other end.
use Rattle.std.proofs.Common.{◌≡◌, ℕ, zero, suc, ◌+◌, ◌*◌, ◌^◌, ◌<◌, mul_assoc, mul_comm, arith, ap, sym, ◌∙◌, refl}
use Rattle.std.proofs.Math.Nat.{pow-suc}
use Rattle.paged_memory.specs.Cells.{number_at}

-- the number in so many bytes, the last one added last
abbrev pub little : (ℕ → ℕ) → ℕ → ℕ → ℕ
little f a zero = 0
little f a (suc k) = little f a k + f (a + k) * 256 ^ k

shifted : (x y b p q : ℕ) → q ≡ p * 256 → (x + 256 * y) + b * q ≡ x + 256 * (y + b * p)
shifted x y b p q e =
    let product : b * q ≡ 256 * (b * p) = ap (λ (n : ℕ). b * n) e ∙ sym (mul_assoc b p 256) ∙ mul_comm (b * p) 256 in
    omega (arith, product)

little-shift : (f : ℕ → ℕ) (a k : ℕ) → little f a (suc k) ≡ f a + 256 * little f (a + 1) k
little-shift f a zero = let here : a + 0 ≡ a = omega arith in rw here (omega arith)
little-shift f a (suc k) =
    let next : a + suc k ≡ a + 1 + k = omega arith in
    rw next (ap (λ (n : ℕ). n + f (a + 1 + k) * 256 ^ suc k) (little-shift f a k)
    ∙ shifted (f a) (little f (a + 1) k) (f (a + 1 + k)) (256 ^ k) (256 ^ suc k) (pow-suc 256 k))

pub number_at-little : (f : ℕ → ℕ) (a k : ℕ) → number_at f a k ≡ little f a k
unfolding number_at
number_at-little f a zero = refl
number_at-little f a (suc k) = ap (λ (n : ℕ). f a + 256 * n) (number_at-little f (a + 1) k) ∙ sym (little-shift f a k)

pub number_at-one : (f : ℕ → ℕ) (a : ℕ) → number_at f a 1 ≡ f a
unfolding number_at
number_at-one f a = omega arith

-- numbers of the same bytes are the same
pub number_at-same : (f g : ℕ → ℕ) (a b k : ℕ) → ((i : ℕ) → i < k → f (a + i) ≡ g (b + i)) → number_at f a k ≡ number_at g b k
number_at-same f g a b k same = number_at-little f a k ∙ go k same ∙ sym (number_at-little g b k)
  where
    go : (k : ℕ) → ((i : ℕ) → i < k → f (a + i) ≡ g (b + i)) → little f a k ≡ little g b k
    go zero same = refl
    go (suc k) same = rw (go k (λ i h. same i (omega arith)), same k (omega arith)) refl

-- a number of eight bytes is two of four
little-halves : (f : ℕ → ℕ) (a : ℕ) → little f a 8 ≡ little f a 4 + 2 ^ 32 * little f (a + 4) 4
little-halves f a =
    let at-0 : a + 4 + 0 ≡ a + 4 = omega arith in
    let at-1 : a + 4 + 1 ≡ a + 5 = omega arith in
    let at-2 : a + 4 + 2 ≡ a + 6 = omega arith in
    let at-3 : a + 4 + 3 ≡ a + 7 = omega arith in
    rw (at-0, at-1, at-2, at-3) (omega arith)

pub number_at-halves : (f : ℕ → ℕ) (a : ℕ) → number_at f a 8 ≡ number_at f a 4 + 2 ^ 32 * number_at f (a + 4) 4
number_at-halves f a = rw (number_at-little f a 8, number_at-little f a 4, number_at-little f (a + 4) 4) (little-halves f a)

-- Numbers read from memory with a store laid over it.
use Rattle.std.proofs.Common.{◌≡◌, ℕ, zero, suc, ◌+◌, ◌-◌, ◌/◌, ◌%◌, ◌^◌, ◌<◌, ◌≤◌, ◌↔◌, IsTrue, Bool, true, false, refl, sym, ap, ◌∙◌, arith}
use Rattle.std.proofs.lemmas.Bool.Decides.{nat_tests}
use Rattle.std.proofs.Math.Nat.{pow-succ', div-div-eq-div-mul}
use Rattle.std.specs.Int.{byte_at as byte_of_number}
use Rattle.paged_memory.specs.Cells.{number_at}
use Rattle.core_view.specs.declared.span.Span.{Span}
use Rattle.core_view.specs.declared.span.Bytes.{Bytes}
use Rattle.core_view.specs.Spans.{contains, shares, covers, number_in, byte_after, part_of}
use Rattle.core_view.proofs.ByteNumbers.{byte_is, byte_split}

-- ---- spans

-- what it means that an address is in a span
pub record IsIn (s : Span) (x : ℕ) : Type 0 where
  pub from : s.address ≤ x
  pub to : x < s.address + s.size

pub contains_in : (s : Span) (x : ℕ) → contains s x ≡ true → IsIn s x
contains_in s x h = record { from = grind (arith, nat_tests, h); to = grind (arith, nat_tests, h) }

pub contains_from : (s : Span) (x : ℕ) → IsIn s x → contains s x ≡ true
contains_from s x h = let a = h.from in let b = h.to in grind (arith, nat_tests, a, b)

pub apart_outside : (s t : Span) (x : ℕ) → shares s t ≡ false → IsIn t x → contains s x ≡ false
apart_outside s t x h k = let a = k.from in let b = k.to in grind (arith, nat_tests, h, a, b)

-- the test of two ends says it of each byte between
pub covers_each : (s t : Span) (b : Bool) → b ≡ covers s t → 0 < t.size → IsTrue b ↔ ((x : ℕ) → IsTrue (contains t x) → IsTrue (contains s x))
covers_each s t b is some = (all, ends)
  where
    all : IsTrue b → (x : ℕ) → IsTrue (contains t x) → IsTrue (contains s x)
    all h x i = grind (arith, nat_tests)

    ends : ((x : ℕ) → IsTrue (contains t x) → IsTrue (contains s x)) → IsTrue b
    ends h =
        let first : IsTrue (contains t t.address) → IsTrue (contains s t.address) = h t.address in
        let last : IsTrue (contains t (t.address + t.size - 1)) → IsTrue (contains s (t.address + t.size - 1)) = h (t.address + t.size - 1) in
        grind (arith, nat_tests, first, last)

-- ---- numbers

-- equal bytes make equal numbers
pub read_same : (f g : ℕ → ℕ) (a k : ℕ) → ((x : ℕ) → a ≤ x → x < a + k → f x ≡ g x) → number_at f a k ≡ number_at g a k
unfolding number_at
read_same f g a zero h = refl
read_same f g a (suc k) h =
    let head : f a ≡ g a = h a (omega arith) (omega arith) in
    let tail : number_at f (a + 1) k ≡ number_at g (a + 1) k = read_same f g (a + 1) k (λ x from to. h x (omega arith) (omega arith)) in
    rw (head, tail) refl

pub number_same : (f g : ℕ → ℕ) (s : Span) → ((x : ℕ) → IsIn s x → f x ≡ g x) → number_in f s ≡ number_in g s
number_same f g s h = read_same f g s.address s.size (λ x from to. h x (record { from = from; to = to }))

-- ---- a store laid over bytes

pub byte_outside : (f : ℕ → ℕ) (b : Bytes) (x : ℕ) → contains b.span x ≡ false → byte_after f b x ≡ f x
byte_outside f b x h = rw h refl

pub byte_inside : (f : ℕ → ℕ) (b : Bytes) (x : ℕ) → contains b.span x ≡ true → byte_after f b x ≡ byte_of_number (x - b.span.address) b.value
byte_inside f b x h = rw h refl

-- a store that shares no byte with a span changes nothing of its number
pub read_apart : (f : ℕ → ℕ) (b : Bytes) (s : Span) → shares b.span s ≡ false → number_in (byte_after f b) s ≡ number_in f s
read_apart f b s h = number_same (byte_after f b) f s (λ x k. byte_outside f b x (apart_outside b.span s x h k))

read_inside : (f : ℕ → ℕ) (b : Bytes) (a k : ℕ) → b.span.address ≤ a → a + k ≤ b.span.address + b.span.size → number_at (byte_after f b) a k ≡ b.value / 256 ^ (a - b.span.address) % 256 ^ k
unfolding number_at
read_inside f b a zero from to = omega arith
read_inside f b a (suc k) from to =
    let d : ℕ = a - b.span.address in
    let inside : contains b.span a ≡ true = contains_from b.span a (record { from = from; to = omega arith }) in
    let head : byte_after f b a ≡ b.value / 256 ^ d % 256 = byte_inside f b a inside ∙ byte_is d b.value in
    let up : a + 1 - b.span.address ≡ suc d = omega arith in
    let tail : number_at (byte_after f b) (a + 1) k ≡ b.value / 256 ^ (a + 1 - b.span.address) % 256 ^ k = read_inside f b (a + 1) k (omega arith) (omega arith) in
    let higher : b.value / 256 ^ suc d ≡ b.value / 256 ^ d / 256 = ap (λ m. b.value / m) (omega (arith, pow-succ' 256 d)) ∙ sym (div-div-eq-div-mul b.value (256 ^ d) 256) in
    rw (head, tail, up, higher) (byte_split (b.value / 256 ^ d) k)

-- a store that covers a span gives it its own bytes
pub read_covered : (f : ℕ → ℕ) (b : Bytes) (s : Span) → covers b.span s ≡ true → number_in (byte_after f b) s ≡ part_of b s
read_covered f b s h = read_inside f b s.address s.size (grind (arith, nat_tests, h)) (grind (arith, nat_tests, h))

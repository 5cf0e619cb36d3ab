-- What a write means byte by byte.
use Rattle.std.proofs.Common.{◌≡◌, ℕ, zero, suc, ◌+◌, ◌-◌, ◌*◌, ◌/◌, ◌%◌, ◌^◌, ◌<◌, ◌≤◌, Bool, true, false, Option, Some, None, is_some, Ok, Err, cond, add_comm, div-one, arith, ap, sym, ◌∙◌, refl, inl, inr}
use Rattle.std.specs.Prelude.{if◌then◌else◌, ◌==◌}
use Rattle.std.proofs.lemmas.Bool.Decides.{nat_tests}
use Rattle.std.proofs.lemmas.Bool.{cases_lt, and_parts}
use Rattle.std.proofs.lemmas.Nat.{mod-pow-add, pow-add}
use Rattle.std.proofs.Math.Nat.{pow-suc}
use Rattle.std.specs.Int.{byte_at as byte_of_number}
use Rattle.std.specs.FinMap.{get}
use Rattle.paged_memory.specs.Cells.{Cell, Cells, Rights, byte_of, byte_at, rights_of, rights_at, is_readable, is_writable, all_have, number_at, within, write, load_of, store_of}
use Rattle.paged_memory.specs.Pages.{page_addresses}
use Rattle.paged_memory.specs.Stored.{IsStored}
use Rattle.paged_memory.proofs.Numbers.{little, number_at-little}
use Rattle.paged_memory.proofs.OnePage.{all_have-true}
use Rattle.paged_memory.proofs.Listed.{same_page_addresses}
use Rattle.paged_memory.proofs.Tabulated.{with_byte, get-write}
use Rattle.paged_memory.specs.declared.Fault.{Fault}

-- ---- the pointwise law

-- what all have, each has
pub all_have-at : (right : Rights → Bool) (rights : ℕ → Rights) (a k x : ℕ) → all_have right rights a k ≡ true → a ≤ x → x < a + k → right (rights x) ≡ true
unfolding all_have
all_have-at right rights a zero x h from to = absurd (omega arith)
all_have-at right rights a (suc k) x h from to =
    let both = and_parts (right (rights a)) (all_have right rights (a + 1) k) h in
    elim (cases_lt a x) [
      | inl later ↦ all_have-at right rights (a + 1) k x both.1 (omega arith) (omega arith)
      | inr here ↦ let same : a ≡ x = omega arith in ap (λ (y : ℕ). right (rights y)) (sym same) ∙ both.0
    ]

rights-with_byte : (b : ℕ) (o : Option Cell) → rights_of (with_byte b o) ≡ rights_of o
rights-with_byte b None = refl
rights-with_byte b (Some c) = refl

either_rights : (t : Bool) (b : ℕ) (o : Option Cell) → rights_of (cond t (with_byte b o) o) ≡ rights_of o
either_rights true b o = rights-with_byte b o
either_rights false b o = refl

-- a write changes no right
pub rights_at-write : (m : Cells) (a k v x : ℕ) → rights_at (write m a k v) x ≡ rights_at m x
rights_at-write m a k v x = ap rights_of (get-write m a k v x) ∙ either_rights (within a k x) (byte_of_number (x - a) v) (get m x)

byte-with_byte : (b : ℕ) (o : Option Cell) → is_writable (rights_of o) ≡ true → byte_of (with_byte b o) ≡ b
byte-with_byte b None h = absurd cc
byte-with_byte b (Some c) h = refl

either_byte : (t : Bool) (b : ℕ) (o : Option Cell) → (t ≡ true → is_writable (rights_of o) ≡ true) → byte_of (cond t (with_byte b o) o) ≡ (if t then b else byte_of o)
either_byte true b o h = byte-with_byte b o (h refl)
either_byte false b o h = refl

inside : (a k x : ℕ) → within a k x ≡ true → (a ≤ x) × (x < a + k)
inside a k x h = (grind (arith, nat_tests), grind (arith, nat_tests))

-- where all may be written, a write leaves the number's bytes there, and the others as they were
pub byte_at-write : (m : Cells) (a k v x : ℕ) → all_have is_writable (rights_at m) a k ≡ true → byte_at (write m a k v) x ≡ (if within a k x then byte_of_number (x - a) v else byte_at m x)
byte_at-write m a k v x h =
    ap byte_of (get-write m a k v x)
    ∙ either_byte (within a k x) (byte_of_number (x - a) v) (get m x) (λ t. let r = inside a k x t in all_have-at is_writable (rights_at m) a k x h r.0 r.1)

-- ---- a store that is done

pub record IsWritten (m n : Cells) (a k v : ℕ) : Type 0 where
  pub aligned : (a % k == 0) ≡ true
  pub writable : all_have is_writable (rights_at m) a k ≡ true
  pub is : write m a k v ≡ n

done : (b c : Bool) (e f : Fault) (w n : Cells) → (if b then (if c then Ok w else Err e) else Err f) ≡ Ok n → (b ≡ true) × (c ≡ true) × (w ≡ n)
done true true e f w n h = (refl, refl, cc)
done true false e f w n h = absurd cc
done false c e f w n h = absurd cc

pub stored_from : (m n : Cells) (a k v : ℕ) → store_of m a k v ≡ Ok n → IsWritten m n a k v
stored_from m n a k v h =
    let d = done (a % k == 0) (all_have is_writable (rights_at m) a k) _ _ (write m a k v) n h in
    record { aligned = d.0; writable = d.1; is = d.2 }

stored_bytes : (m n : Cells) (a k v x : ℕ) → store_of m a k v ≡ Ok n → (byte_at n x ≡ (if within a k x then byte_of_number (x - a) v else byte_at m x)) × (rights_at n x ≡ rights_at m x)
stored_bytes m n a k v x h =
    let s = stored_from m n a k v h in
    (ap (λ c. byte_at c x) (sym s.is) ∙ byte_at-write m a k v x s.writable, ap (λ c. rights_at c x) (sym s.is) ∙ rights_at-write m a k v x)

mapped-rights : (o p : Option Cell) → rights_of o ≡ rights_of p → is_some o ≡ is_some p
mapped-rights o p e = readable_some o ∙ ap is_readable e ∙ sym (readable_some p)
  where
    readable_some : (o : Option Cell) → is_some o ≡ is_readable (rights_of o)
    readable_some None = refl
    readable_some (Some c) = refl

stored_pages : (m n : Cells) (a k v : ℕ) → store_of m a k v ≡ Ok n → page_addresses n ≡ page_addresses m
stored_pages m n a k v h = same_page_addresses n m (λ q. mapped-rights _ _ (stored_bytes m n a k v q h).1)

-- ---- what was stored is loaded again

pow_256 : (k : ℕ) → 256 ^ k ≡ 2 ^ (8 * k)
pow_256 zero = refl
pow_256 (suc k) =
    let sum : 8 * suc k ≡ 8 * k + 8 = omega arith in
    pow-suc 256 k ∙ ap (λ (n : ℕ). n * 256) (pow_256 k) ∙ sym (ap (λ (n : ℕ). 2 ^ n) sum ∙ pow-add 2 (8 * k) 8)

byte_is : (v k : ℕ) → byte_of_number k v ≡ v / 256 ^ k % 256
byte_is v zero = ap (λ (n : ℕ). n % 256) (sym (div-one v))
byte_is v (suc k) = refl

-- one byte more of a number
one_byte : (v k : ℕ) → v % 256 ^ k + byte_of_number k v * 256 ^ k ≡ v % 256 ^ suc k
one_byte v k =
    let sum : 8 * suc k ≡ 8 + 8 * k = omega arith in
    let digit : v % 2 ^ (8 + 8 * k) ≡ (v / 2 ^ (8 * k) % 256) * 2 ^ (8 * k) + v % 2 ^ (8 * k) = mod-pow-add v 8 (8 * k) in
    ap (λ (b : ℕ). v % 256 ^ k + b * 256 ^ k) (byte_is v k)
    ∙ add_comm (v % 256 ^ k) ((v / 256 ^ k % 256) * 256 ^ k)
    ∙ ap (λ (p : ℕ). (v / p % 256) * p + v % p) (pow_256 k)
    ∙ sym digit
    ∙ ap (λ (n : ℕ). v % 2 ^ n) (sym sum)
    ∙ ap (λ (p : ℕ). v % p) (sym (pow_256 (suc k)))

little-bytes : (f : ℕ → ℕ) (a k v : ℕ) → ((i : ℕ) → i < k → f (a + i) ≡ byte_of_number i v) → little f a k ≡ v % 256 ^ k
little-bytes f a zero v is = omega arith
little-bytes f a (suc k) v is = rw (little-bytes f a k v (λ i h. is i (omega arith)), is k (omega arith)) (one_byte v k)

readable : (o : Option Cell) → is_writable (rights_of o) ≡ true → is_readable (rights_of o) ≡ true
readable None h = h
readable (Some c) h = refl

stored_number : (m n : Cells) (a k v : ℕ) → store_of m a k v ≡ Ok n → load_of n a k ≡ Ok (v % 256 ^ k)
stored_number m n a k v h =
    let s = stored_from m n a k v h in
    let each = stored_bytes m n a k v in
    let mapped : all_have is_readable (rights_at n) a k ≡ true = all_have-true is_readable (rights_at n) a k (λ i lt.
    ap is_readable (each (a + i) h).1 ∙ readable (get m (a + i)) (all_have-at is_writable (rights_at m) a k (a + i) s.writable (omega arith) (omega arith))) in
    let number : number_at (byte_at n) a k ≡ v % 256 ^ k = number_at-little (byte_at n) a k ∙ little-bytes (byte_at n) a k v (λ i lt.
    let t : within a k (a + i) ≡ true = grind (arith, nat_tests) in
    let place : a + i - a ≡ i = omega arith in
    (each (a + i) h).0 ∙ rw (t, place) refl) in
    rw (s.aligned, mapped, number) refl

-- all that a store leaves
pub stored : (m n : Cells) (a k v : ℕ) → store_of m a k v ≡ Ok n → IsStored m n a k v
stored m n a k v h = record {
  bytes = λ x. (stored_bytes m n a k v x h).0;
  rights = λ x. (stored_bytes m n a k v x h).1;
  pages = stored_pages m n a k v h;
  loaded = stored_number m n a k v h;
}

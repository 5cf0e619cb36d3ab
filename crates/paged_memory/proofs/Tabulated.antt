-- What a tabulated function has at an address, and what a written number leaves.
use Rattle.std.proofs.Common.{◌≡◌, ℕ, zero, suc, ◌+◌, ◌-◌, ◌&&◌, Option, Some, None, List, cond, leb, ltb, eqb, arith, ap, ◌∙◌, refl}
use Rattle.std.proofs.lemmas.Bool.Decides.{nat_tests}
use Rattle.std.specs.Int.{byte_at}
use Rattle.std.specs.Ordering.{nat_cmp, eq_by_cmp}
use Rattle.std.specs.Cmp.{nat_cmp_total}
use Rattle.std.specs.FinMap.{get, find, get-from_entries, get-insert}
use Rattle.paged_memory.specs.Cells.{Cell, Cells, write, put_byte}
use Rattle.paged_memory.specs.Table.{entry_before, entries_below, tabulated}

pub tie : (q n : ℕ) → eq_by_cmp nat_cmp q n ≡ eqb q n
tie q n = grind (arith, nat_tests)

step : (q a : ℕ) (c : Cell) (f r : Option Cell) → f ≡ cond (ltb q a) r None → cond (eqb q a) (Some c) f ≡ cond (ltb q a) r (cond (eqb q a) (Some c) None)
step q a c f r e = grind (arith, nat_tests)

-- the entry is found at its address, and hides nothing else
find-entry : (q a : ℕ) (o r : Option Cell) (es : List (ℕ × Cell)) → find nat_cmp q es ≡ cond (ltb q a) r None → find nat_cmp q (entry_before a o es) ≡ cond (ltb q a) r (cond (eqb q a) o None)
find-entry q a None r es e = grind (arith, nat_tests, e)
find-entry q a (Some c) r es e = rw tie (step q a c _ r e)

last : (g : ℕ → Option Cell) (q n : ℕ) → cond (ltb q n) (g q) (cond (eqb q n) (g n) None) ≡ cond (ltb q (suc n)) (g q) None
last g q n = grind (arith, nat_tests)

pub find-entries_below : (g : ℕ → Option Cell) (n q : ℕ) → find nat_cmp q (entries_below g n) ≡ cond (ltb q n) (g q) None
unfolding entries_below
find-entries_below g zero q = grind (arith, nat_tests)
find-entries_below g (suc n) q = find-entry q n (g n) (g q) _ (find-entries_below g n q) ∙ last g q n

pub get-tabulated : (g : ℕ → Option Cell) (n q : ℕ) → get (tabulated g n) q ≡ cond (ltb q n) (g q) None
unfolding tabulated
get-tabulated g n q = get-from_entries nat_cmp_total (entries_below g n) q ∙ find-entries_below g n q

-- ---- what a written number leaves

abbrev pub with_byte : ℕ → Option Cell → Option Cell
with_byte b None = None
with_byte b (Some c) = Some (record c { byte = b })

put_none : (m : Cells) (a q : ℕ) → get m a ≡ None → get m q ≡ cond (eqb q a) None (get m q)
put_none m a q e = grind (arith, nat_tests)

get-put_byte : (m : Cells) (a b q : ℕ) (o : Option Cell) → get m a ≡ o → get (put_byte m a b o) q ≡ cond (eqb q a) (with_byte b o) (get m q)
get-put_byte m a b q None e = put_none m a q e
get-put_byte m a b q (Some c) e = get-insert nat_cmp_total m a (record c { byte = b }) q ∙ ap (λ t. cond t (Some (record c { byte = b })) (get m q)) (tie q a)

-- each byte from a on is the number's, and the rest is as it was
abbrev pub written : ℕ → ℕ → ℕ → ℕ → Option Cell → Option Cell
written a k v q o = cond (leb a q && ltb q (a + k)) (with_byte (byte_at (q - a) v) o) o

written_none : (a v q : ℕ) (o : Option Cell) → o ≡ written a 0 v q o
written_none a v q o = grind (arith, nat_tests)

past_written : (a k v : ℕ) (o : Option Cell) → written a k v (a + k) o ≡ o
past_written a k v o = grind (arith, nat_tests)

same_byte : (g : ℕ → Option Cell) (a k v q : ℕ) → q ≡ a + k → with_byte (byte_at k v) (g (a + k)) ≡ with_byte (byte_at (q - a) v) (g q)
same_byte g a k v q e =
    let d : q - a ≡ k = omega arith in
    rw (d, e) refl

one_written : (g : ℕ → Option Cell) (a k v q : ℕ) → cond (eqb q (a + k)) (with_byte (byte_at k v) (g (a + k))) (written a k v q (g q)) ≡ written a (suc k) v q (g q)
one_written g a k v q = grind (arith, nat_tests, same_byte g a k v q)

pub get-write : (m : Cells) (a k v q : ℕ) → get (write m a k v) q ≡ written a k v q (get m q)
unfolding write
get-write m a zero v q = written_none a v q (get m q)
get-write m a (suc k) v q =
    get-put_byte (write m a k v) (a + k) _ q (get m (a + k)) (get-write m a k v (a + k) ∙ past_written a k v _)
    ∙ ap (cond (eqb q (a + k)) (with_byte (byte_at k v) (get m (a + k)))) (get-write m a k v q)
    ∙ one_written (get m) a k v q

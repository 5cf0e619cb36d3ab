-- How often a register stands in the file.
use Rattle.std.proofs.Common.{◌≡◌, ◌≢◌, ℕ, ◌+◌, ◌-◌, ◌<◌, List, length, take, slice_get, Some, ap, arith, inl, inr}
use Rattle.std.specs.Prelude.{set, sum_by, slice_index}
use Rattle.std.proofs.lemmas.Bool.{cases_lt}
use Rattle.std.proofs.lemmas.Bool.Decides.{nat_tests}
use Rattle.std.proofs.lemmas.List.Sums.{sum_by-set, sum_by_more, get_or-le-sum_by}
use Rattle.std.proofs.lemmas.List.{take_all}
use Rattle.std.proofs.lemmas.Option.{get_or_from_slice_get, slice_get_within}
use Rattle.rename_file.specs.declared.rename_map.Rename.{Rename}
use Rattle.rename_file.specs.File.{File, IsFile, Bank, IsNewestFree, bank, no_bank, at, uses_in, uses}

-- a change of one context
pub uses-set : (q : ℕ) (f : File) (c : ℕ) (b : Bank) → c < length f.banks → sum_by (uses_in q) (set f.banks c b) + uses_in q (bank f c) ≡ sum_by (uses_in q) f.banks + uses_in q b
uses-set q f c b lt = sum_by-set (uses_in q) f.banks c b no_bank lt

-- the newest of the free
pub newest_use : (q p : ℕ) (free : List ℕ) → slice_get free (length free - 1) ≡ Some p → sum_by (at q) free ≡ at q p + sum_by (at q) (take (length free - 1) free)
newest_use q p free e =
    let k : ℕ = length free - 1 in
    let there : k < length free = slice_get_within free k p e in
    omega (arith, ap (sum_by (at q)) (take_all (k + 1) free (omega (arith, there))), sum_by_more (at q) free k 0 there, ap (at q) (get_or_from_slice_get free k p 0 e))

pub at_self : (p : ℕ) → at p p ≡ 1
at_self p = grind (arith, nat_tests)

-- a register that is used somewhere is one of the cells
pub used_in_range : (f : File) (p : ℕ) → IsFile f → 0 < uses p f → p < length f.cells
used_in_range f p ok used =
    elim (cases_lt p (length f.cells)) [ inl lt ↦ lt | inr le ↦ absurd (let e = ok.once p in grind (arith, nat_tests, e)) ]

pub used_once : (f : File) (p : ℕ) → IsFile f → uses p f < 2
used_once f p ok = let e = ok.once p in elim (cases_lt p (length f.cells)) [ inl lt ↦ grind (arith, nat_tests, e) | inr le ↦ grind (arith, nat_tests, e) ]

pub newest_free : (f : File) (p : ℕ) → IsFile f → IsNewestFree f p → p < length f.cells
newest_free f p ok e = used_in_range f p ok (omega (arith, newest_use p p f.free e, at_self p))

-- what is committed is used
pub committed_used : (f : File) (c r : ℕ) → IsFile f → c < 8 → r < 32 → let p = slice_index (bank f c).committed r in 0 < sum_by (uses_in p) f.banks
committed_used f c r ok lt narrow =
    let b = bank f c in
    let p : ℕ = slice_index b.committed r in
    omega (arith, at_self p, get_or-le-sum_by (at p) b.committed r 0 (omega (arith, (ok.banks c lt).wide)), get_or-le-sum_by (uses_in p) f.banks c no_bank (omega (arith, ok.eight)))

pub committed_in_range : (f : File) (c r : ℕ) → IsFile f → c < 8 → r < 32 → slice_index (bank f c).committed r < length f.cells
committed_in_range f c r ok lt narrow = used_in_range f (slice_index (bank f c).committed r) ok (omega (arith, committed_used f c r ok lt narrow))

-- what is free isn't committed
pub not_committed : (f : File) (p c r : ℕ) → IsFile f → IsNewestFree f p → c < 8 → r < 32 → slice_index (bank f c).committed r ≢ p
not_committed f p c r ok free lt narrow same =
    let q : ℕ = slice_index (bank f c).committed r in
    let used : 0 < sum_by (uses_in p) f.banks = rw same at (committed_used f c r ok lt narrow) in
    omega (arith, used, used_once f p ok, newest_use p p f.free free, at_self p)

-- nor is it a rename
pub not_renamed : (f : File) (p c : ℕ) → IsFile f → IsNewestFree f p → c < 8 → sum_by (λ (n : Rename). at p n.register) (bank f c).renames ≡ 0
not_renamed f p c ok free lt =
    omega (arith, used_once f p ok, newest_use p p f.free free, at_self p, get_or-le-sum_by (uses_in p) f.banks c no_bank (omega (arith, ok.eight)))

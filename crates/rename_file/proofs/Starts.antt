-- Registers that nothing has been done with are a file.
use Rattle.std.proofs.Common.{◌≡◌, ℕ, zero, suc, ◌+◌, ◌*◌, ◌<◌, ◌≤◌, List, [], ◌∷◌, ◌++◌, length, get_or, take, Option, Some, None, refl, sym, ap, subst, ◌∙◌, arith, inl, inr, replicate}
use Rattle.std.specs.Prelude.{sum_by, slice_index, IsSome, nat_le, nat_lt, if◌then◌else◌}
use Rattle.std.proofs.lemmas.Bool.{cases_eq}
use Rattle.std.proofs.lemmas.Bool.Decides.{nat_tests}
use Rattle.std.proofs.lemmas.List.{length-replicate, get_or-replicate, take_all, length_push, get_or_push, get_or_append_left}
use Rattle.std.proofs.lemmas.List.Elements.{All-nil, All-from_get_or}
use Rattle.std.proofs.lemmas.List.Sums.{sum_by-cons, sum_by_more}
use Rattle.rename_file.specs.declared.rename_map.Rename.{Rename}
use Rattle.rename_file.specs.File.{IsFile, Bank, IsBank, IsRename, no_bank, at, uses_in}
use Rattle.rename_file.specs.Fresh.{IsFirst}
use Rattle.rename_file.specs.Previous.{IsUndoable}

-- 1 from a up to b, and 0 elsewhere
abbrev between : ℕ → ℕ → ℕ → ℕ
between a b p = if nat_le a p then (if nat_lt p b then 1 else 0) else 0

between_one : (a p : ℕ) → at p a ≡ between a (a + 1) p
between_one a p = grind (arith, nat_tests)

between_join : (a b c p : ℕ) → a ≤ b → b ≤ c → between a b p + between b c p ≡ between a c p
between_join a b c p ab bc = grind (arith, nat_tests)

between_none : (n p : ℕ) → between 0 n p ≡ (if nat_lt p n then 1 else 0)
between_none n p = grind (arith, nat_tests)

-- numbers in a row
counted : (p a : ℕ) (xs : List ℕ) → ((i : ℕ) → i < length xs → get_or xs i 0 ≡ a + i) → sum_by (at p) xs ≡ between a (a + length xs) p
counted p a [] row = grind (arith, nat_tests)
counted p a (x ∷ xs) row =
    let first : x ≡ a = omega (arith, row 0 (omega arith)) in
    let rest : sum_by (at p) xs ≡ between (a + 1) (a + 1 + length xs) p = counted p (a + 1) xs (λ i lt. omega (arith, row (suc i) (omega arith))) in
    let end : a + 1 + length xs ≡ a + suc (length xs) = omega arith in
    sum_by-cons (at p) x xs ∙ omega (arith, ap (at p) first, rest, ap (λ e. between (a + 1) e p) end, between_one a p, between_join a (a + 1) (a + suc (length xs)) p (omega arith) (omega arith))

-- what the first registers of the context c use
uses_first : (p c : ℕ) (b : Bank) → IsFirst b c → uses_in p b ≡ at p c + between (31 * c + 8) (31 * c + 39) p
uses_first p c b is = split b.committed is.wide is.zero is.others
  where
    split : (m : List ℕ) → length m ≡ 32 → slice_index m 0 ≡ c → ((r : ℕ) → 0 < r → r < 32 → slice_index m r ≡ 31 * c + 7 + r) → sum_by (at p) m + sum_by (λ (n : Rename). at p n.register) b.renames ≡ at p c + between (31 * c + 8) (31 * c + 39) p
    split [] wide zero-is others = absurd (omega arith)
    split (x ∷ xs) wide zero-is others =
        let none : sum_by (λ (n : Rename). at p n.register) b.renames ≡ 0 = ap (sum_by (λ (n : Rename). at p n.register)) is.renames in
        let rest : sum_by (at p) xs ≡ between (31 * c + 8) (31 * c + 8 + length xs) p = counted p (31 * c + 8) xs (λ i lt. omega (arith, others (suc i) (omega arith) (omega arith))) in
        let end : 31 * c + 8 + length xs ≡ 31 * c + 39 = omega arith in
        omega (arith, sum_by-cons (at p) x xs, none, ap (at p) zero-is, rest, ap (λ e. between (31 * c + 8) e p) end)

suc_is : (k : ℕ) → suc k ≡ k + 1
suc_is k = omega arith

-- what the first k contexts use
uses_firsts : (p : ℕ) (bs : List Bank) (k : ℕ) → k ≤ length bs → ((c : ℕ) → c < length bs → IsFirst (get_or bs c no_bank) c) → sum_by (uses_in p) (take k bs) ≡ between 0 k p + between 8 (31 * k + 8) p
uses_firsts p bs zero le all = grind (arith, nat_tests)
uses_firsts p bs (suc k) le all =
    let more : sum_by (uses_in p) (take (k + 1) bs) ≡ sum_by (uses_in p) (take k bs) + uses_in p (get_or bs k no_bank) = sum_by_more (uses_in p) bs k no_bank (omega arith) in
    let before = uses_firsts p bs k (omega arith) all in
    let here = uses_first p k (get_or bs k no_bank) (all k (omega arith)) in
    let end : 31 * k + 39 ≡ 31 * (suc k) + 8 = omega arith in
    omega (arith, ap (λ j. sum_by (uses_in p) (take j bs)) (suc_is k), ap (λ j. between 0 j p) (suc_is k), more, before, here, between_one k p, between_join 0 k (k + 1) p (omega arith) (omega arith), between_join 8 (31 * k + 8) (31 * k + 39) p (omega arith) (omega arith), ap (λ e. between 8 e p) end)

-- no context has a rename
no_renames : (bs : List Bank) (k : ℕ) → k ≤ length bs → ((c : ℕ) → c < length bs → IsFirst (get_or bs c no_bank) c) → sum_by (λ (b : Bank). length b.renames) (take k bs) ≡ 0
no_renames bs zero le all = refl
no_renames bs (suc k) le all =
    omega (arith, ap (λ j. sum_by (λ (b : Bank). length b.renames) (take j bs)) (suc_is k), sum_by_more (λ (b : Bank). length b.renames) bs k no_bank (omega arith), no_renames bs k (omega arith) all, ap (λ (ns : List Rename). length ns) (all k (omega arith)).renames)

first_bank : (n c : ℕ) (b : Bank) → c < 8 → IsFirst b c → IsBank (replicate (256 + n) (Some 0)) c b
first_bank n c b lt is = record {
  wide = is.wide;
  zero = is.zero;
  others = λ r some narrow. omega (arith, is.others r some narrow);
  valued = λ r narrow. subst IsSome (sym (get_or-replicate {A = Option ℕ} (256 + n) (slice_index b.committed r) (Some 0) None (in_range r narrow))) refl;
  renamed = rw is.renames (All-nil IsRename);
}
  where
    in_range : (r : ℕ) → r < 32 → slice_index b.committed r < 256 + n
    in_range r narrow = elim (cases_eq r 0) [ inl same ↦ omega (arith, is.zero, ap (slice_index b.committed) same) | inr differ ↦ omega (arith, is.others r (omega (arith, differ)) narrow) ]

pub first_file : (n : ℕ) (bs : List Bank) (free : List ℕ) (cells : List (Option ℕ)) → cells ≡ replicate (256 + n) (Some 0) → length bs ≡ 8 → ((c : ℕ) → c < 8 → IsFirst (get_or bs c no_bank) c)
    → length free ≡ n → ((i : ℕ) → i < length free → get_or free i 0 ≡ 256 + i) → IsFile (record { banks = bs; free = free; cells = cells })
first_file n bs free cells cells-are eight all len row =
    let wide : length cells ≡ 256 + n = ap length cells-are ∙ length-replicate {A = Option ℕ} (256 + n) (Some 0) in
    let all' : (c : ℕ) → c < length bs → IsFirst (get_or bs c no_bank) c = λ c lt. all c (omega arith) in
    let whole : take 8 bs ≡ bs = take_all 8 bs (omega arith) in
    record {
      eight = eight;
      banks = λ c lt. rw cells-are (first_bank n c (get_or bs c no_bank) lt (all c lt));
      zeros = λ c lt. rw cells-are (get_or-replicate {A = Option ℕ} (256 + n) c (Some 0) None (omega arith));
      free = All-from_get_or (λ p. 8 ≤ p) free 0 (λ i lt. omega (arith, row i lt));
      once = λ p.
          let used : sum_by (uses_in p) bs ≡ between 0 8 p + between 8 256 p = rw whole at (uses_firsts p bs 8 (omega arith) all') in
          let spare : sum_by (at p) free ≡ between 256 (256 + length free) p = counted p 256 free row in
          let end : 256 + length free ≡ length cells = omega arith in
          let total : sum_by (at p) free + sum_by (uses_in p) bs ≡ between 0 (length cells) p = omega (arith, used, spare, between_join 0 8 256 p (omega arith) (omega arith), between_join 0 256 (256 + length free) p (omega arith) (omega arith), ap (λ e. between 0 e p) end) in
          total ∙ between_none (length cells) p;
      extra = let none : sum_by (λ (b : Bank). length b.renames) bs ≡ 0 = rw whole at (no_renames bs 8 (omega arith) all') in omega (arith, none);
    }

-- no context has a rename to undo
pub first_undoable : (bs : List Bank) (t : List ℕ) → ((c : ℕ) → c < 8 → IsFirst (get_or bs c no_bank) c) → (c : ℕ) → c < 8 → IsUndoable t (get_or bs c no_bank)
first_undoable bs t all c lt = rw (all c lt).renames tt

-- one more number in a row
pub row_more : (xs : List ℕ) (x a : ℕ) → ((i : ℕ) → i < length xs → get_or xs i 0 ≡ a + i) → x ≡ a + length xs → (i : ℕ) → i < length (xs ++ x ∷ []) → get_or (xs ++ x ∷ []) i 0 ≡ a + i
row_more xs x a row is i lt =
    elim (cases_eq i (length xs)) [
      | inl same ↦ get_or_push xs x 0 i (sym same) ∙ omega arith
      | inr differ ↦ get_or_append_left xs (x ∷ []) 0 i (omega (arith, length_push xs x)) ∙ row i (omega (arith, length_push xs x))
    ]

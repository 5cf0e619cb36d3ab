-- Each call leaves a file.
use Rattle.std.proofs.Common.{◌≡◌, ℕ, ◌+◌, ◌-◌, ◌<◌, ◌≤◌, [], ◌∷◌, length, get_or, drop, Some, None, ap, ◌∙◌, arith, length-append}
use Rattle.std.specs.Prelude.{set, sum_by, slice_index, IsSome}
use Rattle.std.proofs.lemmas.List.{length-set, length-drop, length-take, drop_all, get_or-set_other}
use Rattle.std.proofs.lemmas.List.Elements.{All-push, All-take, All-get_or}
use Rattle.std.proofs.lemmas.List.Sums.{sum_by-set, sum_by_push, sum_by-drop_more, sum_by-take-drop, get_or-le-sum_by}
use Rattle.std.proofs.lemmas.Option.{get_or_from_slice_get, slice_get_within}
use Rattle.rename_file.specs.declared.rename_map.Rename.{Rename}
use Rattle.rename_file.specs.File.{File, IsFile, Bank, IsNewestFree, bank, no_bank, no_rename, at, with_cell, renamed, renamed_bank, committed_one, committed_bank, undone, undone_bank, first, last}
use Rattle.rename_file.proofs.Uses.{uses-set, newest_use, committed_in_range, not_committed}
use Rattle.rename_file.proofs.Banks.{IsBank-written, IsBank-emptied, IsBank-renamed, IsBank-committed, IsBank-undone, banks-set, first_is, last_is}

abbrev renames_in : Bank → ℕ
renames_in b = length b.renames

pub IsFile-written : (f : File) (p v : ℕ) → 8 ≤ p → IsFile f → IsFile (with_cell f p (Some v))
IsFile-written f p v above ok = record {
  eight = ok.eight;
  banks = λ c lt. IsBank-written f.cells p v c (bank f c) (λ r narrow. committed_in_range f c r ok lt narrow) (ok.banks c lt);
  zeros = λ c lt. get_or-set_other f.cells p c (Some v) None (λ e. omega arith) ∙ ok.zeros c lt;
  free = ok.free;
  once = λ q. rw length-set (ok.once q);
  extra = rw length-set ok.extra;
}

-- the newest of the free isn't an x0
pub newest_above : (f : File) (p : ℕ) → IsNewestFree f p → IsFile f → 8 ≤ p
newest_above f p taken ok =
    let k : ℕ = length f.free - 1 in
    let above : 8 ≤ get_or f.free k p = All-get_or (λ q. 8 ≤ q) f.free k p (slice_get_within f.free k p taken) ok.free in
    rw (get_or_from_slice_get f.free k p p taken) at above

pub IsFile-renamed : (f : File) (c rd p : ℕ) → c < 8 → 0 < rd → rd < 32 → IsNewestFree f p → IsFile f → IsFile (renamed f c rd p)
IsFile-renamed f c rd p lt named narrow taken ok =
    let above = newest_above f p taken ok in
    let k : ℕ = length f.free - 1 in
    let b = renamed_bank (bank f c) rd p in
    let in_banks : c < length f.banks = omega (arith, ok.eight) in
    record {
      eight = length-set f.banks c b ∙ ok.eight;
      banks = banks-set (set f.cells p None) f c b ok.eight lt
          (λ k lt-k. IsBank-emptied f.cells p k (bank f k) (λ r narrow-r. not_committed f p k r ok taken lt-k narrow-r) (ok.banks k lt-k))
          (IsBank-renamed (set f.cells p None) c rd p (bank f c) named narrow above (IsBank-emptied f.cells p c (bank f c) (λ r narrow-r. not_committed f p c r ok taken lt narrow-r) (ok.banks c lt)));
      zeros = λ k lt-k. get_or-set_other f.cells p k None None (λ e. omega arith) ∙ ok.zeros k lt-k;
      free = All-take (λ q. 8 ≤ q) k f.free ok.free;
      once = λ q. rw length-set (omega (arith, ok.once q, newest_use q p f.free taken, uses-set q f c b in_banks, sum_by_push (λ (n : Rename). at q n.register) (bank f c).renames (record { rd = rd; register = p })));
      extra = rw length-set (omega (arith, ok.extra, length-take k f.free, slice_get_within f.free k p taken, sum_by-set renames_in f.banks c b no_bank in_banks, length-append (bank f c).renames (record { rd = rd; register = p } ∷ [])));
    }

pub IsFile-committed : (f : File) (c : ℕ) → c < 8 → 0 < length (bank f c).renames → IsSome (get_or f.cells (first (bank f c)).register None) → IsFile f → IsFile (committed_one f c)
IsFile-committed f c lt some ready ok =
    let b = bank f c in
    let n = first b in
    let is = first_is f.cells c b some (ok.banks c lt) in
    let freed : ℕ = slice_index b.committed n.rd in
    let in_banks : c < length f.banks = omega (arith, ok.eight) in
    let in_bank : n.rd < length b.committed = omega (arith, (ok.banks c lt).wide, is.narrow) in
    record {
      eight = length-set f.banks c (committed_bank b) ∙ ok.eight;
      banks = banks-set f.cells f c (committed_bank b) ok.eight lt ok.banks (IsBank-committed f.cells c b some ready (ok.banks c lt));
      zeros = ok.zeros;
      free = All-push (λ q. 8 ≤ q) f.free freed ok.free ((ok.banks c lt).others n.rd is.named is.narrow);
      once = λ q. omega (arith, ok.once q, uses-set q f c (committed_bank b) in_banks, sum_by_push (at q) f.free freed, sum_by-set (at q) b.committed n.rd n.register 0 in_bank, sum_by-drop_more (λ (m : Rename). at q m.register) b.renames 0 no_rename some);
      extra = omega (arith, ok.extra, length-append f.free (freed ∷ []), sum_by-set renames_in f.banks c (committed_bank b) no_bank in_banks, length-drop 1 b.renames);
    }

pub IsFile-undone : (f : File) (c : ℕ) → c < 8 → 0 < length (bank f c).renames → IsFile f → IsFile (undone f c)
IsFile-undone f c lt some ok =
    let b = bank f c in
    let k : ℕ = length b.renames - 1 in
    let n : Rename = last b in
    let in_banks : c < length f.banks = omega (arith, ok.eight) in
    let rest : drop (k + 1) b.renames ≡ [] = drop_all (k + 1) b.renames (omega arith) in
    record {
      eight = length-set f.banks c (undone_bank b) ∙ ok.eight;
      banks = banks-set f.cells f c (undone_bank b) ok.eight lt ok.banks (IsBank-undone f.cells c b (ok.banks c lt));
      zeros = ok.zeros;
      free = All-push (λ q. 8 ≤ q) f.free n.register ok.free (last_is f.cells c b some (ok.banks c lt)).register;
      once = λ q.
          let none : sum_by (λ (m : Rename). at q m.register) (drop (k + 1) b.renames) ≡ 0 = ap (sum_by (λ (m : Rename). at q m.register)) rest in
          omega (arith, ok.once q, uses-set q f c (undone_bank b) in_banks, sum_by_push (at q) f.free n.register, sum_by-take-drop (λ (m : Rename). at q m.register) b.renames k, sum_by-drop_more (λ (m : Rename). at q m.register) b.renames k no_rename (omega arith), none);
      extra = omega (arith, ok.extra, length-append f.free (n.register ∷ []), sum_by-set renames_in f.banks c (undone_bank b) no_bank in_banks, length-take k b.renames);
    }

-- where a context has a rename, not every extra register is free
pub has_room : (f : File) (c : ℕ) → c < 8 → 0 < length (bank f c).renames → IsFile f → length f.free + 256 < length f.cells
has_room f c lt some ok = omega (arith, ok.extra, get_or-le-sum_by renames_in f.banks c no_bank (omega (arith, ok.eight)))

-- The lemmas on files in the terms of the code: the context that was found by its index, and what became of it.
use Rattle.std.proofs.Common.{◌≡◌, ℕ, ◌-◌, ◌<◌, ◌≤◌, List, [], ◌∷◌, ◌++◌, length, get_or, take, None, ap, ◌∙◌, arith}
use Rattle.std.specs.Prelude.{set, slice_index, IsSome}
use Rattle.std.proofs.lemmas.List.{get_or_read, get_or-set_same}
use Rattle.rename_file.specs.declared.rename_map.Rename.{Rename}
use Rattle.rename_file.specs.File.{File, IsFile, Bank, IsNewestFree, bank, no_bank, mapped, renamed_bank, committed_bank, undone_bank, first, last}
use Rattle.rename_file.specs.Newest.{IsNewest}
use Rattle.rename_file.specs.Previous.{IsUndoable}
use Rattle.rename_file.proofs.Uses.{committed_in_range, newest_free, not_renamed}
use Rattle.rename_file.proofs.Banks.{each-set, first_is, last_is}
use Rattle.rename_file.proofs.Maps.{previous_kept, undoable-renamed, undoable-committed, undoable-undone, undone_previous}
use Rattle.rename_file.proofs.Files.{IsFile-renamed, IsFile-committed, IsFile-undone}
use Rattle.rename_file.proofs.Sources.{IsNewest-mapped, mapped_in_range}

-- the context that was found
pub record Found (f : File) (c i : ℕ) (old : Bank) : Type 0 where
  pub index : i ≡ c
  pub below : c < 8
  pub read : old ≡ get_or f.banks i old

pub found : (f : File) (c i : ℕ) (old : Bank) → i ≡ c → c < 8 → old ≡ get_or f.banks i old → Found f c i old
found f c i old index below read = record { index = index; below = below; read = read }

pub bank_found : (f : File) (c i : ℕ) (old : Bank) → IsFile f → Found f c i old → old ≡ bank f c
bank_found f c i old ok at = rw at.index at (get_or_read f.banks i old (omega (arith, at.index, at.below, ok.eight)) at.read no_bank)

pub renamed_file : (f : File) (c i rd p : ℕ) (old new : Bank) → IsFile f → Found f c i old → 0 < rd → rd < 32 → IsNewestFree f p → new ≡ renamed_bank old rd p
    → IsFile (record { banks = set f.banks i new; free = take (length f.free - 1) f.free; cells = set f.cells p None })
renamed_file f c i rd p old new ok at named narrow taken is =
    let o : old ≡ bank f c = bank_found f c i old ok at in
    rw (is, o, at.index) (IsFile-renamed f c rd p at.below named narrow taken ok)

pub committed_file : (f : File) (c i : ℕ) (old new : Bank) (freed : ℕ) → IsFile f → Found f c i old → 0 < length (bank f c).renames → IsSome (get_or f.cells (first (bank f c)).register None)
    → new ≡ committed_bank old → freed ≡ slice_index old.committed (first old).rd → IsFile (record { banks = set f.banks i new; free = f.free ++ freed ∷ []; cells = f.cells })
committed_file f c i old new freed ok at some ready n-is f-is =
    let o : old ≡ bank f c = bank_found f c i old ok at in
    rw (n-is, f-is, o, at.index) (IsFile-committed f c at.below some ready ok)

pub undone_file : (f : File) (c i : ℕ) (old new : Bank) (n : Rename) → IsFile f → Found f c i old → 0 < length (bank f c).renames
    → new ≡ undone_bank old → n ≡ last (bank f c) → IsFile (record { banks = set f.banks i new; free = f.free ++ n.register ∷ []; cells = f.cells })
undone_file f c i old new n ok at some is newest =
    let o : old ≡ bank f c = bank_found f c i old ok at in
    rw (is, newest, o, at.index) (IsFile-undone f c at.below some ok)

pub first_narrow : (f : File) (c i : ℕ) (old : Bank) → IsFile f → Found f c i old → 0 < length (bank f c).renames → (0 < length old.renames) × ((first old).rd < 32)
first_narrow f c i old ok at some =
    let o : old ≡ bank f c = bank_found f c i old ok at in
    rw o (some, (first_is f.cells c (bank f c) some (ok.banks c at.below)).narrow)

pub last_narrow : (f : File) (c i : ℕ) (old : Bank) → IsFile f → Found f c i old → 0 < length (bank f c).renames → (0 < length old.renames) × ((last old).rd < 32)
last_narrow f c i old ok at some =
    let o : old ≡ bank f c = bank_found f c i old ok at in
    rw o (some, (last_is f.cells c (bank f c) some (ok.banks c at.below)).narrow)

pub source_found : (f : File) (c i rs p : ℕ) (old : Bank) → IsFile f → Found f c i old → rs < 32 → p ≡ mapped old rs → IsNewest (bank f c) rs p × (p < length f.cells)
source_found f c i rs p old ok at narrow is =
    let o : old ≡ bank f c = bank_found f c i old ok at in
    rw (is, o) (IsNewest-mapped (bank f c) rs (omega (arith, (ok.banks c at.below).wide)), mapped_in_range f c rs ok at.below narrow)

-- what is committed is a cell with a value, and no x0 but for x0
pub committed_found : (f : File) (c i r p : ℕ) (old : Bank) → IsFile f → Found f c i old → r < 32 → p ≡ slice_index old.committed r → (p < length f.cells) × IsSome (get_or f.cells p None) × (0 < r → 8 ≤ p)
committed_found f c i r p old ok at narrow is =
    let o : old ≡ bank f c = bank_found f c i old ok at in
    rw (is, o) (committed_in_range f c r ok at.below narrow, (ok.banks c at.below).valued r narrow, λ some. (ok.banks c at.below).others r some narrow)

-- ---- what each rename replaced

-- a table of what was replaced serves every context
abbrev pub AreUndoable : List ℕ → File → Type 0
AreUndoable t f = (k : ℕ) → k < 8 → IsUndoable t (bank f k)

undoable-written : (t : List ℕ) (f : File) (p v : ℕ) → IsFile f → IsNewestFree f p → AreUndoable t f → AreUndoable (set t p v) f
undoable-written t f p v ok taken all k lt = previous_kept t (bank f k).committed (bank f k).renames p v (not_renamed f p k ok taken lt) (all k lt)

pub renamed_undoable : (t : List ℕ) (f : File) (c i j rd p v : ℕ) (old new : Bank) → IsFile f → Found f c i old → length f.cells ≤ 480 → length t ≡ 480 → IsNewestFree f p → new ≡ renamed_bank old rd p → v ≡ mapped old rd → j ≡ p → AreUndoable t f
    → (k : ℕ) → k < 8 → IsUndoable (set t j v) (get_or (set f.banks i new) k no_bank)
renamed_undoable t f c i j rd p v old new ok at room wide taken is v-is same all =
    let o : old ≡ bank f c = bank_found f c i old ok at in
    let kept = undoable-written t f p v ok taken all in
    let there : slice_index (set t p v) p ≡ mapped (bank f c) rd = get_or-set_same t p v 0 (omega (arith, newest_free f p ok taken)) ∙ v-is ∙ ap (λ (b : Bank). mapped b rd) o in
    rw (same, is, o, at.index) (each-set (λ k b. IsUndoable (set t p v) b) f c (renamed_bank (bank f c) rd p) ok.eight at.below kept (undoable-renamed (set t p v) (bank f c) rd p (kept c at.below) there))

pub committed_undoable : (t : List ℕ) (f : File) (c i : ℕ) (old new : Bank) → IsFile f → Found f c i old → 0 < length (bank f c).renames → new ≡ committed_bank old → AreUndoable t f
    → (k : ℕ) → k < 8 → IsUndoable t (get_or (set f.banks i new) k no_bank)
committed_undoable t f c i old new ok at some is all =
    let o : old ≡ bank f c = bank_found f c i old ok at in
    rw (is, o, at.index) (each-set (λ k b. IsUndoable t b) f c (committed_bank (bank f c)) ok.eight at.below all (undoable-committed t (bank f c) some (all c at.below)))

pub undone_undoable : (t : List ℕ) (f : File) (c i : ℕ) (old new : Bank) → IsFile f → Found f c i old → new ≡ undone_bank old → AreUndoable t f
    → (k : ℕ) → k < 8 → IsUndoable t (get_or (set f.banks i new) k no_bank)
undone_undoable t f c i old new ok at is all =
    let o : old ≡ bank f c = bank_found f c i old ok at in
    rw (is, o, at.index) (each-set (λ k b. IsUndoable t b) f c (undone_bank (bank f c)) ok.eight at.below all (undoable-undone t (bank f c) (all c at.below)))

pub previous_found : (t : List ℕ) (f : File) (c i : ℕ) (old : Bank) (n : Rename) → IsFile f → Found f c i old → 0 < length (bank f c).renames → n ≡ last (bank f c) → AreUndoable t f → slice_index t n.register ≡ mapped (undone_bank old) n.rd
previous_found t f c i old n ok at some is all =
    let o : old ≡ bank f c = bank_found f c i old ok at in
    rw (is, o) (undone_previous t (bank f c) some (all c at.below))

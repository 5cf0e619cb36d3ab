-- The map of a context past its renames, and what each of them replaced.
use Rattle.std.proofs.Common.{◌≡◌, ◌≢◌, ℕ, zero, suc, ◌+◌, ◌-◌, ◌<◌, List, [], ◌∷◌, ◌++◌, length, take, drop, get_or, refl, sym, ap, ◌∙◌, arith}
use Rattle.std.specs.Prelude.{set, slice_index, sum_by}
use Rattle.std.proofs.lemmas.List.{length-set, set-set, set-get_or, get_or-set_other}
use Rattle.std.proofs.lemmas.List.Sums.{sum_by-cons}
use Rattle.rename_file.specs.declared.rename_map.Rename.{Rename}
use Rattle.rename_file.specs.declared.rename_map.RenameMap.TheInside.{Inside}
use Rattle.rename_file.specs.File.{Bank, map_past, at, first, last, no_rename, mapped, committed_bank, undone_bank}
use Rattle.rename_file.specs.Previous.{ArePrevious, IsUndoable}
use Rattle.rename_file.specs.ShownMap.{IsTracked, shown_bank}
use Rattle.rename_file.proofs.Uses.{at_self}

-- one more rename
pub map_past_push : (m : List ℕ) (ns : List Rename) (n : Rename) → map_past m (ns ++ n ∷ []) ≡ set (map_past m ns) n.rd n.register
map_past_push m [] n = refl
map_past_push m (k ∷ ns) n = map_past_push (set m k.rd k.register) ns n

pub length-map_past : (m : List ℕ) (ns : List Rename) → length (map_past m ns) ≡ length m
length-map_past m [] = refl
length-map_past m (k ∷ ns) = length-map_past (set m k.rd k.register) ns ∙ length-set m k.rd k.register

-- the map without the newest rename
pub map_past-undone : (m : List ℕ) (ns : List Rename) (i : ℕ) (d : Rename) → i + 1 ≡ length ns → let n = get_or ns i d in let before = map_past m (take i ns) in set (map_past m ns) n.rd (slice_index before n.rd) ≡ before
map_past-undone m [] i d is = absurd (omega arith)
map_past-undone m (n ∷ []) zero d is = set-set m n.rd n.register (slice_index m n.rd) ∙ set-get_or m n.rd 0
map_past-undone m (n ∷ []) (suc i) d is = absurd (omega arith)
map_past-undone m (k ∷ n ∷ ns) zero d is = absurd (omega arith)
map_past-undone m (k ∷ n ∷ ns) (suc i) d is = map_past-undone (set m k.rd k.register) (n ∷ ns) i d (omega arith)

-- ---- what each rename replaced

-- one more rename
previous_push : (t m : List ℕ) (ns : List Rename) (n : Rename) → ArePrevious t m ns → slice_index t n.register ≡ slice_index (map_past m ns) n.rd → ArePrevious t m (ns ++ n ∷ [])
previous_push t m [] n ok is = (is, tt)
previous_push t m (k ∷ ns) n ok is = (ok.0, previous_push t (set m k.rd k.register) ns n ok.1 is)

previous-take : (i : ℕ) (t m : List ℕ) (ns : List Rename) → ArePrevious t m ns → ArePrevious t m (take i ns)
previous-take zero t m ns ok = tt
previous-take (suc i) t m [] ok = tt
previous-take (suc i) t m (k ∷ ns) ok = (ok.0, previous-take i t (set m k.rd k.register) ns ok.1)

-- what is written at a register that isn't renamed to
pub previous_kept : (t m : List ℕ) (ns : List Rename) (p v : ℕ) → sum_by (λ (n : Rename). at p n.register) ns ≡ 0 → ArePrevious t m ns → ArePrevious (set t p v) m ns
previous_kept t m [] p v none ok = tt
previous_kept t m (k ∷ ns) p v none ok =
    let all = sum_by-cons (λ (n : Rename). at p n.register) k ns in
    let other : k.register ≢ p = λ e. omega (arith, ap (at p) e, at_self p, all, none) in
    (get_or-set_other t p k.register v 0 other ∙ ok.0, previous_kept t (set m k.rd k.register) ns p v (omega (arith, all, none)) ok.1)

-- what the newest replaced
previous_at : (t m : List ℕ) (ns : List Rename) (i : ℕ) (d : Rename) → i + 1 ≡ length ns → ArePrevious t m ns → let n = get_or ns i d in slice_index t n.register ≡ slice_index (map_past m (take i ns)) n.rd
previous_at t m [] i d is ok = absurd (omega arith)
previous_at t m (n ∷ []) zero d is ok = ok.0
previous_at t m (n ∷ []) (suc i) d is ok = absurd (omega arith)
previous_at t m (k ∷ n ∷ ns) zero d is ok = absurd (omega arith)
previous_at t m (k ∷ n ∷ ns) (suc i) d is ok = previous_at t (set m k.rd k.register) (n ∷ ns) i d (omega arith) ok.1

-- ---- of a context

pub undoable-renamed : (t : List ℕ) (b : Bank) (rd p : ℕ) → IsUndoable t b → slice_index t p ≡ mapped b rd → ArePrevious t b.committed (b.renames ++ record { rd = rd; register = p } ∷ [])
undoable-renamed t b rd p ok is = previous_push t b.committed b.renames (record { rd = rd; register = p }) ok is

pub undoable-committed : (t : List ℕ) (b : Bank) → 0 < length b.renames → IsUndoable t b → IsUndoable t (committed_bank b)
undoable-committed t b some ok = split b.committed b.renames some ok
  where
    split : (m : List ℕ) (ns : List Rename) → 0 < length ns → ArePrevious t m ns → let n = get_or ns 0 no_rename in ArePrevious t (set m n.rd n.register) (drop 1 ns)
    split m [] some ok = absurd (omega arith)
    split m (n ∷ ns) some ok = ok.1

pub undoable-undone : (t : List ℕ) (b : Bank) → IsUndoable t b → IsUndoable t (undone_bank b)
undoable-undone t b ok = previous-take (length b.renames - 1) t b.committed b.renames ok

-- what stands at the register of the newest rename is what its rd stood for before
pub undone_previous : (t : List ℕ) (b : Bank) → 0 < length b.renames → IsUndoable t b → slice_index t (last b).register ≡ mapped (undone_bank b) (last b).rd
undone_previous t b some ok = previous_at t b.committed b.renames (length b.renames - 1) no_rename (omega arith) ok

-- ---- what is tracked

pub tracked_push : (m : Inside) (n : Rename) → IsTracked m → set m.current n.rd n.register ≡ map_past m.committed (m.renames ++ n ∷ [])
tracked_push m n ok = ap (λ k. set k n.rd n.register) ok ∙ sym (map_past_push m.committed m.renames n)

pub tracked_committed : (m : Inside) (n : Rename) → IsTracked m → 0 < length m.renames → n ≡ first (shown_bank m) → m.current ≡ map_past (set m.committed n.rd n.register) (drop 1 m.renames)
tracked_committed m n ok some is = ok ∙ split m.committed m.renames n some is
  where
    split : (c : List ℕ) (ns : List Rename) (n : Rename) → 0 < length ns → n ≡ get_or ns 0 no_rename → map_past c ns ≡ map_past (set c n.rd n.register) (drop 1 ns)
    split c [] n some is = absurd (omega arith)
    split c (k ∷ ns) n some is = rw is refl

pub tracked_undone : (m : Inside) (rd p : ℕ) → IsTracked m → 0 < length m.renames → rd ≡ (last (shown_bank m)).rd → p ≡ mapped (undone_bank (shown_bank m)) rd
    → set m.current rd p ≡ map_past m.committed (take (length m.renames - 1) m.renames)
tracked_undone m rd p ok some is p-is = rw (p-is, is, ok) (map_past-undone m.committed m.renames (length m.renames - 1) no_rename (omega arith))

-- x0 stands for what it stood for
pub tracked_kept : (m : Inside) (n : Rename) → IsTracked m → n.rd ≡ 0 → n.register ≡ mapped (shown_bank m) 0 → set m.current n.rd n.register ≡ map_past m.committed m.renames
tracked_kept m n ok zero-is is = rw (zero-is, is, ok) (set-get_or (map_past m.committed m.renames) 0 0)

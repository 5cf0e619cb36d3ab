-- The register of a destination, which may be x0.
use Rattle.std.proofs.Common.{◌≡◌, ℕ, ◌<◌, List, [], ◌∷◌, length, refl, sym, ap, ◌∙◌, arith, inl, inr}
use Rattle.std.specs.Prelude.{set, slice_index, sum_by, All, true, not, ◌==◌}
use Rattle.std.proofs.lemmas.Bool.{cases_lt}
use Rattle.std.proofs.lemmas.Bool.Decides.{nat_tests}
use Rattle.std.proofs.lemmas.List.{set-get_or, get_or-set_other}
use Rattle.std.proofs.lemmas.List.Elements.{All-head, All-tail}
use Rattle.std.proofs.lemmas.List.Sums.{sum_by-cons}
use Rattle.rename_file.specs.declared.rename_map.Rename.{Rename}
use Rattle.rename_file.specs.File.{File, IsFile, Bank, IsRename, IsNewestFree, bank, no_bank, map_past, mapped, at}
use Rattle.rename_file.proofs.Uses.{newest_free}
use Rattle.rename_file.proofs.Maps.{previous_kept}
use Rattle.rename_file.proofs.FoundContext.{Found, bank_found, AreUndoable}

pub named_is : (rd : ℕ) → 0 < rd → not (rd == 0) ≡ true
named_is rd some = grind (arith, nat_tests, some)

-- no rename is of x0
past_zero : (m : List ℕ) (ns : List Rename) → All IsRename ns → slice_index (map_past m ns) 0 ≡ slice_index m 0
past_zero m [] all = refl
past_zero m (n ∷ ns) all =
    let named = (All-head IsRename n ns all).named in
    past_zero (set m n.rd n.register) ns (All-tail IsRename n ns all) ∙ get_or-set_other m n.rd 0 n.register 0 (λ e. omega (arith, named, e))

-- x0 stands for the context's own
pub mapped_zero : (f : File) (c : ℕ) → IsFile f → c < 8 → mapped (bank f c) 0 ≡ c
mapped_zero f c ok lt = past_zero (bank f c).committed (bank f c).renames (ok.banks c lt).renamed ∙ (ok.banks c lt).zero

at_other : (p q : ℕ) → (q ≡ p → ⊥) → at p q ≡ 0
at_other p q differ = grind (arith, nat_tests, differ)

-- nor is it to one
not_at_zero : (p : ℕ) (ns : List Rename) → p < 8 → All IsRename ns → sum_by (λ (n : Rename). at p n.register) ns ≡ 0
not_at_zero p [] lt all = refl
not_at_zero p (n ∷ ns) lt all =
    let above = (All-head IsRename n ns all).register in
    sum_by-cons (λ (k : Rename). at p k.register) n ns ∙ omega (arith, not_at_zero p ns lt (All-tail IsRename n ns all), at_other p n.register (λ e. omega (arith, above, e, lt)))

pub in_cells : (f : File) (c rd p : ℕ) → IsFile f → c < 8 → (0 < rd → IsNewestFree f p) → (rd ≡ 0 → p ≡ c) → p < length f.cells
in_cells f c rd p ok lt taken own =
    elim (cases_lt 0 rd) [
      | inl some ↦ newest_free f p ok (taken some)
      | inr none ↦ omega (arith, own (omega (arith, none)), ok.extra, lt)
    ]

pub own_found : (f : File) (c i : ℕ) (old : Bank) → IsFile f → Found f c i old → c ≡ mapped old 0
own_found f c i old ok at = sym (ap (λ (b : Bank). mapped b 0) (bank_found f c i old ok at) ∙ mapped_zero f c ok at.below)

-- ---- of x0 nothing changes

pub same_banks : (f : File) (c i : ℕ) (old new : Bank) → IsFile f → Found f c i old → new ≡ old → set f.banks i new ≡ f.banks
same_banks f c i old new ok at same =
    ap (set f.banks i) (same ∙ bank_found f c i old ok at ∙ ap (bank f) (sym at.index)) ∙ set-get_or f.banks i no_bank

pub same_undoable : (t : List ℕ) (f : File) (p v : ℕ) → IsFile f → p < 8 → AreUndoable t f → AreUndoable (set t p v) f
same_undoable t f p v ok lt all k lt-k = previous_kept t (bank f k).committed (bank f k).renames p v (not_at_zero p (bank f k).renames lt (ok.banks k lt-k).renamed) (all k lt-k)

-- What a source reads.
use Rattle.std.proofs.Common.{◌≡◌, ◌≢◌, ℕ, ◌+◌, ◌<◌, List, [], ◌∷◌, ◌++◌, ◌⊎◌, length, refl, sym, ap, subst, ◌∙◌, arith, inl, inr}
use Rattle.std.specs.Prelude.{set, sum_by, slice_index}
use Rattle.std.proofs.lemmas.Bool.{cases_eq, cases_lt}
use Rattle.std.proofs.lemmas.List.{length-set, set_past, get_or-set_same, get_or-set_other}
use Rattle.std.proofs.lemmas.List.Elements.{All-nil, All-cons}
use Rattle.std.proofs.lemmas.List.Sums.{sum_by-set, sum_by-cons, get_or-le-sum_by}
use Rattle.rename_file.specs.declared.rename_map.Rename.{Rename}
use Rattle.rename_file.specs.File.{File, IsFile, Bank, bank, no_bank, map_past, mapped, at, uses_in}
use Rattle.rename_file.specs.Newest.{IsNewest, NoRename}
use Rattle.rename_file.proofs.Uses.{at_self, used_in_range}

-- what a register stands for is in use
mapped_used : (m : List ℕ) (ns : List Rename) (rs : ℕ) → rs < length m → let p = slice_index (map_past m ns) rs in 0 < sum_by (at p) m + sum_by (λ n. at p n.register) ns
mapped_used m [] rs lt = omega (arith, get_or-le-sum_by (at (slice_index m rs)) m rs 0 lt, at_self (slice_index m rs))
mapped_used m (n ∷ ns) rs lt =
    let p : ℕ = slice_index (map_past (set m n.rd n.register) ns) rs in
    elim (cases_lt n.rd (length m)) [
      | inl in_range ↦ omega (arith, mapped_used (set m n.rd n.register) ns rs (omega (arith, length-set m n.rd n.register)), sum_by-set (at p) m n.rd n.register 0 in_range, sum_by-cons (λ (k : Rename). at p k.register) n ns)
      | inr past ↦
          let same : set m n.rd n.register ≡ m = set_past m n.rd n.register past in
          omega (arith, mapped_used (set m n.rd n.register) ns rs (omega (arith, length-set m n.rd n.register)), ap (sum_by (at p)) same, sum_by-cons (λ (k : Rename). at p k.register) n ns)
    ]

pub mapped_in_range : (f : File) (c rs : ℕ) → IsFile f → c < 8 → rs < 32 → mapped (bank f c) rs < length f.cells
mapped_in_range f c rs ok lt narrow =
    let b = bank f c in
    let p : ℕ = mapped b rs in
    used_in_range f p ok (omega (arith, mapped_used b.committed b.renames rs (omega (arith, (ok.banks c lt).wide)), get_or-le-sum_by (uses_in p) f.banks c no_bank (omega (arith, ok.eight))))

same_rename : (n : Rename) (rs p : ℕ) → rs ≡ n.rd → n.register ≡ p → n ≡ record { rd = rs; register = p }
same_rename n rs p e f = rw (e, ← f) refl

-- the newest rename, else what stood in the map
newest : (m : List ℕ) (ns : List Rename) (rs : ℕ) → rs < length m → let p = slice_index (map_past m ns) rs in (NoRename rs ns × (slice_index m rs ≡ p)) ⊎ ((older newer : List Rename) × (ns ≡ older ++ (record { rd = rs; register = p } ∷ newer)) × NoRename rs newer)
newest m [] rs lt = inl (All-nil (λ (n : Rename). n.rd ≢ rs), refl)
newest m (n ∷ ns) rs lt =
    let p : ℕ = slice_index (map_past (set m n.rd n.register) ns) rs in
    elim (newest (set m n.rd n.register) ns rs (omega (arith, length-set m n.rd n.register))) [
      | inr later ↦ inr (n ∷ later.0, later.1, ap (λ (xs : List Rename). n ∷ xs) later.2, later.3)
      | inl none ↦ elim (cases_eq rs n.rd) [
        | inl same ↦
            let reads : slice_index (set m n.rd n.register) rs ≡ n.register = subst (λ j. slice_index (set m j n.register) rs ≡ n.register) same (get_or-set_same m rs n.register 0 lt) in
            let here : n ≡ record { rd = rs; register = p } = same_rename n rs p same (sym reads ∙ none.1) in
            inr ([], ns, ap (λ (x : Rename). x ∷ ns) here, none.0)
        | inr differ ↦ inl (All-cons (λ (k : Rename). k.rd ≢ rs) n ns (λ e. differ (sym e)) none.0, sym (get_or-set_other m n.rd rs n.register 0 differ) ∙ none.1)
      ]
    ]

pub IsNewest-mapped : (b : Bank) (rs : ℕ) → rs < length b.committed → IsNewest b rs (mapped b rs)
IsNewest-mapped b rs lt = newest b.committed b.renames rs lt

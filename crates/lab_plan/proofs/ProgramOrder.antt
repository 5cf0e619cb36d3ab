-- The fault that a look along the programs meets first is that of the first faulty name in byte order.
use Rattle.std.proofs.Common.{◌≡◌, ℕ, List, [], ◌∷◌, Some, None, Ordering, Less, Equal, Greater, nat_cmp, string_bytes, refl, sym, subst, ◌∙◌}
use Rattle.std.proofs.lemmas.Cmp.{nat_list_cmp_total}
use Rattle.std.proofs.lemmas.Map.Lookups.{exact_bytes}
use Rattle.std.specs.Cmp.{tied_itself}
use Rattle.std.specs.Cmp.Lexicographic.{slice_cmp}
use Rattle.std.specs.List.Sorted.{IsStrictlySortedBy}
use Rattle.std.specs.Map.{keys_of}
use Rattle.std.specs.Ordering.{match_ordering}
use Rattle.std.specs.Str.Lines.{lines}
use Rattle.std.specs.String.{string_cmp}
use Rattle.toml.proofs.Views.{Entry}
use Rattle.toml.specs.Data.{Data, get_member}
use Rattle.toml.specs.View.{view, members_view}
use Rattle.core_profile.proofs.Laws.{AreAfter, not_there, not_earlier}
use Rattle.rv64_asm.specs.declared.fault.LineFault.{LineFault}
use Rattle.rv64_asm.specs.declared.fault.AsmFault.TheVariants.{At}
use Rattle.rv64_asm.specs.Assembled.{IsRefusal}
use Rattle.lab_plan.specs.Programs.{AllAssemble, Assembles, IsFirstProgramFault, text_of}

-- a value of the entries is the first one, or one of the others
either : (P : Data → Type 0) (name : List ℕ) (e : Entry) (es : List Entry) (d : Data) → (o : Ordering) → P (view e.1) → (get_member name (members_view es) ≡ Some d → P d) → match_ordering o (get_member name (members_view es)) (Some (view e.1)) (get_member name (members_view es)) ≡ Some d → P d
either P name e es d Less here more found = more found
either P name e es d Equal here more found = let eq : view e.1 ≡ d = cc in subst P eq here
either P name e es d Greater here more found = more found

-- no programs
pub none_assemble : AllAssemble (members_view [])
none_assemble name d found = absurd cc

-- one more program
pub more_assemble : (e : Entry) (es : List Entry) → Assembles (view e.1) → AllAssemble (members_view es) → AllAssemble (members_view (e ∷ es))
more_assemble e es here more name d found = either Assembles name e es d (slice_cmp nat_cmp name (string_bytes e.0)) here (more name d) found

-- the first program isn't assembled
pub at_once : (e : Entry) (es : List Entry) (fault : LineFault) (line : ℕ) → IsStrictlySortedBy string_cmp (keys_of (e ∷ es)) → IsRefusal (lines (text_of (view e.1))) (At fault line) → IsFirstProgramFault (members_view (e ∷ es)) (string_bytes e.0) fault line
unfolding IsStrictlySortedBy
at_once e es fault line sorted refused = record {
  value = view e.1;
  here = rw (tied_itself nat_list_cmp_total (string_bytes e.0)) refl;
  refused = refused;
  first = λ other d less found. let both : None ≡ Some d = sym (not_earlier other e es sorted.0 less) ∙ found in absurd cc;
}

-- the first program is assembled, and a later one isn't
pub further_on : (e : Entry) (es : List Entry) (name : List ℕ) (fault : LineFault) (line : ℕ) → IsStrictlySortedBy string_cmp (keys_of (e ∷ es)) → Assembles (view e.1) → IsFirstProgramFault (members_view es) name fault line → IsFirstProgramFault (members_view (e ∷ es)) name fault line
unfolding IsStrictlySortedBy
further_on e es name fault line sorted clean r = record {
  value = r.value;
  here = still (slice_cmp nat_cmp name (string_bytes e.0)) refl;
  refused = r.refused;
  first = λ other d less found. either Assembles other e es d (slice_cmp nat_cmp other (string_bytes e.0)) clean (r.first other d less) found;
}
  where
    still : (o : Ordering) → slice_cmp nat_cmp name (string_bytes e.0) ≡ o → match_ordering o (get_member name (members_view es)) (Some (view e.1)) (get_member name (members_view es)) ≡ Some r.value
    still Less q = r.here
    still Equal q =
        let gone : get_member name (members_view es) ≡ None = not_there name es (subst (λ (n : List ℕ). AreAfter n es) (sym (exact_bytes name (string_bytes e.0) q)) sorted.0) in
        let both : None ≡ Some r.value = sym gone ∙ r.here in
        absurd cc
    still Greater q = r.here

pub sorted_rest : (e : Entry) (es : List Entry) → IsStrictlySortedBy string_cmp (keys_of (e ∷ es)) → IsStrictlySortedBy string_cmp (keys_of es)
unfolding IsStrictlySortedBy
sorted_rest e es sorted = sorted.1

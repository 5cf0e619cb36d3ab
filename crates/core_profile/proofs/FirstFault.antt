-- The fault that a look along the members of a table meets first is that of the first faulty name in byte order.
use Rattle.std.proofs.Common.{◌≡◌, ℕ, List, [], ◌∷◌, Option, Some, None, option_map, Ordering, Less, Equal, Greater, nat_cmp, string_bytes, refl, sym, ap, subst, ◌∙◌}
use Rattle.std.proofs.lemmas.Cmp.{nat_list_cmp_total}
use Rattle.std.proofs.lemmas.Map.Lookups.{exact_bytes}
use Rattle.std.specs.Cmp.{tied_itself}
use Rattle.std.specs.Cmp.Lexicographic.{slice_cmp}
use Rattle.std.specs.List.Sorted.{IsStrictlySortedBy}
use Rattle.std.specs.Map.{keys_of}
use Rattle.std.specs.Ordering.{match_ordering}
use Rattle.std.specs.String.{string_cmp}
use Rattle.toml.proofs.Views.{Entry}
use Rattle.toml.specs.Data.{Data, Members, no_members, member, get_member}
use Rattle.toml.specs.View.{view, members_view}
use Rattle.core_profile.specs.declared.key.Key.{Key}
use Rattle.core_profile.specs.declared.wrong.Wrong.{Wrong}
use Rattle.core_profile.specs.Refusals.{Fault, unknown_key, wrong_at, IsFaultless, IsFirstFault, fault_of, key_fault, wrong_value}
use Rattle.core_profile.specs.Tables.{IsBefore, key_named, range_of}
use Rattle.core_profile.proofs.Laws.{AreAfter, not_there, not_earlier}

-- a fault, or else a later one
abbrev pub or_later : Option Fault → Option Fault → Option Fault
or_later None later = later
or_later (Some f) later = Some f

-- the fault that a look along the members meets first
abbrev pub first_met : Members → Option Fault
first_met no_members = None
first_met (member name d ms) = or_later (fault_of name d) (first_met ms)

none_of_two : (o later : Option Fault) → or_later o later ≡ None → (o ≡ None) × (later ≡ None)
none_of_two None later h = (refl, h)
none_of_two (Some f) later h = absurd cc

pub none_met : (ms : Members) → first_met ms ≡ None → IsFaultless ms
none_met no_members h name d g = absurd cc
none_met (member l e ms) h name d g =
    let parts = none_of_two (fault_of l e) (first_met ms) h in
    by (slice_cmp nat_cmp name l) refl parts.0 g (none_met ms parts.1 name d)
  where
    by : (o : Ordering) → slice_cmp nat_cmp name l ≡ o → fault_of l e ≡ None → match_ordering o (get_member name ms) (Some e) (get_member name ms) ≡ Some d → (get_member name ms ≡ Some d → fault_of name d ≡ None) → fault_of name d ≡ None
    by Less q here g more = more g
    by Equal q here g more =
        let eq : e ≡ d = cc in
        subst (λ (n : List ℕ). fault_of n d ≡ None) (sym (exact_bytes name l q)) (subst (λ (x : Data). fault_of l x ≡ None) eq here)
    by Greater q here g more = more g

at_once : (e : Entry) (es : List Entry) (f : Fault) → AreAfter (string_bytes e.0) es → fault_of (string_bytes e.0) (view e.1) ≡ Some f → IsFirstFault (members_view (e ∷ es)) f
at_once e es f later q = record {
  name = string_bytes e.0;
  value = view e.1;
  here = rw (tied_itself nat_list_cmp_total (string_bytes e.0)) refl;
  fault = q;
  first = λ other d less found. let both : None ≡ Some d = sym (not_earlier other e es later less) ∙ found in absurd cc;
}

further_on : (e : Entry) (es : List Entry) (f : Fault) → AreAfter (string_bytes e.0) es → fault_of (string_bytes e.0) (view e.1) ≡ None → IsFirstFault (members_view es) f → IsFirstFault (members_view (e ∷ es)) f
further_on e es f later clean r = record {
  name = r.name;
  value = r.value;
  here = still (slice_cmp nat_cmp r.name (string_bytes e.0)) refl;
  fault = r.fault;
  first = λ other d less found. earlier other d less (slice_cmp nat_cmp other (string_bytes e.0)) refl found;
}
  where
    still : (o : Ordering) → slice_cmp nat_cmp r.name (string_bytes e.0) ≡ o → match_ordering o (get_member r.name (members_view es)) (Some (view e.1)) (get_member r.name (members_view es)) ≡ Some r.value
    still Less q = r.here
    still Equal q =
        let gone : get_member r.name (members_view es) ≡ None = not_there r.name es (subst (λ (n : List ℕ). AreAfter n es) (sym (exact_bytes r.name (string_bytes e.0) q)) later) in
        let both : None ≡ Some r.value = sym gone ∙ r.here in
        absurd cc
    still Greater q = r.here

    earlier : (other : List ℕ) (d : Data) → IsBefore other r.name → (o : Ordering) → slice_cmp nat_cmp other (string_bytes e.0) ≡ o → match_ordering o (get_member other (members_view es)) (Some (view e.1)) (get_member other (members_view es)) ≡ Some d → fault_of other d ≡ None
    earlier other d less Less q found = r.first other d less found
    earlier other d less Equal q found =
        let eq : view e.1 ≡ d = cc in
        subst (λ (n : List ℕ). fault_of n d ≡ None) (sym (exact_bytes other (string_bytes e.0) q)) (subst (λ (x : Data). fault_of (string_bytes e.0) x ≡ None) eq clean)
    earlier other d less Greater q found = r.first other d less found

pub one_met : (es : List Entry) (f : Fault) → IsStrictlySortedBy string_cmp (keys_of es) → first_met (members_view es) ≡ Some f → IsFirstFault (members_view es) f
unfolding IsStrictlySortedBy
one_met [] f sorted h = absurd cc
one_met (e ∷ es) f sorted h = by (fault_of (string_bytes e.0) (view e.1)) refl h (one_met es f sorted.1)
  where
    by : (o : Option Fault) → fault_of (string_bytes e.0) (view e.1) ≡ o → or_later o (first_met (members_view es)) ≡ Some f → (first_met (members_view es) ≡ Some f → IsFirstFault (members_view es) f) → IsFirstFault (members_view (e ∷ es)) f
    by None q h more = further_on e es f sorted.0 q (more h)
    by (Some g) q h more = at_once e es f sorted.0 (q ∙ h)

-- ---- the first of some entries

pub met_unknown : (e : Entry) (es : List Entry) (name : List ℕ) → name ≡ string_bytes e.0 → key_named name ≡ None → first_met (members_view (e ∷ es)) ≡ Some (unknown_key name)
met_unknown e es name same named =
    ap (λ (n : List ℕ). or_later (fault_of n (view e.1)) (first_met (members_view es))) (sym same)
    ∙ ap (λ (k : Option Key). or_later (key_fault name k (view e.1)) (first_met (members_view es))) named

pub met_wrong : (e : Entry) (es : List Entry) (name : List ℕ) (k : Key) (w : Wrong) → name ≡ string_bytes e.0 → key_named name ≡ Some k → wrong_value (range_of k) (view e.1) ≡ Some w → first_met (members_view (e ∷ es)) ≡ Some (wrong_at k w)
met_wrong e es name k w same named wrong =
    ap (λ (n : List ℕ). or_later (fault_of n (view e.1)) (first_met (members_view es))) (sym same)
    ∙ ap (λ (o : Option Key). or_later (key_fault name o (view e.1)) (first_met (members_view es))) named
    ∙ ap (λ (o : Option Wrong). or_later (option_map (wrong_at k) o) (first_met (members_view es))) wrong

-- The numbers of a table with no fault are in their ranges.
use Rattle.std.proofs.Common.{◌≡◌, ℕ, ℤ, pos, negsuc, Bool, true, false, Option, Some, None, unwrap_or, option_map, refl, sym, subst, ◌∙◌}
use Rattle.std.specs.Prelude.{if◌then◌else◌}
use Rattle.std.specs.Option.{option_and_then}
use Rattle.toml.specs.Data.{Data, Members, get_member, as_integer}
use Rattle.core_profile.specs.declared.key.Key.{Key}
use Rattle.core_profile.specs.declared.key.Key.TheVariants.{AluLatency, BranchLatency, ExtraRegisters, Fetch, FrontDelay, HitLatency, Issue, IssueQueue, IssueWidth, LoadQueue, MissLatency, Num1, Num2, RenameWidth, ReorderBuffer, RetireWidth, StoreLatency, StoreQueue}
use Rattle.core_profile.specs.Fields.{as_natural, number_at, fields_at, first_outside}
use Rattle.core_profile.specs.Refusals.{IsFaultless, key_fault, wrong_at, wrong_number, wrong_value}
use Rattle.core_profile.specs.Tables.{Range, fetch_policy, issue_policy, one_two_four, from_to, key_named, name_of, range_of, allows, default_of}
use Rattle.core_profile.specs.declared.wrong.Wrong.TheVariants.{Range as OutOfRange}

-- a number may stand at the key
abbrev IsNumber : Range → Type 0
IsNumber fetch_policy = ⊥
IsNumber issue_policy = ⊥
IsNumber one_two_four = Unit {0}
IsNumber (from_to low high) = Unit {0}

-- a number that has no fault is in its range, and so is the default
of_value : (r : Range) (default : ℕ) (z : Option ℤ) → allows r default ≡ true → wrong_number r z ≡ None → allows r (unwrap_or (option_and_then as_natural z) default) ≡ true
of_value r default None d h = d
of_value r default (Some (pos n)) d h = by (allows r n) refl h
  where
    by : (b : Bool) → allows r n ≡ b → (if b then None else Some OutOfRange) ≡ None → allows r n ≡ true
    by true q h = q
    by false q h = absurd cc
of_value r default (Some (negsuc n)) d h = absurd cc

at_number : (k : Key) (ms : Members) → key_named (name_of k) ≡ Some k → ((d : Data) → wrong_value (range_of k) d ≡ wrong_number (range_of k) (as_integer d)) → allows (range_of k) (default_of k) ≡ true → IsFaultless ms → allows (range_of k) (number_at k ms) ≡ true
at_number k ms named number default none = by (get_member (name_of k) ms) refl
  where
    no_wrong : (d : Data) → key_fault (name_of k) (Some k) d ≡ None → wrong_value (range_of k) d ≡ None
    no_wrong d h = elim (wrong_value (range_of k) d) as (λ w. option_map (wrong_at k) w ≡ None → w ≡ None) [ None ↦ λ h. refl | Some w ↦ λ h. absurd cc ] h

    by : (o : Option Data) → get_member (name_of k) ms ≡ o → allows (range_of k) (unwrap_or (option_and_then as_natural (option_and_then as_integer o)) (default_of k)) ≡ true
    by None q = default
    by (Some d) q =
        let P : Option Key → Type 0 = λ o. key_fault (name_of k) o d ≡ None in
        of_value (range_of k) (default_of k) (as_integer d) default (sym (number d) ∙ no_wrong d (subst P named (none (name_of k) d q)))

-- the number at each key is in its range
in_range : (k : Key) (ms : Members) → IsNumber (range_of k) → IsFaultless ms → allows (range_of k) (number_at k ms) ≡ true
unfolding allows
in_range Fetch ms h none = absurd h
in_range Issue ms h none = absurd h
in_range k ms h none = at_number k ms refl (λ d. refl) refl none

pub none_outside : (ms : Members) → IsFaultless ms → first_outside (fields_at ms) ≡ None
none_outside ms none =
    rw (in_range AluLatency ms tt none, in_range BranchLatency ms tt none, in_range ExtraRegisters ms tt none, in_range FrontDelay ms tt none, in_range HitLatency ms tt none, in_range IssueQueue ms tt none, in_range IssueWidth ms tt none, in_range LoadQueue ms tt none, in_range MissLatency ms tt none, in_range Num1 ms tt none, in_range Num2 ms tt none, in_range RenameWidth ms tt none, in_range ReorderBuffer ms tt none, in_range RetireWidth ms tt none, in_range StoreLatency ms tt none, in_range StoreQueue ms tt none) refl

-- What is wrong with a table.
use Rattle.std.specs.Prelude.{◌≡◌, ℕ, ℤ, pos, negsuc, Bool, List, Option, Some, None, is_some, option_map, Result, Ok, Err, string_bytes, if◌then◌else◌}
use Rattle.toml.specs.Data.{Data, Members, get_member, as_integer, as_str}
use Rattle.core_profile.specs.declared.key.Key.{Key}
use Rattle.core_profile.specs.declared.wrong.Wrong.{Wrong}
use Rattle.core_profile.specs.declared.wrong.Wrong.TheVariants.{Kind, Range, Policy}
use Rattle.core_profile.specs.declared.profile.Profile.{Profile}
use Rattle.core_profile.specs.declared.fault.ProfileFault.{ProfileFault}
use Rattle.core_profile.specs.declared.fault.ProfileFault.TheVariants.{UnknownKey, WrongKind, OutOfRange, UnknownPolicy, OutOfMemory}
use Rattle.core_profile.specs.declared.fields.ProfileFields.{ProfileFields}
use Rattle.core_profile.specs.Fields.{fields_of, fields_at, IsFirstOutside}
use Rattle.core_profile.specs.Policies.{fetch_named, issue_named}
use Rattle.core_profile.specs.Tables as table
use Rattle.core_profile.specs.Tables.{fetch_policy, issue_policy, one_two_four, from_to, IsBefore, allows, key_named, range_of}

-- what is wrong with a number, None being another kind of value
abbrev pub wrong_number : table.Range → Option ℤ → Option Wrong
wrong_number r None = Some Kind
wrong_number r (Some (pos n)) = if allows r n then None else Some Range
wrong_number r (Some (negsuc n)) = Some Range

-- what is wrong with the name of a policy, None being another kind of value
abbrev pub wrong_policy : (List ℕ → Bool) → Option (List ℕ) → Option Wrong
wrong_policy is_known None = Some Kind
wrong_policy is_known (Some name) = if is_known name then None else Some Policy

-- what is wrong with a value
abbrev pub wrong_value : table.Range → Data → Option Wrong
wrong_value fetch_policy d = wrong_policy (λ name. is_some (fetch_named name)) (as_str d)
wrong_value issue_policy d = wrong_policy (λ name. is_some (issue_named name)) (as_str d)
wrong_value one_two_four d = wrong_number one_two_four (as_integer d)
wrong_value (from_to low high) d = wrong_number (from_to low high) (as_integer d)

-- a fault of a table: a key that is none, or a key's value with what is wrong with it
pub data Fault : Type 0 where
  unknown_key : List ℕ → Fault
  wrong_at : Key → Wrong → Fault

-- the fault of a value at a key, or at a name that is no key
abbrev pub key_fault : List ℕ → Option Key → Data → Option Fault
key_fault name None d = Some (unknown_key name)
key_fault name (Some k) d = option_map (wrong_at k) (wrong_value (range_of k) d)

-- the fault of a value at a name
abbrev pub fault_of : List ℕ → Data → Option Fault
fault_of name d = key_fault name (key_named name) d

-- no name of a table has a fault
abbrev pub IsFaultless : Members → Type 0
IsFaultless ms = (name : List ℕ) (d : Data) → get_member name ms ≡ Some d → fault_of name d ≡ None

-- the fault at a name of a table, where no name of the table that comes before it in byte order has one
pub record IsFirstFault (ms : Members) (f : Fault) : Type 0 where
  pub name : List ℕ
  pub value : Data
  pub here : get_member name ms ≡ Some value
  pub fault : fault_of name value ≡ Some f
  pub first : (other : List ℕ) (d : Data) → IsBefore other name → get_member other ms ≡ Some d → fault_of other d ≡ None

-- a refusal is of this fault. Memory is wanted for the name of an unknown key alone
abbrev pub Refuses : {A : Type 0} → ProfileFault A → Fault → Type 0
Refuses (UnknownKey s) f = f ≡ unknown_key (string_bytes s)
Refuses (WrongKind k) f = f ≡ wrong_at k Kind
Refuses (OutOfRange k) f = f ≡ wrong_at k Range
Refuses (UnknownPolicy k) f = f ≡ wrong_at k Policy
Refuses OutOfMemory f = (name : List ℕ) × (f ≡ unknown_key name)

-- a refusal of the first fault of a table
abbrev pub RefusesFirst : {A : Type 0} → Members → ProfileFault A → Type 0
RefusesFirst ms e = (f : Fault) × IsFirstFault ms f × Refuses e f

-- what stands of a table that is looked through for faults: it has none, or a refusal of the first one
abbrev pub Finds : {A : Type 0} → Members → Result (Unit {0}) (ProfileFault A) → Type 0
Finds ms (Ok u) = IsFaultless ms
Finds ms (Err e) = RefusesFirst ms e

-- what stands of a table: its fields where it has no fault, and else a refusal of its first fault
abbrev pub IsProfileOf : {A : Type 0} → Members → Result Profile (ProfileFault A) → Type 0
IsProfileOf ms (Ok p) = IsFaultless ms × (fields_of p ≡ fields_at ms)
IsProfileOf ms (Err e) = RefusesFirst ms e

-- what stands of fields: a profile of them where each number is in its range, and else the first key out of it
abbrev pub IsChecked : {A : Type 0} → ProfileFields → Result Profile (ProfileFault A) → Type 0
IsChecked fields (Ok p) = fields_of p ≡ fields
IsChecked fields (Err e) = (k : Key) × IsFirstOutside fields k × (e ≡ OutOfRange k)

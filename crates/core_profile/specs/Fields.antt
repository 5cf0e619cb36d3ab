-- The fields of a profile, and those that a table gives.
use Rattle.std.specs.Prelude.{◌≡◌, ℕ, ℤ, pos, negsuc, List, [], ◌∷◌, Option, Some, None, option_map, option_and_then, unwrap_or, find, not, true, false, Contains}
use Rattle.toml.specs.Data.{Members, as_integer, as_str, get_member}
use Rattle.core_profile.specs.declared.key.Key.{Key}
use Rattle.core_profile.specs.declared.key.Key.TheVariants.{AluLatency, BranchLatency, ExtraRegisters, Fetch, FrontDelay, HitLatency, Issue, IssueQueue, IssueWidth, LoadQueue, MissLatency, Num1, Num2, RenameWidth, ReorderBuffer, RetireWidth, StoreLatency, StoreQueue}
use Rattle.core_profile.specs.declared.policy.FetchPolicy.{FetchPolicy}
use Rattle.core_profile.specs.declared.policy.FetchPolicy.TheVariants.{Icount}
use Rattle.core_profile.specs.declared.policy.IssuePolicy.{IssuePolicy}
use Rattle.core_profile.specs.declared.policy.IssuePolicy.TheVariants.{OldestFirst}
use Rattle.core_profile.specs.declared.profile.Profile.{Profile}
use Rattle.core_profile.specs.declared.fields.ProfileFields.{ProfileFields}
use Rattle.core_profile.specs.Policies.{fetch_named, issue_named}
use Rattle.core_profile.specs.Tables.{IsBefore, name_of, range_of, allows, default_of}

-- the fields of a profile
abbrev pub fields_of : Profile → ProfileFields
fields_of p = record {
  fetch = p.fetch;
  issue = p.issue;
  num1 = p.num1;
  num2 = p.num2;
  rename_width = p.rename_width;
  issue_width = p.issue_width;
  retire_width = p.retire_width;
  issue_queue = p.issue_queue;
  reorder_buffer = p.reorder_buffer;
  load_queue = p.load_queue;
  store_queue = p.store_queue;
  extra_registers = p.extra_registers;
  front_delay = p.front_delay;
  alu_latency = p.alu_latency;
  branch_latency = p.branch_latency;
  store_latency = p.store_latency;
  hit_latency = p.hit_latency;
  miss_latency = p.miss_latency;
}

-- the natural number that a value is
abbrev pub as_natural : ℤ → Option ℕ
as_natural (pos n) = Some n
as_natural (negsuc n) = None

-- the number at a key, or the key's default
abbrev pub number_at : Key → Members → ℕ
number_at k ms = unwrap_or (option_and_then as_natural (option_and_then as_integer (get_member (name_of k) ms))) (default_of k)

-- the fetch policy of a table, or the default
abbrev pub fetch_at : Members → FetchPolicy
fetch_at ms = unwrap_or (option_and_then fetch_named (option_and_then as_str (get_member (name_of Fetch) ms))) Icount

-- the issue policy of a table, or the default
abbrev pub issue_at : Members → IssuePolicy
issue_at ms = unwrap_or (option_and_then issue_named (option_and_then as_str (get_member (name_of Issue) ms))) OldestFirst

-- the fields that a table gives
abbrev pub fields_at : Members → ProfileFields
fields_at ms = record {
  fetch = fetch_at ms;
  issue = issue_at ms;
  num1 = number_at Num1 ms;
  num2 = number_at Num2 ms;
  rename_width = number_at RenameWidth ms;
  issue_width = number_at IssueWidth ms;
  retire_width = number_at RetireWidth ms;
  issue_queue = number_at IssueQueue ms;
  reorder_buffer = number_at ReorderBuffer ms;
  load_queue = number_at LoadQueue ms;
  store_queue = number_at StoreQueue ms;
  extra_registers = number_at ExtraRegisters ms;
  front_delay = number_at FrontDelay ms;
  alu_latency = number_at AluLatency ms;
  branch_latency = number_at BranchLatency ms;
  store_latency = number_at StoreLatency ms;
  hit_latency = number_at HitLatency ms;
  miss_latency = number_at MissLatency ms;
}

-- the numbers of a profile with their keys
abbrev pub numbers : ProfileFields → List (Key × ℕ)
numbers f = (AluLatency, f.alu_latency) ∷ (BranchLatency, f.branch_latency) ∷ (ExtraRegisters, f.extra_registers) ∷ (FrontDelay, f.front_delay) ∷ (HitLatency, f.hit_latency) ∷ (IssueQueue, f.issue_queue) ∷ (IssueWidth, f.issue_width) ∷ (LoadQueue, f.load_queue) ∷ (MissLatency, f.miss_latency) ∷ (Num1, f.num1) ∷ (Num2, f.num2) ∷ (RenameWidth, f.rename_width) ∷ (ReorderBuffer, f.reorder_buffer) ∷ (RetireWidth, f.retire_width) ∷ (StoreLatency, f.store_latency) ∷ (StoreQueue, f.store_queue) ∷ []

-- the first of these whose number is out of its range
abbrev pub first_outside : ProfileFields → Option Key
first_outside f = option_map (λ r. r.0) (find (λ r. not (allows (range_of r.0) r.1)) (numbers f))

-- the key of a number out of its range, where no key that comes before it in byte order has one
pub record IsFirstOutside (f : ProfileFields) (k : Key) : Type 0 where
  pub number : ℕ
  pub here : Contains (numbers f) (k, number)
  pub outside : allows (range_of k) number ≡ false
  pub first : (j : Key) (n : ℕ) → IsBefore (name_of j) (name_of k) → Contains (numbers f) (j, n) → allows (range_of j) n ≡ true

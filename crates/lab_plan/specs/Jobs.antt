-- The jobs of a plan.
use Rattle.std.specs.Prelude.{◌≢◌, ◌<◌, ℕ, ℤ, pos, negsuc, nat_le, List, [], ◌∷◌, Option, Some, None, unwrap_or, codes, if◌then◌else◌}
use Rattle.std.specs.Option.{option_and_then}
use Rattle.std.specs.Str.{bytes_eq}
use Rattle.std.specs.declared.alloc.Global.{Global}
use Rattle.toml.specs.Data.{Data, Items, no_items, item, Members, no_members, get_item, get_member, as_integer, as_str, as_table}
use Rattle.core_profile.specs.declared.fields.ProfileFields.{ProfileFields}
use Rattle.core_profile.specs.declared.fault.ProfileFault.{ProfileFault}
use Rattle.core_profile.specs.declared.fault.ProfileFault.TheVariants.{OutOfMemory}
use Rattle.core_profile.specs.Fields.{fields_at, fields_of}
use Rattle.core_profile.specs.Refusals.{IsFaultless, RefusesFirst}
use Rattle.lab_plan.specs.declared.job.Job.{Job}
use Rattle.lab_plan.specs.declared.start.JobStart.{JobStart}
use Rattle.lab_plan.specs.declared.start.JobStart.TheVariants.{Opening, Furthest}
use Rattle.lab_plan.specs.Parts.{array_at, table_at, table_of_item, count_of}

-- the start of a name
abbrev pub start_named : List ℕ → Option JobStart
start_named name =
    if bytes_eq name (codes "opening") then Some Opening
    else if bytes_eq name (codes "furthest") then Some Furthest
    else None

-- the start that a value names
abbrev pub start_of : Data → Option JobStart
start_of d = option_and_then start_named (as_str d)

-- an integer as a number from 0 to 2^40
abbrev pub in_range : ℤ → Option ℕ
in_range (pos n) = if nat_le n 1099511627776 then Some n else None
in_range (negsuc n) = None

-- the number from 0 to 2^40 that a value is
abbrev pub number_of : Data → Option ℕ
number_of d = option_and_then in_range (as_integer d)

-- what a job is: its start, limit, targets and the fields of its profile
pub record JobFields : Type 0 where
  pub start : JobStart
  pub limit : ℕ
  pub targets : List ℕ
  pub profile : ProfileFields

-- the fields of a job
abbrev pub job_fields : Job → JobFields
job_fields j = record { start = j.start; limit = j.limit; targets = j.targets; profile = fields_of j.profile }

-- the target of a context: a missing one is 0
abbrev pub target_at : Items → ℕ → ℕ
target_at numbers i = unwrap_or (option_and_then number_of (get_item i numbers)) 0

-- the targets of the eight contexts
abbrev pub targets_of : Items → List ℕ
targets_of numbers = target_at numbers 0 ∷ target_at numbers 1 ∷ target_at numbers 2 ∷ target_at numbers 3 ∷ target_at numbers 4 ∷ target_at numbers 5 ∷ target_at numbers 6 ∷ target_at numbers 7 ∷ []

-- `targets`
abbrev pub targets_at : Members → List ℕ
targets_at ms = targets_of (array_at (codes "targets") ms)

-- the start of a job: a missing one is "opening"
abbrev pub start_at : Members → JobStart
start_at ms = unwrap_or (option_and_then start_of (get_member (codes "start") ms)) Opening

-- the limit of a job, which its form requires
abbrev pub limit_at : Members → ℕ
limit_at ms = unwrap_or (option_and_then number_of (get_member (codes "limit") ms)) 0

-- the profile of a job: a missing one is the empty table
abbrev pub profile_at : Members → Members
profile_at ms = table_at (codes "profile") ms

-- what the table of a job says
abbrev pub fields_of_job : Members → JobFields
fields_of_job ms = record {
  start = start_at ms;
  limit = limit_at ms;
  targets = targets_at ms;
  profile = fields_at (profile_at ms);
}

-- `jobs`
abbrev pub jobs_at : Members → Items
jobs_at doc = array_at (codes "jobs") doc

-- the table that a value is, the empty one where it is none
abbrev pub table_of : Data → Members
table_of d = unwrap_or (as_table d) no_members

-- what a value says of a job
abbrev pub fields_of_value : Data → JobFields
fields_of_value d = fields_of_job (table_of d)

-- what the items say, one by one
abbrev pub jobs_of : Items → List JobFields
jobs_of no_items = []
jobs_of (item d ds) = fields_of_value d ∷ jobs_of ds

-- the profiles of the jobs below one have no fault
abbrev pub AreFaultlessBelow : Items → ℕ → Type 0
AreFaultlessBelow ds k = (i : ℕ) → i < k → IsFaultless (profile_at (table_of_item ds i))

-- the profile of a job has this fault, and those of the jobs before it have none
pub record IsFirstProfileFault (ds : Items) (job : ℕ) (fault : ProfileFault Global) : Type 0 where
  pub within : job < count_of ds
  pub refused : RefusesFirst (profile_at (table_of_item ds job)) fault
  pub told : fault ≢ OutOfMemory
  pub first : AreFaultlessBelow ds job

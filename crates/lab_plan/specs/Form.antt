-- The form of a plan, as the tables of README.md have it: a document with these keys, all of which may be missing but a job's limit.
use Rattle.std.specs.Prelude.{ℕ, pos, codes, Bool, true, false, ◌&&◌, nat_le, List, Option, Some, None, is_some, if◌then◌else◌}
use Rattle.std.specs.Ordering.{int_eq}
use Rattle.std.specs.Str.{bytes_eq}
use Rattle.toml.specs.Data.{Data, Items, no_items, item, Members, no_members, member, as_array, as_integer, as_str, as_table, get_member}
use Rattle.lab_plan.specs.Jobs.{number_of, start_of}
use Rattle.lab_plan.specs.Parts.{count_of}

-- each member passes
abbrev pub all_members : (List ℕ → Data → Bool) → Members → Bool
all_members p no_members = true
all_members p (member key d ms) = p key d && all_members p ms

-- each item passes
abbrev pub all_items : (Data → Bool) → Items → Bool
all_items p no_items = true
all_items p (item d ds) = p d && all_items p ds

-- what is there passes
abbrev pub passes : {X : Type 0} → (X → Bool) → Option X → Bool
passes p None = false
passes p (Some x) = p x

-- a text
abbrev pub is_text : Data → Bool
is_text d = is_some (as_str d)

-- `environment`: 1
abbrev pub is_environment : Data → Bool
is_environment d = passes (λ z. int_eq z (pos 1)) (as_integer d)

-- `programs`: a table of names to assembler texts
abbrev pub are_programs : Data → Bool
are_programs d = passes (all_members (λ name text. is_text text)) (as_table d)

-- `contexts`: an array of at most eight names
abbrev pub are_contexts : Data → Bool
are_contexts d = passes (λ names. nat_le (count_of names) 8 && all_items is_text names) (as_array d)

-- `start`: "opening" or "furthest"
abbrev pub is_start : Data → Bool
is_start d = is_some (start_of d)

-- a number from 0 to 2^40
abbrev pub is_number : Data → Bool
is_number d = is_some (number_of d)

-- `targets`: an array of at most eight numbers from 0 to 2^40
abbrev pub are_targets : Data → Bool
are_targets d = passes (λ numbers. nat_le (count_of numbers) 8 && all_items is_number numbers) (as_array d)

-- a key of a job, with a value of its kind
abbrev pub is_job_member : List ℕ → Data → Bool
is_job_member key d =
    if bytes_eq key (codes "start") then is_start d
    else if bytes_eq key (codes "limit") then is_number d
    else if bytes_eq key (codes "targets") then are_targets d
    else if bytes_eq key (codes "profile") then is_some (as_table d)
    else false

-- a job's limit is required
abbrev pub is_job_form : Members → Bool
is_job_form ms = is_some (get_member (codes "limit") ms) && all_members is_job_member ms

-- a table with a job's form
abbrev pub is_job : Data → Bool
is_job d = passes is_job_form (as_table d)

-- `jobs`: an array of tables
abbrev pub are_jobs : Data → Bool
are_jobs d = passes (all_items is_job) (as_array d)

-- a key of a plan, with a value of its kind
abbrev pub is_plan_member : List ℕ → Data → Bool
is_plan_member key d =
    if bytes_eq key (codes "environment") then is_environment d
    else if bytes_eq key (codes "programs") then are_programs d
    else if bytes_eq key (codes "contexts") then are_contexts d
    else if bytes_eq key (codes "jobs") then are_jobs d
    else false

-- a document with a plan's form
unfoldable pub is_plan_form : Members → Bool
is_plan_form doc = all_members is_plan_member doc

-- the document with a plan's form that a text is, if it is one
abbrev pub formed : Option Members → Option Members
formed None = None
formed (Some doc) = if is_plan_form doc then Some doc else None

-- The plan of a text, or the refusal of its first fault.
use Rattle.std.specs.Prelude.{◌≡◌, ◌<◌, ◌≤◌, map, Option, Some, None, Result, Ok, Err, string_bytes}
use Rattle.toml.specs.Data.{Members}
use Rattle.lab_plan.specs.declared.fault.PlanFault.{PlanFault}
use Rattle.lab_plan.specs.declared.fault.PlanFault.TheVariants.{Form, UnknownProgram, TooManyJobs, Profile, Program, OutOfMemory}
use Rattle.lab_plan.specs.Contexts.{IsOriginOf, first_unknown}
use Rattle.lab_plan.specs.Jobs.{AreFaultlessBelow, IsFirstProfileFault, job_fields, jobs_at, jobs_of}
use Rattle.lab_plan.specs.Parts.{count_of}
use Rattle.lab_plan.specs.PlanValue.{PlanValue}
use Rattle.lab_plan.specs.Programs.{AllAssemble, IsFirstProgramFault, programs_at}

-- at most 4096 jobs
abbrev pub HasFewJobs : Members → Type 0
HasFewJobs doc = count_of (jobs_at doc) ≤ 4096

-- no profile of a job has a fault
abbrev pub HasProfiles : Members → Type 0
HasProfiles doc = AreFaultlessBelow (jobs_at doc) (count_of (jobs_at doc))

-- a document of a plan's form that is refused for nothing else
pub record IsLawful (doc : Members) : Type 0 where
  pub few : HasFewJobs doc
  pub assembled : AllAssemble (programs_at doc)
  pub known : first_unknown doc ≡ None
  pub profiles : HasProfiles doc

-- the plan has what the document says
pub record IsValueOf (doc : Members) (plan : PlanValue) : Type 0 where
  pub origin : IsOriginOf doc plan.origin
  pub jobs : map job_fields plan.jobs ≡ jobs_of (jobs_at doc)

-- a refusal of a document of a plan's form is of its first fault in this order: too many jobs, a program that isn't
-- assembled, a context that names no program, a profile
abbrev pub Refuses : Members → PlanFault → Type 0
Refuses doc Form = ⊥
Refuses doc TooManyJobs = 4096 < count_of (jobs_at doc)
Refuses doc (Program name fault line) = HasFewJobs doc × IsFirstProgramFault (programs_at doc) (string_bytes name) fault line
Refuses doc (UnknownProgram context) = HasFewJobs doc × AllAssemble (programs_at doc) × (first_unknown doc ≡ Some context)
Refuses doc (Profile job fault) = HasFewJobs doc × AllAssemble (programs_at doc) × (first_unknown doc ≡ None) × IsFirstProfileFault (jobs_at doc) job fault
Refuses doc OutOfMemory = Unit {0}

-- what stands of a document of a plan's form
abbrev pub IsPlanOf : Members → Result PlanValue PlanFault → Type 0
IsPlanOf doc (Ok plan) = IsLawful doc × IsValueOf doc plan
IsPlanOf doc (Err fault) = Refuses doc fault

-- a refusal of a text: that it is no document of a plan's form, or of the document
abbrev pub RefusesText : Option Members → PlanFault → Type 0
RefusesText read Form = read ≡ None
RefusesText read OutOfMemory = Unit {0}
RefusesText read fault = (doc : Members) × (read ≡ Some doc) × Refuses doc fault

-- what stands of a text, by the document of a plan's form that it is
abbrev pub IsPlanOfText : Option Members → Result PlanValue PlanFault → Type 0
IsPlanOfText read (Ok plan) = (doc : Members) × (read ≡ Some doc) × IsLawful doc × IsValueOf doc plan
IsPlanOfText read (Err fault) = RefusesText read fault

-- The words of the contracts inside: what a step of the reading refuses by.
use Rattle.std.specs.Prelude.{◌≡◌, ◌≢◌, ◌<◌, ℕ, List, Option, None, string_bytes}
use Rattle.std.specs.Str.Lines.{lines}
use Rattle.std.specs.declared.alloc.Global.{Global}
use Rattle.toml.specs.Data.{Data, Items, Members}
use Rattle.core_profile.specs.declared.fault.ProfileFault.{ProfileFault}
use Rattle.core_profile.specs.declared.fault.ProfileFault.TheVariants.{OutOfMemory as NoProfile}
use Rattle.core_profile.specs.Refusals.{RefusesFirst}
use Rattle.rv64_asm.specs.Assembled.{IsRefusal}
use Rattle.rv64_asm.specs.declared.fault.AsmFault.{AsmFault}
use Rattle.rv64_asm.specs.declared.fault.AsmFault.TheVariants.{At}
use Rattle.lab_plan.specs.declared.fault.PlanFault.{PlanFault}
use Rattle.lab_plan.specs.declared.fault.PlanFault.TheVariants.{Form, TooManyJobs, Profile, Program, OutOfMemory}
use Rattle.lab_plan.specs.Jobs.{IsFirstProfileFault, jobs_at, profile_at}
use Rattle.lab_plan.specs.Parts.{count_of}
use Rattle.lab_plan.specs.Programs.{IsFirstProgramFault, text_of}

-- the fault is that of a value's text
abbrev pub IsRefusalOf : Data → AsmFault → Type 0
IsRefusalOf d fault = IsRefusal (lines (text_of d)) fault

-- the refusal tells a program's name and fault, or memory ran out
abbrev pub RefusesAs : List ℕ → AsmFault → PlanFault → Type 0
RefusesAs name fault (Program told at line) = (string_bytes told ≡ name) × (fault ≡ At at line)
RefusesAs name fault OutOfMemory = Unit {0}
RefusesAs name fault _ = ⊥

-- the refusal is that there are more than 4096 jobs
abbrev pub RefusesCount : Members → PlanFault → Type 0
RefusesCount doc TooManyJobs = 4096 < count_of (jobs_at doc)
RefusesCount doc _ = ⊥

-- the refusal tells the program's name and the fault of its text, or memory ran out
abbrev pub RefusesOne : List ℕ → Data → PlanFault → Type 0
RefusesOne name d (Program told fault line) = (string_bytes told ≡ name) × IsRefusal (lines (text_of d)) (At fault line)
RefusesOne name d OutOfMemory = Unit {0}
RefusesOne name d _ = ⊥

-- the refusal is of the first program that isn't assembled, or memory ran out
abbrev pub RefusesProgram : Members → PlanFault → Type 0
RefusesProgram ms (Program name fault line) = IsFirstProgramFault ms (string_bytes name) fault line
RefusesProgram ms OutOfMemory = Unit {0}
RefusesProgram ms _ = ⊥

-- the refusal is of the first profile at fault, or memory ran out
abbrev pub RefusesProfile : Items → PlanFault → Type 0
RefusesProfile ds (Profile job fault) = IsFirstProfileFault ds job fault
RefusesProfile ds OutOfMemory = Unit {0}
RefusesProfile ds _ = ⊥

-- the refusal is that the text is no document of a plan's form, or memory ran out
abbrev pub RefusesForm : Option Members → PlanFault → Type 0
RefusesForm read Form = read ≡ None
RefusesForm read OutOfMemory = Unit {0}
RefusesForm read _ = ⊥

-- the refusal tells a job's number and its profile's fault, or memory ran out
abbrev pub RefusesAsJob : ℕ → ProfileFault Global → PlanFault → Type 0
RefusesAsJob number fault (Profile job told) = (job ≡ number) × (told ≡ fault) × (told ≢ NoProfile)
RefusesAsJob number fault OutOfMemory = Unit {0}
RefusesAsJob number fault _ = ⊥

-- the refusal is of the profile of this job, or memory ran out
abbrev pub RefusesJob : Members → ℕ → PlanFault → Type 0
RefusesJob ms number (Profile job fault) = (job ≡ number) × RefusesFirst (profile_at ms) fault × (fault ≢ NoProfile)
RefusesJob ms number OutOfMemory = Unit {0}
RefusesJob ms number _ = ⊥

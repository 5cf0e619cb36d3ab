-- The text that refusals are printed by.
use Rattle.std.specs.Prelude.{ℕ, List, ◌++◌, codes, string_bytes}
use Rattle.std.specs.Fmt.{decimal}
use Rattle.core_profile.specs.Codes as profile
use Rattle.rv64_asm.specs.Codes.{code_of}
use Rattle.lab_plan.specs.declared.fault.PlanFault.{PlanFault}
use Rattle.lab_plan.specs.declared.fault.PlanFault.TheVariants.{Form, UnknownProgram, TooManyJobs, Profile, Program, OutOfMemory}

-- the code; J2 with the context, J4 with the job and the profile's refusal, J5 with the name and the program's refusal
abbrev pub fault_text : PlanFault → List ℕ
fault_text Form = codes "J1"
fault_text (UnknownProgram context) = codes "J2 " ++ decimal context
fault_text TooManyJobs = codes "J3"
fault_text (Profile job fault) = codes "J4 " ++ decimal job ++ codes " " ++ profile.fault_text fault
fault_text (Program name fault line) = codes "J5 " ++ string_bytes name ++ codes " " ++ code_of fault ++ codes " line " ++ decimal line
fault_text OutOfMemory = codes "J6"

-- The code of a refusal.
use Rattle.std.specs.Prelude.{ℕ, Option, Some, List, codes}
use Rattle.checkpoint_file.specs.declared.fault.FileFault.{FileFault}
use Rattle.checkpoint_file.specs.declared.fault.FileFault.TheVariants.{Form, Version, Seal, ForeignOrigin, NotReached, OverLimit, OutOfMemory, DeviceFailed}

-- a refusal is printed as its code
abbrev pub fault_text : FileFault → Option (List ℕ)
fault_text Form = Some (codes "F1")
fault_text Version = Some (codes "F2")
fault_text Seal = Some (codes "F3")
fault_text ForeignOrigin = Some (codes "F4")
fault_text NotReached = Some (codes "F5")
fault_text OverLimit = Some (codes "F6")
fault_text OutOfMemory = Some (codes "F7")
fault_text DeviceFailed = Some (codes "F8")

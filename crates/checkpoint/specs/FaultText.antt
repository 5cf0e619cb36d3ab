-- The code of a refusal.
use Rattle.std.specs.Prelude.{ℕ, Option, Some, List, codes}
use Rattle.checkpoint.specs.declared.fault.MarkFault.{MarkFault}
use Rattle.checkpoint.specs.declared.fault.MarkFault.TheVariants.{ForeignOrigin, OtherContext, OutOfMemory}

-- a refusal is printed as its code
abbrev pub fault_text : MarkFault → Option (List ℕ)
fault_text ForeignOrigin = Some (codes "C1")
fault_text OtherContext = Some (codes "C2")
fault_text OutOfMemory = Some (codes "C3")

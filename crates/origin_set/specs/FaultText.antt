-- The code of a refusal.
use Rattle.std.specs.Prelude.{ℕ, Option, Some, List, codes}
use Rattle.origin_set.specs.declared.fault.OriginFault.{OriginFault}
use Rattle.origin_set.specs.declared.fault.OriginFault.TheVariants.{TooManyPages, OutOfMemory}

-- O1 or O2
abbrev pub fault_text : OriginFault → Option (List ℕ)
fault_text TooManyPages = Some (codes "O1")
fault_text OutOfMemory = Some (codes "O2")

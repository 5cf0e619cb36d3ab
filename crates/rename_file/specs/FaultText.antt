-- The code of a refusal.
use Rattle.std.specs.Prelude.{ℕ, Option, Some, List, codes}
use Rattle.rename_file.specs.declared.fault.RenameFault.{RenameFault}
use Rattle.rename_file.specs.declared.fault.RenameFault.TheVariants.{NoneFree, OutOfMemory}

abbrev pub fault_text : RenameFault → Option (List ℕ)
fault_text NoneFree = Some (codes "N1")
fault_text OutOfMemory = Some (codes "N2")

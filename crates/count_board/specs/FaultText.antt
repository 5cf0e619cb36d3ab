-- The code of a refusal.
use Rattle.std.specs.Prelude.{ℕ, Option, Some, List, codes}
use Rattle.count_board.specs.declared.fault.BoardFault.{BoardFault}
use Rattle.count_board.specs.declared.fault.BoardFault.TheVariants.{OutOfMemory}

-- a refusal is printed as its code
abbrev pub fault_text : BoardFault → Option (List ℕ)
fault_text OutOfMemory = Some (codes "G1")

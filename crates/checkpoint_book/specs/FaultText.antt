-- The code of a refusal.
use Rattle.std.specs.Prelude.{ℕ, Option, Some, List, codes}
use Rattle.checkpoint_book.specs.declared.fault.BookFault.{BookFault}
use Rattle.checkpoint_book.specs.declared.fault.BookFault.TheVariants.{ForeignOrigin, OutOfMemory}

-- a refusal is printed as its code
abbrev pub fault_text : BookFault → Option (List ℕ)
fault_text ForeignOrigin = Some (codes "K1")
fault_text OutOfMemory = Some (codes "K2")

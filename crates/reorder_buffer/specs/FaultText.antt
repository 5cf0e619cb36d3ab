-- The code of a refusal.
use Rattle.std.specs.Prelude.{ℕ, Option, Some, List, codes}
use Rattle.reorder_buffer.specs.declared.fault.RingFault.{RingFault}
use Rattle.reorder_buffer.specs.declared.fault.RingFault.TheVariants.{Full, OutOfMemory}

abbrev pub fault_text : RingFault → Option (List ℕ)
fault_text Full = Some (codes "B1")
fault_text OutOfMemory = Some (codes "B2")

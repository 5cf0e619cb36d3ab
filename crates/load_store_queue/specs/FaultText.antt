-- The code of a refusal.
use Rattle.std.specs.Prelude.{ℕ, Option, Some, List, codes}
use Rattle.load_store_queue.specs.declared.fault.QueueFault.{QueueFault}
use Rattle.load_store_queue.specs.declared.fault.QueueFault.TheVariants.{Full}

abbrev pub fault_text : QueueFault → Option (List ℕ)
fault_text Full = Some (codes "L1")

-- The code of a refusal.
use Rattle.std.specs.Prelude.{ℕ, Option, Some, List, codes}
use Rattle.worker_pool.specs.declared.fault.PoolFault.{PoolFault}
use Rattle.worker_pool.specs.declared.fault.PoolFault.TheVariants.{OutOfMemory, Workers}

-- a refusal is printed as its code
abbrev pub fault_text : PoolFault → Option (List ℕ)
fault_text OutOfMemory = Some (codes "E1")
fault_text Workers = Some (codes "E2")

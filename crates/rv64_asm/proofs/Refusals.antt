-- Each pass refuses by the text's fault.
use Rattle.std.proofs.Common.{ℕ, List, inl, inr}
use Rattle.rv64_asm.specs.declared.fault.AsmFault.{AsmFault}
use Rattle.rv64_asm.specs.declared.fault.AsmFault.TheVariants.{At, OutOfMemory}
use Rattle.rv64_asm.specs.Assembled.{IsRefusal}
use Rattle.rv64_asm.specs.Passes.{IsOwnRefusal, IsTargetRefusal}

pub own : (lines : List (List ℕ)) (e : AsmFault) → IsOwnRefusal lines e → IsRefusal lines e
own lines (At fault number) h = (h.0, h.1, inl h.2)
own lines OutOfMemory h = tt

pub target : (lines : List (List ℕ)) (e : AsmFault) → IsTargetRefusal lines e → IsRefusal lines e
target lines (At fault number) h = (h.0, h.1, inr h.2)
target lines OutOfMemory h = tt

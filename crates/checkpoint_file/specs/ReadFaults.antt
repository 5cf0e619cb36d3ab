-- Why the bytes of a file aren't read.
use Rattle.std.specs.Prelude.{◌≡◌, ◌<◌, ◌⊎◌, ℕ, Bool, true, false, List, Option, IfSome, length}
use Rattle.checkpoint_file.specs.Limits.{file_limit}
use Rattle.checkpoint_file.specs.declared.fault.FileFault.{FileFault}
use Rattle.checkpoint_file.specs.declared.fault.FileFault.TheVariants.{Form, Version, Seal, ForeignOrigin, NotReached, OverLimit, OutOfMemory, DeviceFailed}

-- F8: the source failed, or has more than the limit, where that is known; F7; no other
abbrev pub IsReadFault : Bool → Option (List ℕ) → FileFault → Type 0
IsReadFault failed left DeviceFailed = (failed ≡ true) ⊎ IfSome left (λ bytes. file_limit < length bytes)
IsReadFault failed left OutOfMemory = failed ≡ false
IsReadFault failed left Form = ⊥
IsReadFault failed left Version = ⊥
IsReadFault failed left Seal = ⊥
IsReadFault failed left ForeignOrigin = ⊥
IsReadFault failed left NotReached = ⊥
IsReadFault failed left OverLimit = ⊥

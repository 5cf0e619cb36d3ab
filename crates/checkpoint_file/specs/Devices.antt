-- What a put tells, what is written of some bytes, and why bytes aren't read.
use Rattle.std.specs.Prelude.{◌≡◌, ◌≤◌, ◌<◌, ◌&&◌, ℕ, Bool, true, false, nat_lt, nat_eq, List, length, take, Option, Result, Ok, Err, IfSome}
use Rattle.std.specs.Io.KnownBytes.{Appends}
use Rattle.checkpoint_file.specs.declared.device.source.Unread.{Unread}
use Rattle.checkpoint_file.specs.declared.device.source.Unread.TheVariants.{DeviceFailed, TooLong, OutOfMemory}
use Rattle.checkpoint_file.specs.Limits.{file_limit}

-- whether a put of so many bytes failed: by an error, or by taking none of at least one
abbrev pub put_fails : {E : Type 0} → ℕ → Result ℕ E → Bool
put_fails count (Ok taken) = nat_lt 0 count && nat_eq taken 0
put_fails count (Err e) = true

-- a beginning of the bytes was written
abbrev pub AppendsBeginning : Option (List ℕ) → Option (List ℕ) → List ℕ → Type 0
AppendsBeginning old new bytes = (k : ℕ) × (k ≤ length bytes) × Appends old new (take k bytes)

-- why the bytes aren't read: the device has failed, or more than the limit are left, where that is
-- known, or else there was no memory
abbrev pub IsUnread : Bool → Option (List ℕ) → Unread → Type 0
IsUnread failed left DeviceFailed = failed ≡ true
IsUnread failed left TooLong = (failed ≡ false) × IfSome left (λ bytes. file_limit < length bytes)
IsUnread failed left OutOfMemory = failed ≡ false

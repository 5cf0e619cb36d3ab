-- Why a text isn't admitted. Each case says what passed before, so that it is the first fault in the order
-- F2, F1, F3, F4, F6, F5.
use Rattle.std.specs.Prelude.{◌≡◌, ◌≢◌, ℕ, ◌<◌, ◌≤◌, List}
use Rattle.checkpoint_file.specs.Reached.{AreReached}
use Rattle.checkpoint_file.specs.Texts.{CheckpointValue, IsValueOf, body_of, digest_of}
use Rattle.checkpoint_file.specs.Versions.{IsOtherVersion}
use Rattle.checkpoint_file.specs.declared.fault.FileFault.{FileFault}
use Rattle.checkpoint_file.specs.declared.fault.FileFault.TheVariants.{Form, Version, Seal, ForeignOrigin, NotReached, OverLimit, OutOfMemory, DeviceFailed}
use Rattle.join_law.specs.Eight.{place_of}
use Rattle.origin_set.specs.OriginValue.{OriginValue}
use Rattle.sha2.specs.Sha256.{sha256}

-- the text is this checkpoint's, and its seal is true
pub record IsSealed (text : List ℕ) (value : CheckpointValue) : Type 0 where
  pub value_of : IsValueOf text value
  pub seal : value.seal ≡ sha256 (body_of value)

-- and its origin has this digest
pub record IsOfOrigin (text : List ℕ) (origin : OriginValue) (value : CheckpointValue) : Type 0 where
  pub sealed : IsSealed text value
  pub digest : value.digest ≡ digest_of origin

-- and no count is over the limit
pub record IsWithin (text : List ℕ) (origin : OriginValue) (limit : ℕ) (value : CheckpointValue) : Type 0 where
  pub of_origin : IsOfOrigin text origin value
  pub counts : (i : ℕ) → i < 8 → (place_of value.contexts i).count ≤ limit

-- a count is over the limit
pub record IsOver (limit : ℕ) (value : CheckpointValue) : Type 0 where
  pub context : ℕ
  pub below : context < 8
  pub over : limit < (place_of value.contexts context).count

-- the fault stands, and none before it
abbrev pub IsFileFault : List ℕ → OriginValue → ℕ → FileFault → Type 0
IsFileFault text origin limit Version = IsOtherVersion text
IsFileFault text origin limit Form = (IsOtherVersion text → ⊥) × ((value : CheckpointValue) → IsValueOf text value → ⊥)
IsFileFault text origin limit Seal = (value : CheckpointValue) × IsValueOf text value × (value.seal ≢ sha256 (body_of value))
IsFileFault text origin limit ForeignOrigin = (value : CheckpointValue) × IsSealed text value × (value.digest ≢ digest_of origin)
IsFileFault text origin limit OverLimit = (value : CheckpointValue) × IsOfOrigin text origin value × IsOver limit value
IsFileFault text origin limit NotReached = (value : CheckpointValue) × IsWithin text origin limit value × (AreReached origin value.contexts → ⊥)
IsFileFault text origin limit OutOfMemory = (value : CheckpointValue) × IsWithin text origin limit value
IsFileFault text origin limit DeviceFailed = ⊥

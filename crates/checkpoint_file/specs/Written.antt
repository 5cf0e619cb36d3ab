-- What is written to a sink and hashed beside.
use Rattle.std.specs.Prelude.{◌≡◌, ℕ, Bool, true, false, List, ◌++◌, Option, Result, Ok, Err}
use Rattle.std.specs.Io.KnownBytes.{Appends}
use Rattle.checkpoint_file.specs.Devices.{AppendsBeginning}
use Rattle.checkpoint_file.specs.declared.device.sink.Failed.{Failed}
use Rattle.sha2.specs.Hashers.{Holds256}
use Rattle.sha2.specs.declared.Sha256.{Sha256}

-- all of the text was written, and the sink works
pub record PutsAll (old new : Option (List ℕ)) (failed : Bool) (text : List ℕ) : Type 0 where
  pub bytes : Appends old new text
  pub works : failed ≡ false

-- a beginning of it was written, and the sink failed
pub record PutsSome (old new : Option (List ℕ)) (failed : Bool) (text : List ℕ) : Type 0 where
  pub bytes : AppendsBeginning old new text
  pub fails : failed ≡ true

-- all of it was written and hashed
pub record Wrote (old new : Option (List ℕ)) (failed : Bool) (before after : Sha256) (text : List ℕ) : Type 0 where
  pub puts : PutsAll old new failed text
  pub hashed : (message : List ℕ) → Holds256 before message → Holds256 after (message ++ text)

-- by the answer, all or a beginning was written
abbrev pub Puts : Option (List ℕ) → Option (List ℕ) → Bool → List ℕ → Result Unit Failed → Type 0
Puts old new failed text (Ok done) = PutsAll old new failed text
Puts old new failed text (Err e) = PutsSome old new failed text

-- and where all was, it was hashed
abbrev pub Writes : Option (List ℕ) → Option (List ℕ) → Bool → Sha256 → Sha256 → List ℕ → Result Unit Failed → Type 0
Writes old new failed before after text (Ok done) = Wrote old new failed before after text
Writes old new failed before after text (Err e) = PutsSome old new failed text

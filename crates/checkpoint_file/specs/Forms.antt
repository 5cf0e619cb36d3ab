-- What a program keeps of a checkpoint's text.
use Rattle.std.specs.Prelude.{◌≡◌, ℕ, List}
use Rattle.checkpoint_file.specs.ContextLines.{counts_of}
use Rattle.checkpoint_file.specs.FileFaults.{IsWithin}
use Rattle.checkpoint_file.specs.Texts.{CheckpointValue, IsValueOf}
use Rattle.origin_set.specs.OriginValue.{OriginValue}
use Rattle.checkpoint_file.specs.declared.reading.form.Form.{Form}

-- the digest, the counts and the seal
pub record IsFormOf (value : CheckpointValue) (form : Form) : Type 0 where
  pub digest : form.digest ≡ value.digest
  pub counts : form.counts ≡ counts_of value.contexts
  pub seal : form.seal ≡ value.seal

-- they are those of the checkpoint whose text it is
pub record HasForm (text : List ℕ) (form : Form) : Type 0 where
  pub value : CheckpointValue
  pub is_value : IsValueOf text value
  pub is_form : IsFormOf value form

-- and it has a true seal, the origin's digest and no count over the limit
pub record HasFormWithin (text : List ℕ) (origin : OriginValue) (limit : ℕ) (form : Form) : Type 0 where
  pub value : CheckpointValue
  pub within : IsWithin text origin limit value
  pub is_form : IsFormOf value form

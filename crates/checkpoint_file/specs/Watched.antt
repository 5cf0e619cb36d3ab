-- What a watched reader or writer shows.
use Rattle.std.specs.Prelude.{ℕ, Bool, List, string_bytes}
use Rattle.checkpoint_file.specs.declared.device.watched.Watched.{Watched}

-- the reader or writer itself
abbrev pub inner_of : {T A : Type 0} → Watched T A → T
inner_of w = w.inner

-- the bytes of its name
abbrev pub name_text : {T A : Type 0} → Watched T A → List ℕ
name_text w = string_bytes w.name

-- whether a call has failed
abbrev pub fails : {T A : Type 0} → Watched T A → Bool
fails w = w.failed

-- What is kept of a flight's end beside it.
use Rattle.std.specs.Prelude.{◌≡◌, ℕ, Bool, List}
use Rattle.core_view.specs.declared.entry.Entry.{Entry}
use Rattle.core_view.specs.Flight.{pc_past, is_open}

-- the pc at which fetch goes on after entries over a pc, and whether it does
pub record IsEnd (pc fetch_pc : ℕ) (goes_on : Bool) (es : List Entry) : Type 0 where
  pub pc_is : fetch_pc ≡ pc_past pc es
  pub open_is : goes_on ≡ is_open es

-- Which marks a merge refuses as foreign.
use Rattle.std.specs.Prelude.{Result, Ok, Err}
use Rattle.checkpoint.specs.MarkValue.{MarkValue}
use Rattle.checkpoint.specs.Further.{MarkKin}
use Rattle.checkpoint_book.specs.declared.fault.BookFault.{BookFault}
use Rattle.checkpoint_book.specs.declared.fault.BookFault.TheVariants.{ForeignOrigin, OutOfMemory}

-- the mark is refused as foreign exactly where it isn't kin to the opening mark
abbrev pub RefusesForeign : MarkValue → MarkValue → Result (Unit {0}) (MarkValue × BookFault) → Type 0
RefusesForeign opening mark (Ok done) = MarkKin opening mark
RefusesForeign opening mark (Err (back, ForeignOrigin)) = MarkKin opening mark → ⊥
RefusesForeign opening mark (Err (back, OutOfMemory)) = MarkKin opening mark

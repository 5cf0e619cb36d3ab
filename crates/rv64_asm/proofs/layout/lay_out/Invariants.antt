use Rattle.std.proofs.Common.{◌≡◌, length, take}
use Rattle.std.specs.Str.Lines.{lines}
use Rattle.rv64_asm.specs.Places.{IsWithinPages, StandBelow, behind}
use Rattle.rv64_asm.proofs.layout.lay_out.Given as goal

abbrev pub invariant-loop-line : goal.invariant-loop-line
invariant-loop-line g l = record {
  number : l.number ≡ length l.yielded;
  within : IsWithinPages l.place;
  laid : behind (take l.number (lines l.text)) ≡ record { place = l.place; labels = l.labels };
  stand : StandBelow (lines l.text) l.number;
}

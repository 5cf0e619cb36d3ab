use Rattle.std.proofs.Common.{◌≡◌, length, take}
use Rattle.std.specs.Str.Lines.{lines}
use Rattle.rv64_asm.specs.Places.{IsWithinPages, behind}
use Rattle.rv64_asm.specs.Written.{WrittenBelow}
use Rattle.rv64_asm.proofs.writing.write_lines.Given as goal

abbrev pub invariant-loop-line : goal.invariant-loop-line
invariant-loop-line g l = record {
  number : l.number ≡ length l.yielded;
  within : IsWithinPages l.place;
  placed : (behind (take l.number (lines l.text))).place ≡ l.place;
  word_count : length l.words.items ≡ l.place.words;
  byte_count : length l.bytes.items ≡ l.place.bytes;
  written : WrittenBelow (lines l.text) l.labels l.words.items l.bytes.items l.number;
}

use Rattle.std.proofs.Common.{◌≡◌, ℕ, ◌+◌, ◌<◌, length, get_or}
use Rattle.rename_file.proofs.registers.Registers.try_new.Given as goal

abbrev pub invariant-loop-number : goal.invariant-loop-number
invariant-loop-number g l = record {
  len : length l.free + 256 ≡ l.number;
  row : (i : ℕ) → i < length l.free → get_or l.free i 0 ≡ 256 + i;
}

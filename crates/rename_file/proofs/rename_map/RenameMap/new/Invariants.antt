use Rattle.std.proofs.Common.{◌≡◌, ℕ, ◌+◌, ◌*◌, ◌<◌, length}
use Rattle.std.specs.Prelude.{slice_index}
use Rattle.rename_file.proofs.rename_map.RenameMap.new.Given as goal

abbrev pub invariant-loop-rd : goal.invariant-loop-rd
invariant-loop-rd l = record {
  wide : length l.committed ≡ 32;
  zero : slice_index l.committed 0 ≡ l.context;
  others : (r : ℕ) → 0 < r → r < l.rd → slice_index l.committed r ≡ 31 * l.context + 7 + r;
}

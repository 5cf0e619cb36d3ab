use Rattle.std.proofs.Common.{◌≡◌, ℕ, ◌<◌, get_or, length}
use Rattle.core_context.specs.FrontLists.{front_fill}
use Rattle.core_back.specs.Machine.{no_track}
use Rattle.core_back.proofs.first.first_fills.Given as goal

abbrev pub invariant-loop-place : goal.invariant-loop-place
invariant-loop-place g l = record {
  each : (d : ℕ) → d < l.place → get_or l.fills d 0 ≡ front_fill (get_or l.tracks d no_track).context;
  eight : length l.fills ≡ 8;
}

use Rattle.std.proofs.Common.{◌≡◌, ◌+◌, ◌-◌, ◌≤◌, length}
use Rattle.core_view.specs.Flight.{pc_past}
use Rattle.core_back.proofs.Blocks.{GoesOn}
use Rattle.core_back.proofs.BlockTurns.{HasFetched}
use Rattle.std.specs.Prelude.{drop}
use Rattle.lawful_cycle.specs.Steps.{GoesBy, IsFollowedAt}
use Rattle.core_back.proofs.fetching.fetch_block.Given as goal

abbrev pub invariant-loop-number : goal.invariant-loop-number
invariant-loop-number g l = record {
  within : l.number ≤ l.most;
  fetched : HasFetched (g.G.Guess.may_answer l.fn.guess l.fn.context) l.fn.cycle l.fn.stamp l.fn.context l.number l.fn.track l.track (g.L.Listing.items l.fn.fetched) (g.L.Listing.items l.fetched);
  goes : GoesOn l.number l.track.context;
  pc : l.pc ≡ pc_past l.track.context.state.pc l.track.context.flight;
  long : length (g.L.Listing.items l.fetched) ≡ length (g.L.Listing.items l.fn.fetched) + l.number;
  queried : GoesBy (IsFollowedAt g.G.Guess.answer g.G.Guess.after_guess l.fn.context) (drop (length l.fn.track.context.flight) l.track.context.flight) l.fn.guess l.guess;
}

abbrev pub decreases-loop-number : goal.decreases-loop-number
decreases-loop-number g l = l.most - l.number

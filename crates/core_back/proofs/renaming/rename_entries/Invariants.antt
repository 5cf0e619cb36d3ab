use Rattle.std.proofs.Common.{◌≡◌, ◌≤◌, length}
use Rattle.data_flow.specs.Flow.{lane}
use Rattle.core_context.specs.Left.{IsIdleCore}
use Rattle.core_back.specs.Fetched.{IsRunOf}
use Rattle.core_back.proofs.renaming.rename_entries.Given as goal

-- each turn lists an entry more
abbrev pub invariant-loop-turn : goal.invariant-loop-turn
invariant-loop-turn g l = record {
  core : IsIdleCore l.flow l.context l.track;
  room : (lane l.flow l.context).room ≡ l.profile.reorder_buffer;
  listed : length (g.L.Listing.items l.renamed) ≡ l._turn;
  within : l._turn ≤ l.width;
  run : IsRunOf l.profile l.cycle l.context l.limit l.width l.fn.flow l.fn.track l.flow l.track (g.L.Listing.items l.fn.renamed) (g.L.Listing.items l.renamed);
}

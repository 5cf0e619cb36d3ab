use Rattle.std.proofs.Common.{◌≡◌, ℕ, ◌-◌, ◌<◌, ◌≤◌, ◌==◌, ◌&&◌, false}
use Rattle.core_view.specs.Flight.{is_queued}
use Rattle.flight.specs.Flights.{entry_in}
use Rattle.core_context.proofs.track.Track.queued_place.Given as goal

abbrev pub invariant-loop-place : goal.invariant-loop-place
invariant-loop-place g l = record { few : l.from ≤ 64; none : (i : ℕ) → i < l.from → (((entry_in l.self-inside.flight.entries i).stamp == l.stamp) && is_queued (entry_in l.self-inside.flight.entries i).stage) ≡ false }

abbrev pub decreases-loop-place : goal.decreases-loop-place
decreases-loop-place g l = 64 - l.from

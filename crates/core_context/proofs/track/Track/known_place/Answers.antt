use Rattle.std.proofs.Common.{◌≡◌, get_or, ◌<◌, length, subst}
use Rattle.std.specs.Prelude.{Option, Some, None, IfSome}
use Rattle.core_view.specs.View.{entry_at, no_entry}
use Rattle.core_context.specs.Track.{Track}
use Rattle.core_context.proofs.track.Track.known_place.Goals as goal

-- two facts on a value that may be there
both : {A : Type 0} (P Q : A → Type 0) (o : Option A) → IfSome o P → IfSome o Q → IfSome o (λ x. P x × Q x)
both P Q None p q = tt
both P Q (Some x) p q = (p, q)

pub returns : goal.returns
returns g c =
    record { found = subst (λ (t : Track). IfSome c.known_waiting.result (λ i. (i < length t.context.flight) × ((entry_at t.context i).stamp ≡ c.args.stamp))) c.self.view_is (both (λ i. i < length c.self.inside.flight.entries) (λ i. (get_or c.self.inside.flight.entries i no_entry).stamp ≡ c.args.stamp) c.known_waiting.result c.known_waiting.ensures.within c.known_waiting.ensures.stamp) }

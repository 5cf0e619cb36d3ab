use Rattle.std.proofs.Common.{◌≡◌, List, [], ap, ◌∙◌, refl, arith, false}
use Rattle.circular_buffer.specs.Buffer.{Buffer}
use Rattle.core_view.specs.declared.entry.Entry.{Entry}
use Rattle.flight.proofs.Kept.{flight-none}
use Rattle.reorder_buffer.specs.Growing.{below}
use Rattle.std.specs.Prelude.{nat_lt}
use Rattle.std.proofs.lemmas.Bool.{le-ltb}
use Rattle.std.proofs.Common.{◌∷◌}
use Rattle.flight.proofs.flight.Flight.clear.Goals as goal

-- no stamp is below 0
below-zero : (es : List Entry) → below (λ (e : Entry). e.stamp) 0 es ≡ []
below-zero [] = refl
below-zero (e ∷ es) =
    let first : nat_lt e.stamp 0 ≡ false = le-ltb e.stamp 0 (omega arith) in
    rw first (below-zero es)

pub invariant_of-self : goal.invariant_of-self
invariant_of-self g c =
    let none : c.cut_from.new.self.items ≡ [] = ap (λ (b : Buffer Entry). b.items) c.cut_from.ensures.below ∙ below-zero c.self.inside.ring.items in
    (rw (none, c.new-self-inside.ensures) (flight-none c.self.inside.base c.self.inside.hints), rw none refl)

pub returns : goal.returns
returns g c = rw (← c.self.view_is, c.cut_from.ensures.below, below-zero c.self.inside.ring.items) refl

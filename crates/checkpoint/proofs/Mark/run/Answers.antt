use Rattle.std.proofs.Common.{ap}
use Rattle.std.specs.Arc.{arc_value}
use Rattle.checkpoint.specs.MarkValue.{MarkValue}
use Rattle.checkpoint.proofs.Advanced.{within, reaches, advances}
use Rattle.checkpoint.proofs.Mark.run.Goals as goal

pub invariant_of-self : goal.invariant_of-self
invariant_of-self g c =
    let origin = arc_value c.self.inside.origin in (
      within _ _ _ _ _ _ _ _ (ap (λ (m : MarkValue). m.count) c.self.view_is) c.requires c.run_counted.ensures.count c.run_counted.ensures.ran,
      reaches _ _ _ _ _ _ _ origin c.self.inside.context c.run_counted.ensures.count c.self.invariant.1 c.run_counted.ensures.ran,
    )

pub returns : goal.returns
returns g c =
    rw (← c.self.view_is) (advances _ _ _ _ _ _ _ (arc_value c.self.inside.origin) c.self.inside.context c.run_counted.ensures.count c.self.invariant.1 c.run_counted.ensures.ran)

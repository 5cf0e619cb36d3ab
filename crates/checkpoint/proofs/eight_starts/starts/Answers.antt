use Rattle.std.specs.Arc.{arc_value}
use Rattle.checkpoint.proofs.StartLemmas.{are_starts, starts_are_aligned}
use Rattle.checkpoint.proofs.eight_starts.starts.Goals as goal

pub returns-clause-ok : goal.returns-clause-ok
returns-clause-ok g c =
    let a = c.in_ok-low.ensures.ok in
    let b = c.in_ok-high.ensures.ok in
    rw c.eight_of.ensures (are_starts (arc_value c.args.origin.now) _ a.0 a.1 a.2 a.3 b.0 b.1 b.2 b.3)

pub returns-clause-aligned : goal.returns-clause-aligned
returns-clause-aligned g c = starts_are_aligned (arc_value c.args.origin.now) _ (returns-clause-ok g c)

use Rattle.std.specs.Arc.{arc_value}
use Rattle.std.proofs.lemmas.Result.{IfOk-weaker}
use Rattle.checkpoint.proofs.StartLemmas.{start_at}
use Rattle.checkpoint.proofs.eight_starts.low_starts.Goals as goal

pub returns-clause-ok : goal.returns-clause-ok
returns-clause-ok g c =
    let origin = arc_value c.args.origin.now in
    IfOk-weaker c.four_starts.result _ _ (λ marks h. (
      start_at origin c.all.result 0 _ _ c.all.ensures h.0,
      start_at origin c.all.result 1 _ _ c.all.ensures h.1,
      start_at origin c.all.result 2 _ _ c.all.ensures h.2,
      start_at origin c.all.result 3 _ _ c.all.ensures h.3,
    )) c.four_starts.ensures.ok

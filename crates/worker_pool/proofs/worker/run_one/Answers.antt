use Rattle.std.proofs.Common.{◌++◌, ◌∷◌, [], ℕ, List, Option, subst, sym}
use Rattle.worker_pool.specs.Results.{AreResults}
use Rattle.worker_pool.proofs.Results.{results_push, results_refused}
use Rattle.worker_pool.proofs.worker.run_one.Goals as goal

pub returns-in-Ok-clause-logged : goal.returns-in-Ok-clause-logged
returns-in-Ok-clause-logged g c = let l = c.requires.logged in (
  l.0 ++ c.in-Ok.result ∷ [],
  subst (λ (es : List (ℕ × Option _)). AreResults (g.W.Work.gives c.args.work.now) es (l.0 ++ c.in-Ok.result ∷ [])) (sym c.push_reserved.ensures.items)
      (results_push (g.W.Work.gives c.args.work.now) c.args.log.ends.items l.0 c.args.job c.in-Ok.note c.in-Ok.result l.1 (c.in-Ok.ensures.gives)),
  c.summed.ensures l.0 l.2,
)

pub returns-in-Err-clause-logged : goal.returns-in-Err-clause-logged
returns-in-Err-clause-logged g c = let l = c.requires.logged in (
  l.0,
  subst (λ (es : List (ℕ × Option _)). AreResults (g.W.Work.gives c.args.work.now) es l.0) (sym c.push_reserved-in-Err.ensures.items)
      (results_refused (g.W.Work.gives c.args.work.now) c.args.log.ends.items l.0 c.args.job l.1),
  l.2,
)

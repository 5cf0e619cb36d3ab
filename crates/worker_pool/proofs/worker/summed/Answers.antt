use Rattle.std.proofs.Common.{◌++◌, ◌∷◌, [], Option, Some, subst, sym}
use Rattle.worker_pool.specs.Results.{IsSumOf}
use Rattle.worker_pool.proofs.Results.{total_kin, sum_first, sum_more}
use Rattle.worker_pool.proofs.worker.summed.Goals as goal

pub join-requires : goal.join-requires
join-requires g c = let h = c.requires.so_far in total_kin g.met.J.Join.laws (g.W.Work.gives c.args._work.now) c.requires.kin h.0 c.in-Some.total c.args.value c.args.job (subst (λ (t : Option _). IsSumOf (g.W.Work.gives c.args._work.now) g.J.Join.is_kin g.J.Join.joined h.0 t) c.in-Some.is h.1) c.requires.gives

pub returns-in-None : goal.returns-in-None
returns-in-None g c = λ rs h. sum_first g.met.J.Join.laws (g.W.Work.gives c.args._work.now) c.requires.kin rs c.args.value c.args.job c.requires.gives (subst (λ (t : Option _). IsSumOf (g.W.Work.gives c.args._work.now) g.J.Join.is_kin g.J.Join.joined rs t) c.in-None.is h)

pub returns-in-Some : goal.returns-in-Some
returns-in-Some g c = λ rs h. subst (λ (t : _). IsSumOf (g.W.Work.gives c.args._work.now) g.J.Join.is_kin g.J.Join.joined (rs ++ c.args.value ∷ []) (Some t)) (sym c.join.ensures)
    (sum_more g.met.J.Join.laws (g.W.Work.gives c.args._work.now) c.requires.kin rs c.in-Some.total c.args.value c.args.job c.requires.gives (subst (λ (t : Option _). IsSumOf (g.W.Work.gives c.args._work.now) g.J.Join.is_kin g.J.Join.joined rs t) c.in-Some.is h))

use Rattle.std.proofs.Common.{◌++◌, Option, subst, sym}
use Rattle.join_law.specs.JoinOf.{IsJoinOf}
use Rattle.worker_pool.specs.Results.{IsSumOf}
use Rattle.worker_pool.proofs.Results.{sum_kin, sum_none, sum_joined, joined_kin}
use Rattle.worker_pool.proofs.collect.added.Goals as goal

pub join-requires : goal.join-requires
join-requires g c = let h = c.requires.sum in
    sum_kin g.met.J.Join.laws (g.W.Work.gives c.args._work.now) h.0 c.args.total c.in-Some.sum c.requires.kin (subst (λ (t : Option _). IsSumOf (g.W.Work.gives c.args._work.now) g.J.Join.is_kin g.J.Join.joined h.0 t) c.in-Some.is h.1)

pub returns-in-None-clause-join : goal.returns-in-None-clause-join
returns-in-None-clause-join g c = λ before rs is h.
    sum_none g.met.J.Join.laws (g.W.Work.gives c.args._work.now) before rs c.args.total is (subst (λ (t : Option _). IsSumOf (g.W.Work.gives c.args._work.now) g.J.Join.is_kin g.J.Join.joined rs t) c.in-None.is h)

pub returns-in-Some-clause-join : goal.returns-in-Some-clause-join
returns-in-Some-clause-join g c = λ before rs is h. subst (λ (t : _). IsJoinOf g.J.Join.is_kin g.J.Join.joined (before ++ rs) t) (sym c.join.ensures)
    (sum_joined g.met.J.Join.laws (g.W.Work.gives c.args._work.now) before rs c.args.total c.in-Some.sum c.requires.kin is (subst (λ (t : Option _). IsSumOf (g.W.Work.gives c.args._work.now) g.J.Join.is_kin g.J.Join.joined rs t) c.in-Some.is h))

pub returns-in-Some-clause-kin : goal.returns-in-Some-clause-kin
returns-in-Some-clause-kin g c = λ k r gives. subst (λ (t : _). g.J.Join.is_kin t r) (sym c.join.ensures)
    (joined_kin g.met.J.Join.laws (g.W.Work.gives c.args._work.now) c.args.total c.in-Some.sum r
    (let h = c.requires.sum in sum_kin g.met.J.Join.laws (g.W.Work.gives c.args._work.now) h.0 c.args.total c.in-Some.sum c.requires.kin (subst (λ (t : Option _). IsSumOf (g.W.Work.gives c.args._work.now) g.J.Join.is_kin g.J.Join.joined h.0 t) c.in-Some.is h.1))
    (c.requires.kin k r gives))

use Rattle.std.proofs.Common.{arith, ◌∙◌, length-set}
use Rattle.worker_pool.proofs.Thieves.{deques_set, taken_set}
use Rattle.worker_pool.proofs.row.steal_one.Goals as goal

pub returns-in-Some-clause-same : goal.returns-in-Some-clause-same
returns-in-Some-clause-same g c = let i = c.loop-passed.invariant in let many = i.many in let at = c.turned.ensures in
    deques_set c.loop-passed.row.items c.turned.result _ c.steal.new.self (omega arith) c.index_mut.ensures.value c.in-Some.ensures.same ∙ i.same

pub returns-in-Some-clause-taken : goal.returns-in-Some-clause-taken
returns-in-Some-clause-taken g c = λ h. let i = c.loop-passed.invariant in let many = i.many in let at = c.turned.ensures in
    let s = taken_set h c.loop-passed.row.items c.turned.result _ c.steal.new.self (omega arith) c.index_mut.ensures.value in
    let t = c.in-Some.ensures.taken h in let u = i.taken h in omega arith

pub loop-passed-preserved : goal.loop-passed-preserved
loop-passed-preserved g c = let i = c.loop-passed.invariant in let m = i.many in let at = c.turned.ensures in record {
  many = length-set c.loop-passed.row.items c.turned.result c.steal.new.self ∙ m;
  same = deques_set c.loop-passed.row.items c.turned.result _ c.steal.new.self (omega arith) c.index_mut.ensures.value c.in_default.ensures.same ∙ i.same;
  taken = λ h.
      let s = taken_set h c.loop-passed.row.items c.turned.result _ c.steal.new.self (omega arith) c.index_mut.ensures.value in
      let t = c.in_default.ensures.taken h in let u = i.taken h in omega arith;
}

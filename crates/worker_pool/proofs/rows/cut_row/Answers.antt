use Rattle.std.proofs.Common.{arith, ap, ◌∙◌, ◌<◌, suc, length, length-set}
use Rattle.std.specs.List.{sum_by}
use Rattle.std.proofs.lemmas.List.Sums.{sum_by_push}
use Rattle.crossbeam_deque.specs.Handles.{view}
use Rattle.worker_pool.specs.declared.thief.Thief.{Thief}
use Rattle.worker_pool.specs.Thieves.{taken_in, deques_of}
use Rattle.worker_pool.specs.Owners.{IsOwner}
use Rattle.worker_pool.proofs.Owners.{dealt_set, taken_by_set, owned_set, done_set, left_set, row_next, fewer, still}
use Rattle.worker_pool.proofs.rows.cut_row.Goals as goal

pub loop-next-preserved : goal.loop-next-preserved
loop-next-preserved c =
    let i = c.loop-next.invariant in
    let os = c.loop-next.owners.items in
    let n = c.loop-next.next in
    let now = c.index_mut.result.now in
    let new = c.cut_one.new.owner in
    let is = c.index_mut.ensures.value in
    let cut = c.in_ok-thief.ensures in
    let push = c.push_reserved.ensures in
    let l : n < length os = let t = c.loop-next-test.true in let len = c.len-in-loop-next.ensures in let ok = c.loop-next.owners.ok.0 in omega arith in
    let set_len = length-set os n new in
    let init = c.args.owners.now.items in
    record {
      room = (let cap = push.capacity in let r = i.room in omega arith);
      count = (let a = push.len in let b = i.count in omega arith);
      few = omega arith;
      many = set_len ∙ i.many;
      row = ap deques_of push.items ∙ row_next c.loop-next.row.items c.in_ok-thief.thief os init n now i.row i.same l is cut.deque;
      none = λ h.
          let p = sum_by_push (λ (t : Thief). sum_by h (view t.pass).taken) c.loop-next.row.items c.in_ok-thief.thief in
          let e = ap (taken_in h) push.items in
          let z = ap (sum_by h) cut.none in
          let o = i.none h in omega arith;
      same = owned_set os n now new is cut.same.0 ∙ i.same;
      jobs = λ h.
          let d = dealt_set h os n now new l is in
          let t = taken_by_set h os n now new l is in
          let e = ap (sum_by h) cut.jobs.0 in
          let f = ap (sum_by h) cut.jobs.1 in
          let o = i.jobs h in (omega arith, omega arith);
      done = λ p k d all few. done_set (IsOwner p) os n k new d l (fewer p now new cut.same.1 cut.part (still (IsOwner (suc p)) os init n now all i.many l is (i.left n now (omega arith)))) (i.done p k d all) few;
      left = λ k d few. left_set os init n k new d (i.left k d (omega arith)) few;
    }

pub returns-clause-parts : goal.returns-clause-parts
returns-clause-parts c = λ p all k d l. let i = c.loop-next.invariant in let t = c.loop-next-test.false in let len = c.len-in-loop-next.ensures in let ok = c.loop-next.owners.ok.0 in i.done p k d all (omega arith)

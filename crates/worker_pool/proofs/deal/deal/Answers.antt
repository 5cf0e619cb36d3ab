use Rattle.std.proofs.Common.{arith, ◌∙◌, ◌<◌, ◌%◌, length, ap, sym, subst}
use Rattle.std.specs.List.{sum_by}
use Rattle.std.proofs.Math.Nat.{div-le_self, mod-lt}
use Rattle.std.proofs.lemmas.List.Elements.{All-set}
use Rattle.std.proofs.lemmas.List.Sums.{sum_by_push}
use Rattle.crossbeam_deque.specs.Handles.{worker_view}
use Rattle.worker_pool.specs.Rule.{whole}
use Rattle.worker_pool.specs.declared.hand.Hand.{Hand}
use Rattle.worker_pool.specs.Owners.{IsOwner}
use Rattle.worker_pool.proofs.Owners.{sum_numbers, dealt_set, taken_by_set}
use Rattle.worker_pool.proofs.deal.deal.Goals as goal
use Rattle.worker_pool.proofs.deal.deal.Goals.{In_ok-deal_one}

place : (c : In_ok-deal_one) → c.loop-job.job % c.args.workers < length c.loop-job.owners.items
place c = let m = mod-lt c.loop-job.job c.requires.workers in let n = c.loop-job.invariant.count in let ok = c.loop-job.owners.ok.0 in omega arith

old_owner : (c : In_ok-deal_one) → IsOwner whole c.index_mut.result.now
old_owner c = subst (IsOwner whole) (sym c.index_mut.ensures.value) (c.loop-job.invariant.owners (c.loop-job.job % c.args.workers) c.index_mut.result.now (place c))

pub overflow_add-jobs : goal.overflow_add-jobs
overflow_add-jobs c = let d = div-le_self c.args.jobs c.args.workers in let j = c.requires.jobs in omega arith

pub loop-job-preserved : goal.loop-job-preserved
loop-job-preserved c =
    let i = c.loop-job.invariant in
    let l = place (goal.at.loop-job-preserved c).In_ok-deal_one in
    let is = c.index_mut.ensures.value in
    let dealt = c.in_ok-deal_one.ensures.view in
    record {
      count = i.count;
      owners = All-set (IsOwner whole) c.loop-job.owners.items (c.loop-job.job % c.args.workers) c.deal_one.new.owner
          (let o = old_owner (goal.at.loop-job-preserved c).In_ok-deal_one in record { fifo = c.in_ok-deal_one.ensures.same.1 ∙ o.fifo; has = ap (λ (v : Hand). v.parts) dealt ∙ o.has }) i.owners;
      dealt = λ h.
          let s = dealt_set h c.loop-job.owners.items (c.loop-job.job % c.args.workers) c.index_mut.result.now c.deal_one.new.owner l is in
          let e = ap (λ (v : Hand). sum_by h v.dealt) dealt in
          let p = sum_by_push h (worker_view c.index_mut.result.now).dealt c.loop-job.job in
          let n = sum_numbers h c.loop-job.job in
          let o = i.dealt h in omega arith;
      taken = λ h.
          let s = taken_by_set h c.loop-job.owners.items (c.loop-job.job % c.args.workers) c.index_mut.result.now c.deal_one.new.owner l is in
          let e = ap (λ (v : Hand). sum_by h v.taken) dealt in
          let o = i.taken h in omega arith;
    }

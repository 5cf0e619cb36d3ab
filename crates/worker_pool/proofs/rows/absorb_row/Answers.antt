use Rattle.std.proofs.Common.{arith, sym, ap, ◌∙◌, ◌<◌, suc, length, length-set}
use Rattle.std.specs.List.{sum_by}
use Rattle.std.proofs.lemmas.List.Sums.{sum_by-cons}
use Rattle.crossbeam_deque.specs.Handles.{view}
use Rattle.worker_pool.specs.declared.thief.Thief.{Thief}
use Rattle.worker_pool.specs.Thieves.{taken_in}
use Rattle.worker_pool.specs.Owners.{IsOwner}
use Rattle.worker_pool.proofs.Owners.{dealt_set, taken_by_set, owned_set, done_set, left_set, thief_next, within_next, all_done, more, still}
use Rattle.worker_pool.proofs.rows.absorb_row.Goals as goal
use Rattle.worker_pool.proofs.rows.absorb_row.Goals.{After-index_mut}

within : (c : After-index_mut) → c.loop-thief.next < length c.loop-thief.owners.items
within c = let i = c.loop-thief.invariant in within_next _ _ c.in-Some.thief c.loop-thief.owners.items c.args.owners.now.items c.loop-thief.next i.row c.in-Some.ensures.steps.0 i.many

pub absorb_one-requires-clause-own : goal.absorb_one-requires-clause-own
absorb_one-requires-clause-own c =
    let i = c.loop-thief.invariant in
    (thief_next _ _ c.in-Some.thief c.loop-thief.owners.items c.args.owners.now.items c.loop-thief.next c.index_mut.result.now i.row c.in-Some.ensures.steps.0 i.same (within c) c.index_mut.ensures.value).0

pub loop-thief-preserved : goal.loop-thief-preserved
loop-thief-preserved c =
    let i = c.loop-thief.invariant in
    let os = c.loop-thief.owners.items in
    let n = c.loop-thief.next in
    let now = c.index_mut.result.now in
    let new = c.absorb_one.new.owner in
    let is = c.index_mut.ensures.value in
    let did = c.absorb_one.ensures in
    let steps = c.in-Some.ensures.steps.0 in
    let l = within (goal.at.loop-thief-preserved c).After-index_mut in
    let init = c.args.owners.now.items in
    record {
      many = length-set os n new ∙ i.many;
      row = (thief_next _ _ c.in-Some.thief os init n now i.row steps i.same l is).1;
      same = owned_set os n now new is did.same.0 ∙ i.same;
      dealt = λ h. let d = dealt_set h os n now new l is in let e = did.dealt h in let o = i.dealt h in omega arith;
      taken = λ h.
          let t = taken_by_set h os n now new l is in
          let e = did.taken h in
          let o = i.taken h in
          let s = ap (taken_in h) steps in
          let r = sum_by-cons (λ (t : Thief). sum_by h (view t.pass).taken) c.in-Some.thief c.next.new.self.rest.items in omega arith;
      done = λ p k d all few. done_set (IsOwner (suc p)) os n k new d l (more p now new did.same.1 did.part (still (IsOwner p) os init n now all i.many l is (i.left n now (omega arith)))) (i.done p k d all) few;
      left = λ k d few. left_set os init n k new d (i.left k d (omega arith)) few;
    }

pub returns-clause-parts : goal.returns-clause-parts
returns-clause-parts c = λ p all k d l. let i = c.loop-thief.invariant in i.done p k d all (all_done c.loop-thief.thief-iterator.rest.items c.loop-thief.owners.items c.args.owners.now.items c.loop-thief.next k i.row (sym c.loop-thief.thief-iterator.rest.ok.0 ∙ c.in-None.ensures.steps.0) i.many l)

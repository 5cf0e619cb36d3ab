use Rattle.std.proofs.Common.{arith, ap, subst, ◌≡◌, ◌∷◌, suc, All, List}
use Rattle.std.specs.List.{sum_by}
use Rattle.std.proofs.lemmas.List.Sums.{sum_by-cons}
use Rattle.crossbeam_deque.specs.Handles.{worker_view}
use Rattle.worker_pool.specs.Rule.{whole}
use Rattle.worker_pool.specs.Owners.{Owner, IsOwner, dealt_in, taken_by}
use Rattle.worker_pool.proofs.drain.drain.Goals as goal

rest_of : (xs ys : List Owner) (x : Owner) → xs ≡ x ∷ ys → All (IsOwner whole) xs → All (IsOwner whole) ys
rest_of xs ys x e all = λ k d l. (subst (All (IsOwner whole)) e all) (suc k) d (omega arith)

pub loop-owner-preserved : goal.loop-owner-preserved
loop-owner-preserved g c =
    let i = c.loop-owner.invariant in
    let steps = c.in-Some.ensures.steps.0 in
    record {
      owners = rest_of _ _ _ steps i.owners;
      left = λ h.
          let o = i.left h in
          let n = c.in_ok-left.ensures h in
          let d = ap (dealt_in h) steps in
          let t = ap (taken_by h) steps in
          let dc = sum_by-cons (λ (u : Owner). sum_by h (worker_view u).dealt) c.in-Some.owner c.next.new.self.rest.items in
          let tc = sum_by-cons (λ (u : Owner). sum_by h (worker_view u).taken) c.in-Some.owner c.next.new.self.rest.items in omega arith;
    }

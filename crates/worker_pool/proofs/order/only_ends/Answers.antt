use Rattle.std.proofs.Common.{arith, ap, sym, ◌∙◌, ◌≡◌, ◌++◌, ℕ, List, Option, map, length, append-nil}
use Rattle.std.proofs.lemmas.List.{nil_from_length, length-map}
use Rattle.worker_pool.specs.Numbers.{numbered}
use Rattle.worker_pool.proofs.Sorted.{numbered_ends}
use Rattle.worker_pool.proofs.NewRuns.{length-numbers}
use Rattle.worker_pool.proofs.order.only_ends.Goals as goal

pub loop-end-init : goal.loop-end-init
loop-end-init g c =
    let given = c.into_iter-end-iterator.ensures.into_iter_gives.0 in
    let made = c.in_ok-only.ensures in
    let len = ap length given in
    let jobs = ap length c.requires in
    let m = length-map c.args.ends.items (λ (e : ℕ × Option g.row.N.Denot). e.0) in
    let n = length-numbers 0 c.args.jobs in
    record {
      room = (let e = made.exact in omega arith);
      count = (let z = made.len in omega arith);
      ends = ap (λ (l : List (Option g.row.N.Denot)). l ++ map (λ (e : ℕ × Option g.row.N.Denot). e.1) c.into_iter-end-iterator.result.rest.items) made.items ∙ ap (λ (l : List (ℕ × Option g.row.N.Denot)). map (λ e. e.1) l) given;
    }

pub returns-clause-ends : goal.returns-clause-ends
returns-clause-ends g c =
    let i = c.loop-end.invariant in
    let none = nil_from_length _ (sym c.loop-end.end-iterator.rest.ok.0 ∙ c.in-None.ensures.steps.0) in
    let all : c.loop-end.only.items ≡ map (λ (e : ℕ × Option g.row.N.Denot). e.1) c.args.ends.items =
    sym (append-nil c.loop-end.only.items) ∙ (ap (λ (l : List (ℕ × Option g.row.N.Denot)). c.loop-end.only.items ++ map (λ e. e.1) l) (sym none) ∙ i.ends) in
    ap (numbered 0) all ∙ numbered_ends c.args.ends.items 0 c.args.jobs c.requires

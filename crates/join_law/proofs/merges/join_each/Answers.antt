use Rattle.std.proofs.Common.{append-nil, [], sym, ◌∙◌, ap, ◌≡◌, ◌++◌, ◌∷◌}
use Rattle.std.proofs.lemmas.List.{nil_from_length}
use Rattle.join_law.proofs.JoinLemmas.{IsJoinOf-one}
use Rattle.join_law.proofs.JoinOfOneMore.{taken_front, next_kin, next_joined}
use Rattle.join_law.proofs.merges.join_each.Goals as goal
use Rattle.join_law.proofs.merges.join_each.Goals.{In-Some}

pub loop-value-init : goal.loop-value-init
loop-value-init g c = IsJoinOf-one g.met.J.Join.laws c.args.first

-- what was taken, the value and what is left are all of them
made : (g : _) (c : In-Some g) → c.args.others.items ≡ c.loop-value.yielded ++ c.in-Some.value ∷ c.next.new.self.rest.items
made g c =
    sym c.into_iter-value-iterator.ensures.into_iter_gives.0
    ∙ taken_front _ _ _ c.loop-value.yielded_by
    ∙ ap (λ ys. c.loop-value.yielded ++ ys) c.in-Some.ensures.steps.0

pub join-total-requires : goal.join-total-requires
join-total-requires g c =
    next_kin g.met.J.Join.laws c.args.first c.args.others.items c.loop-value.yielded _ c.in-Some.value _ (made g c) c.requires c.loop-value.invariant

pub loop-value-preserved : goal.loop-value-preserved
loop-value-preserved g c =
    rw c.join-total.ensures (next_joined g.met.J.Join.laws c.args.first c.args.others.items c.loop-value.yielded _ c.in-Some.value _ (made g (goal.at.loop-value-preserved g c).In-Some) c.requires c.loop-value.invariant)

-- at the end all were taken
pub returns : goal.returns
returns g c =
    let none : c.loop-value.value-iterator.rest.items ≡ [] = nil_from_length _ (sym c.loop-value.value-iterator.rest.ok.0 ∙ c.in-None.ensures.steps.0) in
    let all : c.args.others.items ≡ c.loop-value.yielded =
    sym c.into_iter-value-iterator.ensures.into_iter_gives.0
    ∙ taken_front _ _ _ c.loop-value.yielded_by
    ∙ ap (λ ys. c.loop-value.yielded ++ ys) none
    ∙ append-nil c.loop-value.yielded in
    rw all c.loop-value.invariant

use Rattle.std.proofs.Common.{◌≡◌, ℕ, ◌+◌, ◌-◌, Bool, arith, ap, sym, ◌∙◌, refl}
use Rattle.std.specs.Prelude.{◌==◌, ◌&&◌, is_some}
use Rattle.core_view.specs.declared.note.EntryId.{EntryId}
use Rattle.core_view.specs.declared.outcome.Step.{Step}
use Rattle.core_view.specs.Events.{retire_event}
use Rattle.core_context.specs.Heads.{first_done, step_on}
use Rattle.core_back.specs.Machine.{Machine, context_at}
use Rattle.core_back.proofs.RetiredFronts.{next_stays}
use Rattle.core_back.proofs.RetireSteps.{turn_retires, turn_goes_on}
use Rattle.core_back.proofs.AlikeMachines.{alike_with}
use Rattle.core_back.proofs.retiring.retire_going.Given.{Over}
use Rattle.core_back.proofs.retiring.retire_going.Goals as goal
use Rattle.core_back.proofs.LearnedRuns.{learned_one}
use Rattle.core_back.proofs.retiring.retire_going.Goals.{then-next, else-next}

abbrev id_at : ℕ → ℕ → EntryId
id_at c k = record { context = c; stamp = k }

-- whether the context goes on is whether its oldest entry is done then
goes_on : (g : Over) (c : goal.After-push g) → c.if-next.goes_on ≡ is_some (first_done (context_at c.retire-gone.new.self c.args.context).flight)
goes_on g c =
    let none : Bool = c.retire-gone.result.dropped == 0 in
    (elim c.if-next.branch [
      | then-next w ↦ w.goes_on-is ∙ sym (ap (λ b. b && none) w.if-next.true)
      | else-next w ↦ w.goes_on-is ∙ w.if-next.false ∙ sym (ap (λ b. b && none) w.if-next.false)
    ]) ∙ next_stays c.args.machine.now c.retire-gone.new.self c.args.context (step_on (first_done (context_at c.args.machine.now c.args.context).flight)) c.is_next_done-next.result c.retire-gone.result.dropped
    c.requires.going c.retire-gone.ensures.retired c.retire-gone.ensures.dropped c.is_next_done-next.ensures

pub returns-clause-step : goal.returns-clause-step
returns-clause-step g c =
    let step : Step = step_on (first_done (context_at c.args.machine.now c.args.context).flight) in
    let fewer : c.args.left - 1 + 1 ≡ c.args.left = omega (arith, c.requires.some) in
    record {
      alike = alike_with c.args.machine.now c.retire-gone.new.self c.args.context (retire_event (context_at c.args.machine.now c.args.context) step) c.retire-gone.ensures.retired refl;
      idle = ap (λ (m : Machine). m.names) c.retire-gone.ensures.retired ∙ c.requires.idle;
      turn = λ s stamp b k room names live so_far.
          turn_goes_on s stamp b c.retire-gone.new.self c.args.context (k + 1) room (c.args.left - 1) names (g.L.Listing.items c.push.new.self) c.if-next.goes_on live
          (turn_retires s stamp b c.args.machine.now c.retire-gone.new.self c.args.context k room c.args.left names (g.L.Listing.items c.args.retired.now) live so_far step (c.args.left - 1) (g.L.Listing.items c.push.new.self)
          (id_at c.args.context c.retire-gone.result.stamp) c.requires.going c.retire-gone.ensures.retired fewer (ap (id_at c.args.context) c.retire-gone.ensures.stamp) c.push.ensures.items) (goes_on g c);
      more = λ on. sym (goes_on g c) ∙ on;
      counted = omega (arith, c.retire-gone.ensures.dropped);
      bound = omega arith;
    }

pub returns-clause-left : goal.returns-clause-left
returns-clause-left g c = omega (arith, c.requires.some)

pub returns-clause-trained : goal.returns-clause-trained
returns-clause-trained g c =
    learned_one g.G.Guess.after_learn c.args.machine.now c.retire-gone.new.self c.args.context c.retire-gone.result.stamp (g.L.Listing.items c.args.retired.now) (g.L.Listing.items c.push.new.self) c.args.guess.now c.retire-gone.new.guess
    c.requires.going c.retire-gone.ensures.retired c.retire-gone.ensures.stamp c.retire-gone.ensures.state c.push.ensures.items

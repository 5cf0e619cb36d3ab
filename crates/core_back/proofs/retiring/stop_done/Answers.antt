use Rattle.std.proofs.Common.{ap, sym, ◌∙◌, refl}
use Rattle.core_view.specs.Events.{stop_event}
use Rattle.core_back.specs.Machine.{Machine, context_at, with_context}
use Rattle.core_back.specs.Turn.{stopped_by}
use Rattle.core_back.proofs.RetiredFronts.{none_changed}
use Rattle.core_back.proofs.AlikeMachines.{alike_none, alike_with}
use Rattle.core_back.proofs.retiring.stop_done.Goals as goal

pub returns-in-Some-clause-alike : goal.returns-in-Some-clause-alike
returns-in-Some-clause-alike g c =
    alike_with c.args.machine.now c.stop.new.self c.args.context (stop_event (context_at c.args.machine.now c.args.context) c.in-Some.why) c.stop.ensures.stopped refl

pub returns-in-Some-clause-idle : goal.returns-in-Some-clause-idle
returns-in-Some-clause-idle g c = ap (λ (m : Machine). m.names) c.stop.ensures.stopped ∙ c.requires.idle

pub returns-in-Some-clause-stopped : goal.returns-in-Some-clause-stopped
returns-in-Some-clause-stopped g c =
    c.stop.ensures.stopped ∙ ap (λ o. with_context c.args.machine.now c.args.context (stopped_by o (context_at c.args.machine.now c.args.context))) (sym c.in-Some.ensures.stops)

pub returns-in-None-clause-alike : goal.returns-in-None-clause-alike
returns-in-None-clause-alike g c = alike_none c.args.machine.now

pub returns-in-None-clause-stopped : goal.returns-in-None-clause-stopped
returns-in-None-clause-stopped g c =
    none_changed c.args.machine.now c.args.context ∙ ap (λ o. with_context c.args.machine.now c.args.context (stopped_by o (context_at c.args.machine.now c.args.context))) (sym (c.in-None.ensures.goes refl))

use Rattle.std.proofs.Common.{sym, ◌∙◌}
use Rattle.data_flow.proofs.ReadyLoads.{contexts_shown, load_lacks}
use Rattle.data_flow.proofs.data_flow.DataFlow.contexts_with_ready_load.Goals as goal

pub returns-clause-value : goal.returns-clause-value
returns-clause-value g c = λ k. contexts_shown c.self.inside c.args.self.now c.contexts_with_ready_load.result k c.self.view_is c.self.invariant (c.contexts_with_ready_load.ensures.value k)

pub returns-clause-lacking : goal.returns-clause-lacking
returns-clause-lacking g c = λ k place none lt waits.
    load_lacks c.self.inside c.args.self.now k place c.self.view_is c.self.invariant
    (sym (contexts_shown c.self.inside c.args.self.now c.contexts_with_ready_load.result k c.self.view_is c.self.invariant (c.contexts_with_ready_load.ensures.value k)) ∙ none) lt waits

use Rattle.std.proofs.Common.{refl, sym, ◌∙◌}
use Rattle.core_context.proofs.Performed.{issued_with, store_goes}
use Rattle.core_context.proofs.accesses.perform_store.Goals as goal

pub returns : goal.returns
returns g c =
    let outcome = c.stores_at-outcome.ensures ∙ store_goes c.args.track.now.context c.args.place c.args.pc c.args.address c.args.value c.args.width c.requires.pc (sym c.in_default.is ∙ c.access_fault.ensures) in
    issued_with _ _ _ c.args.address c.args.cycle c.args.place c.stores_at-outcome.result _ c.args.track.now c.issue_other-2.new.self c.lag_of-lag.result c.due_after.result refl outcome c.lag_of-lag.ensures c.due_after.ensures c.issue_other-2.ensures

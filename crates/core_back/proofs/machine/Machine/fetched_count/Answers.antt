use Rattle.std.proofs.Common.{◌≡◌, ◌-◌, length, ap, arith}
use Rattle.std.specs.Prelude.{count_by}
use Rattle.core_view.specs.View.{Context}
use Rattle.lawful_cycle.specs.Fetch.{is_fetched}
use Rattle.core_context.proofs.Laws.{fetched_count}
use Rattle.core_back.proofs.Machines.{at_context}
use Rattle.core_back.proofs.machine.Machine.fetched_count.Goals as goal

pub returns-clause-value : goal.returns-clause-value
returns-clause-value g c =
    let h = at_context c.self.inside c.args.self.now c.args.context c.index.result c.index-track.result.now c.self.view_is c.self.invariant (omega (arith, c.index.ensures)) c.index.ensures.value c.index-track.ensures in
    let counted : count_by is_fetched c.index-track.result.now.context.flight ≡ length c.index-track.result.now.context.flight - c.index-track.result.now.renamed =
    fetched_count c.index-track.result.now.renamed c.index-track.result.now.context.flight h.core.are_renamed h.core.are_fetched in
    let same : count_by is_fetched c.index-track.result.now.context.flight ≡ count_by is_fetched (Rattle.core_back.specs.Machine.context_at c.args.self.now c.args.context).flight = ap (λ (x : Context). count_by is_fetched x.flight) h.context in
    omega (arith, c.len.ensures.value, c.renamed_count.ensures.value, c.renamed_count.ensures.bound, counted, same)

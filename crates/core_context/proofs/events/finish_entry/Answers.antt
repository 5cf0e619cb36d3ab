use Rattle.std.proofs.Common.{◌≡◌, sym, ap, ◌∙◌}
use Rattle.core_view.specs.Flight.{result_in}
use Rattle.core_view.specs.View.{entry_at}
use Rattle.core_view.specs.Stages.{execution_of}
use Rattle.data_flow.specs.Flow.{Flow, left_in}
use Rattle.core_context.specs.Steps.{finished_flow}
use Rattle.core_context.specs.Track.{Track}
use Rattle.core_context.proofs.Completes.{issued_known, cut_count}
use Rattle.core_context.proofs.events.finish_entry.Goals as goal
use Rattle.core_context.proofs.events.finish_entry.Goals.{in-Some, in_default}

pub complete-cut-requires-clause-sound : goal.complete-cut-requires-clause-sound
complete-cut-requires-clause-sound g c = c.requires.core.core.live.flight.sound

pub finish-requires : goal.finish-requires
finish-requires g c =
    let k = c.requires.core in
    issued_known k.start k.stamp k.reorder c.args.flow.now c.args.context c.args.track.now c.args.place (execution_of (entry_at c.args.track.now.context c.args.place).stage) k.core c.requires.place c.requires.issued

pub cut_from-requires : goal.cut_from-requires
cut_from-requires g c =
    let k = c.requires.core in
    let x = execution_of (entry_at c.args.track.now.context c.args.place).stage in
    let finished : c.match-result.flow ≡ finished_flow c.args.flow.now c.args.context c.args.place (result_in x.outcome) =
    elim c.match-result.branch [
      | in-Some w ↦ w.flow-is ∙ w.finish.ensures ∙ ap (finished_flow c.args.flow.now c.args.context c.args.place) (sym w.in-Some.is ∙ c.result_to_come-result.ensures)
      | in_default w ↦ w.flow-is ∙ ap (finished_flow c.args.flow.now c.args.context c.args.place) (sym w.in_default.is ∙ c.result_to_come-result.ensures)
    ] in
    let count = cut_count k.start k.stamp k.reorder c.args.flow.now c.args.context c.args.track.now c.args.place x k.has_lane k.core c.requires.place c.requires.issued c.in-Some-cut.stamp (sym c.complete-cut.ensures.cut ∙ c.in-Some-cut.is) in
    c.renamed_count.ensures.value ∙ ap (λ (t : Track). t.renamed) c.complete-cut.ensures.completed ∙ count ∙ ap (λ (f : Flow). left_in f c.args.context c.in-Some-cut.stamp) (sym finished)

use Rattle.std.proofs.Common.{◌≡◌, ◌≤◌, length, ap, subst, ◌∙◌, arith}
use Rattle.std.proofs.lemmas.List.{length-set}
use Rattle.core_view.specs.Events.{completed_entry}
use Rattle.core_view.specs.View.{entry_at}
use Rattle.core_view.specs.Stages.{execution_of}
use Rattle.core_context.specs.Track.{Track, completed}
use Rattle.core_context.specs.Steps.{cut_by}
use Rattle.core_context.proofs.Completes.{issued_known, issued_renamed, told_completed}
use Rattle.core_context.proofs.EventsKept.{complete_kept}
use Rattle.core_context.proofs.PlainCompletes.{plain_result, plain_flow}
use Rattle.core_context.proofs.Tracks.{complete_whole}
use Rattle.core_context.proofs.events.complete_plain.Goals as goal

pub finish_plain-requires-clause-sound : goal.finish_plain-requires-clause-sound
finish_plain-requires-clause-sound g c = c.requires.core.core.live.flight.sound

pub finish-requires : goal.finish-requires
finish-requires g c =
    let k = c.requires.core in
    issued_known k.start k.stamp k.reorder c.args.flow.now c.args.context c.args.track.now c.args.place (execution_of (entry_at c.args.track.now.context c.args.place).stage) k.core c.requires.place c.requires.issued

pub settle_freed-requires-clause-renamed : goal.settle_freed-requires-clause-renamed
settle_freed-requires-clause-renamed g c =
    let k = c.requires.core in
    let below = issued_renamed k.start k.stamp k.reorder c.args.flow.now c.args.context c.args.track.now c.args.place (execution_of (entry_at c.args.track.now.context c.args.place).stage) k.core c.requires.place c.requires.issued in
    omega (arith, below, ap (λ (t : Track). t.renamed) c.in_ok-finished.ensures.finished)

pub settle_freed-requires-clause-told : goal.settle_freed-requires-clause-told
settle_freed-requires-clause-told g c n le =
    let k = c.requires.core in
    let x = execution_of (entry_at c.args.track.now.context c.args.place).stage in
    let within = subst (λ (t : Track). t.renamed ≤ length t.context.flight) c.in_ok-finished.ensures.finished c.in_ok-finished.ensures.within in
    let done : c.finish_plain.new.self ≡ completed c.args.track.now c.args.place x = c.in_ok-finished.ensures.finished ∙ complete_whole c.args.track.now c.args.place x c.requires.place within c.in_ok-finished.ensures.kept in
    let flow : c.finish.new.self ≡ cut_by c.args.flow.now c.args.context c.args.place x c.args.track.now.context =
    plain_result c.args.flow.now c.finish.new.self c.finish.new.self c.args.context c.args.track.now c.args.track.now c.args.place c.in_ok-finished.finished.value x c.finish.ensures c.in_ok-finished.ensures.result c.in_ok-finished.ensures.kept in
    rw (done, flow) (told_completed k.start k.stamp k.reorder c.args.flow.now c.args.context c.args.track.now c.args.place x k.has_lane k.core c.requires.place c.requires.issued n le)

pub returns-clause-track : goal.returns-clause-track
returns-clause-track g c =
    let within = subst (λ (t : Track). t.renamed ≤ length t.context.flight) c.in_ok-finished.ensures.finished c.in_ok-finished.ensures.within in
    c.in_ok-finished.ensures.finished ∙ complete_whole c.args.track.now c.args.place (execution_of (entry_at c.args.track.now.context c.args.place).stage) c.requires.place within c.in_ok-finished.ensures.kept

pub returns-clause-kept : goal.returns-clause-kept
returns-clause-kept g c =
    ap (λ (t : Track). length t.context.flight) c.in_ok-finished.ensures.finished
    ∙ length-set c.args.track.now.context.flight c.args.place (completed_entry (entry_at c.args.track.now.context c.args.place) (execution_of (entry_at c.args.track.now.context c.args.place).stage))

pub returns-clause-event : goal.returns-clause-event
returns-clause-event g c =
    let k = c.requires.core in
    let x = execution_of (entry_at c.args.track.now.context c.args.place).stage in
    let within = subst (λ (t : Track). t.renamed ≤ length t.context.flight) c.in_ok-finished.ensures.finished c.in_ok-finished.ensures.within in
    let done : c.finish_plain.new.self ≡ completed c.args.track.now c.args.place x = c.in_ok-finished.ensures.finished ∙ complete_whole c.args.track.now c.args.place x c.requires.place within c.in_ok-finished.ensures.kept in
    let flow : c.finish.new.self ≡ cut_by c.args.flow.now c.args.context c.args.place x c.args.track.now.context =
    plain_result c.args.flow.now c.finish.new.self c.finish.new.self c.args.context c.args.track.now c.args.track.now c.args.place c.in_ok-finished.finished.value x c.finish.ensures c.in_ok-finished.ensures.result c.in_ok-finished.ensures.kept in
    let below = issued_renamed k.start k.stamp k.reorder c.args.flow.now c.args.context c.args.track.now c.args.place x k.core c.requires.place c.requires.issued in
    rw (
      done,
      plain_flow c.args.flow.now c.finish.new.self c.settle_freed.new.flow c.args.context c.args.track.now c.finish_plain.new.self c.args.place c.in_ok-finished.finished.value x c.first_open_guess-guess.result c.in_ok-finished.finished flow done
          c.in_ok-finished.ensures.frees (omega (arith, below, ap (λ (t : Track). t.renamed) c.in_ok-finished.ensures.finished)) c.in_ok-finished.ensures.within
          (λ n le. rw (done, flow) (told_completed k.start k.stamp k.reorder c.args.flow.now c.args.context c.args.track.now c.args.place x k.has_lane k.core c.requires.place c.requires.issued n le))
          c.first_open_guess-guess.ensures.before c.first_open_guess-guess.ensures.here c.settle_freed.ensures.freed c.settle_freed.ensures.same,
    )
    (complete_kept c.args.flow.now c.args.context c.args.track.now c.args.place x k.has_lane c.requires.place c.requires.issued)

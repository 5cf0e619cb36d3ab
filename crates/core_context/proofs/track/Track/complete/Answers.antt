use Rattle.std.proofs.Common.{◌<◌, ◌≤◌, ap, sym, subst, ◌∙◌, length, arith}
use Rattle.std.proofs.lemmas.List.{length-set}
use Rattle.core_view.specs.Events.{completed_entry}
use Rattle.reorder_buffer.specs.Growing.{IsGrowing}
use Rattle.core_view.specs.declared.entry.Entry.{Entry}
use Rattle.core_view.specs.View.{entry_at}
use Rattle.core_view.specs.Stages.{execution_of}
use Rattle.core_context.specs.Track.{Track, cut_at}
use Rattle.core_context.proofs.Tracks.{complete_whole, complete_cut, cut_behind}
use Rattle.core_context.proofs.track.Track.complete.Goals as goal

pub returns-in_err-stamp-clause-completed : goal.returns-in_err-stamp-clause-completed
returns-in_err-stamp-clause-completed g c =
    let within = subst (λ (t : Track). t.renamed ≤ length t.context.flight) c.finish.ensures.finished c.finish.ensures.bound in
    c.finish.ensures.finished ∙ complete_whole c.args.self.now c.args.place (execution_of (entry_at c.args.self.now.context c.args.place).stage) c.requires.place within (sym c.finish.ensures.cut ∙ c.in_err-stamp.was)

pub returns-clause-completed : goal.returns-clause-completed
returns-clause-completed g c =
    let growing = subst (λ (t : Track). IsGrowing (λ (e : Entry). e.stamp) t.context.flight) c.finish.ensures.finished c.finish.ensures.growing in
    c.cut_past.ensures ∙ ap (λ (t : Track). cut_at t c.in_ok-stamp.stamp) c.finish.ensures.finished
    ∙ complete_cut c.args.self.now c.args.place c.in_ok-stamp.stamp (execution_of (entry_at c.args.self.now.context c.args.place).stage) c.requires.place growing (sym c.finish.ensures.cut ∙ c.in_ok-stamp.was)

pub cut_past-requires-clause-kept : goal.cut_past-requires-clause-kept
cut_past-requires-clause-kept g c =
    let x = execution_of (entry_at c.args.self.now.context c.args.place).stage in
    let growing = subst (λ (t : Track). IsGrowing (λ (e : Entry). e.stamp) t.context.flight) c.finish.ensures.finished c.finish.ensures.growing in
    subst (λ (t : Track). (entry_at t.context c.args.place).stamp < c.in_ok-stamp.stamp) (sym c.finish.ensures.finished)
    (cut_behind c.args.self.now c.args.place c.in_ok-stamp.stamp x c.requires.place growing (sym c.finish.ensures.cut ∙ c.in_ok-stamp.was))

pub cut_past-requires-clause-place : goal.cut_past-requires-clause-place
cut_past-requires-clause-place g c =
    let x = execution_of (entry_at c.args.self.now.context c.args.place).stage in
    omega (arith, c.requires.place, ap (λ (t : Track). length t.context.flight) c.finish.ensures.finished, length-set c.args.self.now.context.flight c.args.place (completed_entry (entry_at c.args.self.now.context c.args.place) x))

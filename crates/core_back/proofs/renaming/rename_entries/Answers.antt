use Rattle.std.proofs.Common.{◌∙◌, ◌∷◌, ◌++◌, [], sym, subst, ap, arith, List}
use Rattle.core_view.specs.declared.note.EntryId.{EntryId}
use Rattle.core_back.specs.Fetched.{IsRunOf}
use Rattle.core_back.proofs.RenamedRuns.{run_none, run_more}
use Rattle.core_back.proofs.renaming.rename_entries.Goals as goal

pub loop-turn-init : goal.loop-turn-init
loop-turn-init g c = record {
  core = c.requires.core;
  room = c.requires.room;
  listed = sym c.len-turn.ensures.value;
  within = omega (arith, c.len-turn.ensures.value, c.requires.listed);
  run = run_none c.args.profile.now c.args.cycle c.args.context c.args.limit c.args.width c.args.flow.now c.args.track.now (g.L.Listing.items c.args.renamed.now) c.requires.listed;
}

pub loop-turn-preserved : goal.loop-turn-preserved
loop-turn-preserved g c =
    let i = c.loop-turn.invariant in
    let k = i.core in
    let event = c.rename.ensures.event in
    let core = event.kept k.start k.stamp k.reorder k.core in
    let listed = c.push.ensures.items ∙ ap (λ (entry : EntryId). g.L.Listing.items c.loop-turn.renamed ++ entry ∷ []) c.id_of.ensures in
    record {
      core = record { start = k.start; stamp = k.stamp; reorder = k.reorder; is_context = k.is_context; has_lane = omega (arith, k.has_lane, event.sizes.lanes); core = core };
      room = core.room ∙ sym k.core.room ∙ i.room;
      listed = omega (arith, c.push.ensures.len, i.listed);
      within = omega (arith, c.loop-turn-test.true);
      run = subst (λ (after : List EntryId). IsRunOf c.args.profile.now c.args.cycle c.args.context c.args.limit c.args.width c.args.flow.now c.args.track.now c.rename.new.flow c.rename.new.track (g.L.Listing.items c.args.renamed.now) after) (sym listed)
          (run_more c.args.profile.now c.args.cycle c.args.context c.args.limit c.args.width c.in-Some.stamp c.args.flow.now c.loop-turn.flow c.rename.new.flow c.args.track.now c.loop-turn.track c.rename.new.track (g.L.Listing.items c.args.renamed.now) (g.L.Listing.items c.loop-turn.renamed)
          (omega (arith, i.listed, c.loop-turn-test.true))
          (record { can = c.in-Some.ensures.can; within = c.in-Some.ensures.within; fetched = c.in-Some.ensures.fetched; after = c.in-Some.ensures.track; event = event }) i.run);
    }

use Rattle.std.proofs.Common.{◌≡◌, ℕ, ◌+◌, ◌≤◌, ◌∙◌, length, refl, ap, sym, subst, arith, List, get_or}
use Rattle.std.proofs.lemmas.List.{length-append, length-map}
use Rattle.core_view.specs.declared.entry.Entry.{Entry}
use Rattle.core_view.specs.View.{Context}
use Rattle.lawful_cycle.specs.Rename.{CanRename}
use Rattle.core_view.specs.declared.note.EntryId.{EntryId}
use Rattle.core_context.specs.FrontLists.{front_fill}
use Rattle.core_context.specs.Track.{Track}
use Rattle.core_back.specs.Machine.{Machine}
use Rattle.core_back.specs.Fetched.{ids_of, AreRenamed}
use Rattle.core_back.proofs.AlikeMachines.{alike_with}
use Rattle.core_back.proofs.InFlight.{in_flight_kept}
use Rattle.core_back.proofs.Machines.{At, at_context, fills_set, is_idle, machine_after_event, shown_after}
use Rattle.core_back.proofs.RenamedRuns.{IsRunAt, run_at, run_cannot}
use Rattle.core_back.proofs.machine.Machine.rename_run.Given.{Over}
use Rattle.core_back.proofs.machine.Machine.rename_run.Goals as goal
use Rattle.core_back.proofs.machine.Machine.rename_run.Goals.{After-index_mut-track, After-rename_entries}

-- the track and the lane of the context
here : (g : Over) (c : After-index_mut-track g) → At c.self.inside c.args.self.now c.args.context c.index_mut-track.result.now
here g c = at_context c.self.inside c.args.self.now c.args.context c.index.result c.index_mut-track.result.now c.self.view_is c.self.invariant (omega (arith, c.index.ensures)) c.index.ensures.value c.index_mut-track.ensures.value

-- what the run makes of the machine
run : (g : Over) (c : After-rename_entries g) → At c.self.inside c.args.self.now c.args.context c.index_mut-track.result.now → IsRunAt c.args.context c.args.limit c.self.inside c.args.self.now c.index_mut-track.result.now c.rename_entries.new.track c.rename_entries.new.flow c.rename_entries.ensures.run.stamps
run g c h =
    let r = c.rename_entries.ensures.run in
    run_at c.args.context c.args.limit (omega (arith, c.index.ensures)) r.stamps c.self.inside c.args.self.now c.index_mut-track.result.now c.rename_entries.new.track c.rename_entries.new.flow c.self.view_is c.self.invariant c.requires.idle h r.renamed

pub rename_entries-requires-clause-core : goal.rename_entries-requires-clause-core
rename_entries-requires-clause-core g c =
    let h = here g (goal.at.rename_entries-requires-clause-core g c).After-index_mut-track in
    is_idle c.self.inside c.args.self.now c.args.context c.index_mut-track.result.now c.self.view_is c.requires.idle (omega (arith, c.index.ensures)) h

pub rename_entries-requires-clause-room : goal.rename_entries-requires-clause-room
rename_entries-requires-clause-room g c =
    let h = here g (goal.at.rename_entries-requires-clause-room g c).After-index_mut-track in
    h.core.room

-- the front list had as many more as are listed now
fewer : (g : Over) (c : After-rename_entries g) → At c.self.inside c.args.self.now c.args.context c.index_mut-track.result.now → (k : ℕ) → k ≡ c.args.context
    → (get_or c.self.inside.fills k 0 + length (g.L.Listing.items c.args.renamed.now) ≡ front_fill c.rename_entries.new.track.context + length (g.L.Listing.items c.rename_entries.new.renamed)) × (length (g.L.Listing.items c.args.renamed.now) ≤ length (g.L.Listing.items c.rename_entries.new.renamed))
fewer g c h k at =
    let r = c.rename_entries.ensures.run in
    let s = run g c h in
    let ids : List EntryId = ids_of c.args.context r.stamps in
    let listed = ap (λ (is : List EntryId). length is) r.listed ∙ length-append (g.L.Listing.items c.args.renamed.now) ids in
    let count : length ids ≡ length r.stamps = length-map r.stamps (λ stamp. record { context = c.args.context; stamp = stamp }) in
    let was : get_or c.self.inside.fills k 0 ≡ front_fill c.index_mut-track.result.now.context =
    ap (λ i. get_or c.self.inside.fills i 0) at ∙ c.self.invariant.fills.each c.args.context (omega (arith, c.index.ensures)) ∙ ap (λ (t : Track). front_fill t.context) (sym h.track) in
    (omega (arith, was, s.fill, listed, count), omega (arith, listed))

pub overflow_sub-self-2 : goal.overflow_sub-self-2
overflow_sub-self-2 g c =
    let at = goal.at.overflow_sub-self-2 g c in
    let less = fewer g at.After-rename_entries (here g at.After-index_mut-track) c.index-place.result c.index-place.ensures.value in omega (arith, less.0, less.1)

pub invariant_of-self : goal.invariant_of-self
invariant_of-self g c =
    let at = goal.at.invariant_of-self g c in
    let h = here g at.After-index_mut-track in
    let less = fewer g at.After-rename_entries h c.index-place.result c.index-place.ensures.value in
    machine_after_event c.self.inside _ c.args.self.now c.args.context c.index.result c.index_mut-track.result.now c.rename_entries.new.track c.rename_entries.new.flow c.self.view_is c.self.invariant c.requires.idle (omega (arith, c.index.ensures)) h (run g at.After-rename_entries h).event
    c.index.ensures.value refl refl refl refl refl refl refl refl
    (fills_set c.self.inside.fills c.self.inside.tracks.items c.args.context c.index-place.result _ c.rename_entries.new.track c.self.invariant.fills (omega (arith, c.index.ensures)) c.self.invariant.tracks c.index-place.ensures.value
    (omega (arith, less.0, less.1)))

pub returns-clause-run : goal.returns-clause-run
returns-clause-run g c =
    let at = goal.at.returns-clause-run g c in
    let r = c.rename_entries.ensures.run in
    let s = run g at.After-rename_entries (here g at.After-index_mut-track) in
    let shown = shown_after c.self.inside c.args.self.now c.args.context c.index.result c.rename_entries.new.track c.rename_entries.new.track.context c.self.view_is c.index.ensures.value refl in
    record { stamps = r.stamps; renamed = subst (λ (n : Machine). AreRenamed c.args.context c.args.limit c.args.self.now r.stamps n) (sym shown) s.renamed; listed = r.listed; most = r.most }

pub returns-clause-cannot : goal.returns-clause-cannot
returns-clause-cannot g c fewer =
    let at = goal.at.returns-clause-cannot g c in
    let h = here g at.After-index_mut-track in
    let s = run g at.After-rename_entries h in
    let shown = shown_after c.self.inside c.args.self.now c.args.context c.index.result c.rename_entries.new.track c.rename_entries.new.track.context c.self.view_is c.index.ensures.value refl in
    subst (λ (n : Machine). (e : Entry) → e.stamp ≤ c.args.limit → ¬ (CanRename n.view c.args.context e)) (sym shown)
    (run_cannot c.args.context c.args.limit (omega (arith, c.index.ensures)) c.self.inside c.args.self.now c.index_mut-track.result.now c.rename_entries.new.track c.rename_entries.new.flow c.self.view_is c.self.invariant c.requires.idle h s.event (c.rename_entries.ensures.cannot fewer))

pub returns-clause-flights : goal.returns-clause-flights
returns-clause-flights g c =
    let at = goal.at.returns-clause-flights g c in
    let h = here g at.After-index_mut-track in
    let s = run g at.After-rename_entries h in
    let shown = shown_after c.self.inside c.args.self.now c.args.context c.index.result c.rename_entries.new.track c.rename_entries.new.track.context c.self.view_is c.index.ensures.value refl in
    in_flight_kept c.self.inside c.args.self.now _ c.args.context c.rename_entries.new.track.context c.self.view_is h.in_tracks shown (s.long ∙ ap (λ (x : Context). length x.flight) h.context)

pub returns-clause-alike : goal.returns-clause-alike
returns-clause-alike g c =
    let at = goal.at.returns-clause-alike g c in
    let h = here g at.After-index_mut-track in
    let s = run g at.After-rename_entries h in
    let shown = shown_after c.self.inside c.args.self.now c.args.context c.index.result c.rename_entries.new.track c.rename_entries.new.track.context c.self.view_is c.index.ensures.value refl in
    alike_with c.args.self.now _ c.args.context c.rename_entries.new.track.context shown (s.target ∙ ap (λ (x : Context). x.target) h.context)

use Rattle.std.proofs.Common.{List, ◌≡◌, false, ap, sym, subst, ◌∙◌, ◌+◌, slice_get, get_or, Some, None}
use Rattle.std.specs.Prelude.{option_copied, set}
use Rattle.std.proofs.lemmas.Option.{get_or_from_slice_get, slice_get_within}
use Rattle.core_view.specs.Stages.{execution_of, IsIssued}
use Rattle.flight.specs.Flights.{Flight}
use Rattle.core_view.specs.declared.entry.Stage.TheVariants.{Issued}
use Rattle.core_view.specs.declared.entry.Entry.{Entry}
use Rattle.core_view.specs.declared.entry.Execution.{Execution}
use Rattle.core_view.specs.Operations.{is_store}
use Rattle.core_view.specs.Outcomes.{image_of}
use Rattle.core_view.specs.Flight.{seen_of, IsSound}
use Rattle.core_view.specs.Events.{completed_entry}
use Rattle.core_view.specs.View.{no_entry, entry_at}
use Rattle.entry_stages.specs.Mispredicted.{is_mispredicted_by}
use Rattle.core_context.specs.Track.{Track, cut_stamp}
use Rattle.core_context.specs.Ends.{IsEnd}
use Rattle.core_context.proofs.Tracks.{finished_is, set_read, cut_kept, cut_wrong_none, cut_wrong_some, writes_none}
use Rattle.core_context.proofs.Ends.{end_finished}
use Rattle.core_context.proofs.track.Track.finish.Given.{Over}
use Rattle.core_context.proofs.track.Track.finish.Goals as goal
use Rattle.core_context.proofs.track.Track.finish.Goals.{After-fetch_pc_after-self-inside}

pub is_mispredicted-mispredicted-requires : goal.is_mispredicted-mispredicted-requires
is_mispredicted-mispredicted-requires g c =
    let es = c.self.inside.flight.entries in
    let read : slice_get es c.args.place ≡ Some c.unwrap-entry.result.now = sym c.get.ensures ∙ ap option_copied c.unwrap-entry.ensures in
    let issued : IsIssued (get_or es c.args.place no_entry).stage = rw (← c.self.view_is) at c.requires.issued in
    subst (λ (f : Entry). IsIssued f.stage) (get_or_from_slice_get es c.args.place c.unwrap-entry.result.now no_entry read) issued

-- ---- the entry is written back

abbrev entries : (g : Over) (c : After-fetch_pc_after-self-inside g) → List Entry
entries g c = c.self.inside.flight.entries

abbrev execution : (g : Over) (c : After-fetch_pc_after-self-inside g) → Execution
execution g c = execution_of (get_or c.self.inside.flight.entries c.args.place no_entry).stage

read : (g : Over) (c : After-fetch_pc_after-self-inside g) → slice_get (entries g c) c.args.place ≡ Some c.unwrap-entry.result.now
read g c = sym c.get.ensures ∙ ap option_copied c.unwrap-entry.ensures

stage : (g : Over) (c : After-fetch_pc_after-self-inside g) → c.unwrap-entry.result.now.stage ≡ Issued (execution g c)
stage g c =
    let issued : (get_or (entries g c) c.args.place no_entry).stage ≡ Issued (execution g c) = rw (← c.self.view_is) at c.requires.issued in
    sym (ap (λ (f : Entry). f.stage) (get_or_from_slice_get (entries g c) c.args.place c.unwrap-entry.result.now no_entry (read g c))) ∙ issued

written : (g : Over) (c : After-fetch_pc_after-self-inside g) → c.finish.new.self.entries ≡ set (entries g c) c.args.place (completed_entry c.unwrap-entry.result.now (execution g c))
written g c = set_read (entries g c) _ c.args.place c.unwrap-entry.result.now (λ f. completed_entry f (execution g c)) (read g c) (ap (λ (f : Flight). f.entries) c.finish.ensures)

other : (g : Over) (c : After-fetch_pc_after-self-inside g) → is_store c.unwrap-entry.result.now.operation ≡ false
other g c = sym c.is_store.ensures ∙ c.if-is_store.false

mispredicted : (g : Over) (c : After-fetch_pc_after-self-inside g) → is_mispredicted_by c.unwrap-entry.result.now (execution g c).outcome ≡ c.is_mispredicted-mispredicted.result
mispredicted g c = sym (c.is_mispredicted-mispredicted.ensures ∙ ap (λ s. is_mispredicted_by c.unwrap-entry.result.now (execution_of s).outcome) (stage g c))

end : (g : Over) (c : After-fetch_pc_after-self-inside g) → IsEnd c.self.inside.pc c.fetch_pc_after-self-inside.result c.self.inside.goes_on c.finish.new.self.entries
end g c =
    let here = get_or_from_slice_get (entries g c) c.args.place c.unwrap-entry.result.now no_entry (read g c) in
    end_finished c.self.inside.pc _ _ _ (entries g c) c.finish.new.self.entries c.args.place (completed_entry c.unwrap-entry.result.now (execution g c)) c.self.invariant.1 (slice_get_within (entries g c) c.args.place c.unwrap-entry.result.now (read g c)) (written g c)
    (ap (λ (f : Entry). f.operation) (sym here)) c.fetch_pc_after-self-inside.ensures.last c.fetch_pc_after-self-inside.ensures.before

-- ---- nothing was guessed wrongly

pub invariant_of-self : goal.invariant_of-self
invariant_of-self g c =
    let at = (goal.at.invariant_of-self g c).After-fetch_pc_after-self-inside in
    (c.self.invariant.0, end g at)

pub returns-then-not-mispredicted-clause-cut : goal.returns-then-not-mispredicted-clause-cut
returns-then-not-mispredicted-clause-cut g c =
    let at = (goal.at.returns-then-not-mispredicted-clause-cut g c).After-fetch_pc_after-self-inside in
    let sound = subst (λ (fs : List Entry). IsSound (image_of c.args.self.now.context.state) (seen_of c.args.self.now.context.state) c.args.self.now.context.state.pc fs) (sym (ap (λ (t : Track). t.context.flight) c.self.view_is)) c.requires.sound in
    let none = writes_none (entries g at) c.args.place c.unwrap-entry.result.now (execution g at) (read g at) (image_of c.args.self.now.context.state) (seen_of c.args.self.now.context.state) c.args.self.now.context.state.pc (stage g at) sound (other g at) in
    cut_kept (entries g at) c.args.place c.unwrap-entry.result.now (execution g at) (read g at) (mispredicted g at ∙ c.if-not-mispredicted.true) none
    ∙ ap (λ (t : Track). cut_stamp t.context c.args.place (execution_of (entry_at t.context c.args.place).stage)) c.self.view_is

-- ---- its next pc was

pub invariant_of-self-in_err-next : goal.invariant_of-self-in_err-next
invariant_of-self-in_err-next g c =
    let at = (goal.at.invariant_of-self-in_err-next g c).After-fetch_pc_after-self-inside in
    (c.self.invariant.0, end g at)

pub returns-in_err-next-clause-cut : goal.returns-in_err-next-clause-cut
returns-in_err-next-clause-cut g c =
    let at = (goal.at.returns-in_err-next-clause-cut g c).After-fetch_pc_after-self-inside in
    let none : slice_get c.finish.new.self.entries (c.args.place + 1) ≡ None = sym c.get-2.ensures ∙ ap option_copied c.in_err-next.was in
    c.from_residual.ensures
    ∙ cut_wrong_none (entries g at) c.args.place c.unwrap-entry.result.now (execution g at) (read g at) c.finish.new.self.entries (written g at) (mispredicted g at ∙ c.if-not-mispredicted.false) none
    ∙ ap (λ (t : Track). cut_stamp t.context c.args.place (execution_of (entry_at t.context c.args.place).stage)) c.self.view_is

pub invariant_of-self-2 : goal.invariant_of-self-2
invariant_of-self-2 g c =
    let at = (goal.at.invariant_of-self-2 g c).After-fetch_pc_after-self-inside in
    (c.self.invariant.0, end g at)

pub returns-clause-cut : goal.returns-clause-cut
returns-clause-cut g c =
    let at = (goal.at.returns-clause-cut g c).After-fetch_pc_after-self-inside in
    let some : slice_get c.finish.new.self.entries (c.args.place + 1) ≡ Some c.in_ok-next.next.now = sym c.get-2.ensures ∙ ap option_copied c.in_ok-next.was in
    cut_wrong_some (entries g at) c.args.place c.unwrap-entry.result.now (execution g at) (read g at) c.finish.new.self.entries (written g at) c.in_ok-next.next.now (mispredicted g at ∙ c.if-not-mispredicted.false) some
    ∙ ap (λ (t : Track). cut_stamp t.context c.args.place (execution_of (entry_at t.context c.args.place).stage)) c.self.view_is

-- ---- what each of these ways leaves

pub returns-then-not-mispredicted-clause-finished : goal.returns-then-not-mispredicted-clause-finished
returns-then-not-mispredicted-clause-finished g c = finished_is _ c.args.self.now c.finish.new.self c.args.place c.self.view_is c.finish.ensures

pub returns-then-not-mispredicted-clause-growing : goal.returns-then-not-mispredicted-clause-growing
returns-then-not-mispredicted-clause-growing g c = c.len-left.ensures.growing

pub returns-in_err-next-clause-finished : goal.returns-in_err-next-clause-finished
returns-in_err-next-clause-finished g c = finished_is _ c.args.self.now c.finish.new.self c.args.place c.self.view_is c.finish.ensures

pub returns-in_err-next-clause-growing : goal.returns-in_err-next-clause-growing
returns-in_err-next-clause-growing g c = c.len-left.ensures.growing

pub returns-clause-finished : goal.returns-clause-finished
returns-clause-finished g c = finished_is _ c.args.self.now c.finish.new.self c.args.place c.self.view_is c.finish.ensures

pub returns-clause-growing : goal.returns-clause-growing
returns-clause-growing g c = c.len-left.ensures.growing

pub returns-then-is_store-clause-finished : goal.returns-then-is_store-clause-finished
returns-then-is_store-clause-finished g c = c.finish_store.ensures.finished

pub returns-then-is_store-clause-growing : goal.returns-then-is_store-clause-growing
returns-then-is_store-clause-growing g c = c.finish_store.ensures.growing

pub returns-then-is_store-clause-bound : goal.returns-then-is_store-clause-bound
returns-then-is_store-clause-bound g c = c.finish_store.ensures.bound

pub returns-then-is_store-clause-cut : goal.returns-then-is_store-clause-cut
returns-then-is_store-clause-cut g c = c.finish_store.ensures.cut

-- What the queue lists is selected from what waits.
use Rattle.std.proofs.Common.{◌≡◌, ℕ, not, List, map, sym, ap, subst, ◌∙◌}
use Rattle.std.specs.Prelude.{All, filter, Option}
use Rattle.std.proofs.lemmas.List.Elements.{All-weaker}
use Rattle.issue_queue.specs.declared.entry.QueueView.{QueueView}
use Rattle.core_view.specs.declared.note.EntryId.{EntryId}
use Rattle.issue_queue.specs.Entry.{Entry}
use Rattle.issue_queue.specs.Views.{view_of}
use Rattle.issue_queue.specs.IsSelected.{IsSelected, is_among}
use Rattle.issue_queue.specs.Stamps.{place_of_oldest}
use Rattle.data_flow.specs.declared.data_flow.DataFlow.TheInside.{Inside}
use Rattle.data_flow.specs.Flow.{Flow, Lane, queued}
use Rattle.data_flow.specs.Wired.{flow, IsWaiting, IsWiredUp}
use Rattle.data_flow.proofs.Ready.{shown_entry, IsFaithful, faithful}
use Rattle.data_flow.proofs.Carried.{carried, shown_entries, place_shown}

-- what is listed, and stays
pub listed_first : {A : Type 0} (d : Inside A) (now : Flow) (key : QueueView → ℕ) (width : ℕ) (names : List EntryId) → flow d ≡ now → IsWiredUp d
    → IsSelected (λ e. key (view_of e)) width d.queue.entries (filter (λ e. not (is_among names e)) d.queue.entries) names
    → IsSelected (λ e. key (view_of e)) width (queued now) (filter (λ e. not (is_among names e)) (queued now)) names
listed_first d now key width names shows up s =
    let lanes : List Lane = (flow d).lanes in
    let others : List Entry → List Entry = filter (λ e. not (is_among names e)) in
    let all_faithful : All (IsFaithful (shown_entry lanes)) d.queue.entries = All-weaker (IsWaiting d.registers.cells d.renamed) (IsFaithful (shown_entry lanes)) (λ e. faithful d e up) d.queue.entries up.waiting in
    let there = carried key width lanes d.queue.entries (others d.queue.entries) names all_faithful s in
    subst (λ (r : Flow). IsSelected (λ e. key (view_of e)) width (queued r) (others (queued r)) names) shows
    (rw (shown_entries lanes d.queue.entries) (subst (λ (rest : List Entry). IsSelected (λ e. key (view_of e)) width (map (shown_entry lanes) d.queue.entries) rest names) there.others there))

-- the place of a context by what waits
pub placed_oldest : {A : Type 0} (d : Inside A) (now : Flow) (c : ℕ) (r : Option ℕ) → flow d ≡ now → r ≡ place_of_oldest c d.queue.entries → r ≡ place_of_oldest c (queued now)
placed_oldest d now c r shows is = is ∙ sym (place_shown (flow d).lanes c d.queue.entries) ∙ ap (λ (f : Flow). place_of_oldest c (queued f)) shows

-- What is shown of an entry, and what an entry is made of.
use Rattle.std.specs.Prelude.{◌≡◌, ℕ, Bool, false, List, [], ◌∷◌, ◌++◌, if◌then◌else◌}
use Rattle.std.specs.List.{filter_map}
use Rattle.issue_queue.specs.declared.entry.Queued.{Queued}
use Rattle.issue_queue.specs.declared.entry.QueueView.{QueueView}
use Rattle.core_view.specs.declared.note.EntryId.{EntryId}
use Rattle.issue_queue.specs.declared.entry.Waiting.{Waiting}
use Rattle.issue_queue.specs.declared.entry.Source.{Source}
use Rattle.issue_queue.specs.declared.entry.Reading.{Reading}
use Rattle.issue_queue.specs.Entry.{Entry}

-- the registers that it reads
abbrev pub reads_of : Queued → List ℕ
reads_of q = q.first ∷ q.second ∷ []

-- the entry that stands at a place, held or not, were it to wait for each register that it reads
abbrev pub as_entry : Bool → Queued → Entry
as_entry held q = record { stamp = q.stamp; context = q.context; guessed = q.guessed; load = q.load; speculative = q.speculative; held = held; waits = reads_of q }

-- what an order sees
abbrev pub view_of : Entry → QueueView
view_of e = record { stamp = e.stamp; context = e.context; guessed = e.guessed; speculative = e.speculative }

-- the name of an entry
abbrev pub name_of : Entry → EntryId
name_of e = record { context = e.context; stamp = e.stamp }

-- a new entry waits for each of its sources that is not ready, and is not held
abbrev pub entry_of : Waiting → Entry
entry_of w = record { stamp = w.stamp; context = w.context; guessed = w.guessed; load = w.load; speculative = w.speculative; held = false; waits = filter_map (λ source. source) w.sources }

-- the register of a source, if it has no value yet
abbrev pub awaited_of : Source → List ℕ
awaited_of s = if s.awaited then s.register ∷ [] else []

-- a new entry waits for each of its sources that has no value yet, and is not held
abbrev pub entered : Reading → Entry
entered r = record { stamp = r.stamp; context = r.context; guessed = r.guessed; load = r.load; speculative = r.speculative; held = false; waits = awaited_of r.first ++ awaited_of r.second }

-- what is kept of it at its place
abbrev pub queued_of : Reading → Queued
queued_of r = record { stamp = r.stamp; context = r.context; guessed = r.guessed; load = r.load; speculative = r.speculative; first = r.first.register; second = r.second.register }

-- one register has a value for both sources or for none
abbrev pub AreAlike : Reading → Type 0
AreAlike r = r.first.register ≡ r.second.register → r.first.awaited ≡ r.second.awaited

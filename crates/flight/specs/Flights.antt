-- A flight and what each event makes of it.
use Rattle.std.specs.Prelude.{◌≡◌, ℕ, ◌+◌, ◌-◌, ◌%◌, ◌<◌, ◌≤◌, min, Bool, true, false, is_some, Some, List, [], ◌∷◌, ◌++◌, length, take, drop, slice_set, slice_index_or, count_by}
use Rattle.std.specs.Int.{bit_at}
use Rattle.reorder_buffer.specs.Growing.{below}
use Rattle.core_view.specs.declared.entry.Execution.{Execution}
use Rattle.core_view.specs.declared.outcome.Step.{Step}
use Rattle.core_view.specs.declared.outcome.Outcome.TheVariants.{Goes}
use Rattle.core_view.specs.declared.entry.Stage.TheVariants.{Fetched, Issued}
use Rattle.core_view.specs.declared.entry.Entry.{Entry}
use Rattle.core_view.specs.View.{no_entry}
use Rattle.core_view.specs.Stages.{execution_of}
use Rattle.core_view.specs.Operations.{is_guessed, is_store}
use Rattle.core_view.specs.Flight.{result_in, is_open_guess}
use Rattle.core_view.specs.Queues.{is_renamed}
use Rattle.core_view.specs.Events.{with_stage, renamed_stage, completed_entry, due_at}
use Rattle.flight.specs.declared.finished.Finished.{Finished}
use Rattle.flight.specs.declared.marks.Marks.{Marks}
use Rattle.flight.specs.Marked.{marks_of, is_waiting, is_issued_load}

-- the entries in flight, oldest first, how many of them are renamed, and how many there may be
pub record Flight : Type 0 where
  pub entries : List Entry
  pub renamed : ℕ
  pub capacity : ℕ

abbrev pub empty_flight : ℕ → Flight
empty_flight capacity = record { entries = []; renamed = 0; capacity = capacity }

-- the entry at a place
abbrev pub entry_in : List Entry → ℕ → Entry
entry_in es i = slice_index_or es i no_entry

-- ---- events

abbrev pub fetched_one : Flight → Entry → Flight
fetched_one f e = record f { entries = f.entries ++ e ∷ [] }

abbrev pub renamed_one : ℕ → Flight → Flight
renamed_one cycle f = let e = entry_in f.entries f.renamed in
    record f { entries = slice_set f.entries f.renamed (with_stage e (renamed_stage cycle e.operation)); renamed = f.renamed + 1 }

abbrev pub issued_one : Flight → ℕ → Execution → Flight
issued_one f i x = record f { entries = slice_set f.entries i (with_stage (entry_in f.entries i) (Issued x)) }

-- the entry at a place has completed, and nothing is cut
abbrev pub finished_one : Flight → ℕ → Execution → Flight
finished_one f i x = record f { entries = slice_set f.entries i (completed_entry (entry_in f.entries i) x) }

abbrev pub retired_one : Flight → Flight
retired_one f = record f { entries = drop 1 f.entries; renamed = f.renamed - 1 }

-- without the entries from a stamp on
abbrev pub cut_at : Flight → ℕ → Flight
cut_at f k = let es = below (λ (e : Entry). e.stamp) k f.entries in record f { entries = es; renamed = min f.renamed (length es) }

abbrev pub none_left : Flight → Flight
none_left f = record f { entries = []; renamed = 0 }

-- ---- questions

abbrev pub is_due : ℕ → Entry → Bool
is_due cycle e = is_some (due_at cycle e.stage)

-- how many of the entries from a place on, where the renamed ones end, are guessed
abbrev pub guesses_ahead : ℕ → List Entry → ℕ
guesses_ahead renamed es = count_by (λ e. is_guessed e.operation) (drop renamed es)

-- no entry from a place on passes a test
abbrev pub NoneFrom : (Entry → Bool) → List Entry → ℕ → Type 0
NoneFrom test es from = (i : ℕ) → from ≤ i → test (entry_in es i) ≡ false

-- the first entry from a place on that passes a test
pub record IsNext (test : Entry → Bool) (es : List Entry) (from place : ℕ) : Type 0 where
  pub after : from ≤ place
  pub within : place < length es
  pub passes : test (entry_in es place) ≡ true
  pub first : (i : ℕ) → from ≤ i → i < place → test (entry_in es i) ≡ false

-- no renamed entry from a place on passes a test
abbrev pub NoneRenamedFrom : (Entry → Bool) → Flight → ℕ → Type 0
NoneRenamedFrom test f from = (i : ℕ) → from ≤ i → i < f.renamed → test (entry_in f.entries i) ≡ false

-- the first renamed entry from a place on that passes a test
pub record IsNextRenamed (test : Entry → Bool) (f : Flight) (from place : ℕ) : Type 0 where
  pub after : from ≤ place
  pub renamed : place < f.renamed
  pub passes : test (entry_in f.entries place) ≡ true
  pub first : (i : ℕ) → from ≤ i → i < place → test (entry_in f.entries i) ≡ false

-- no renamed entry below a place passes a test
abbrev pub NoneRenamedBelow : (Entry → Bool) → Flight → ℕ → Type 0
NoneRenamedBelow test f before = (i : ℕ) → i < before → i < f.renamed → test (entry_in f.entries i) ≡ false

-- the last renamed entry below a place that passes a test
pub record IsLastRenamed (test : Entry → Bool) (f : Flight) (before place : ℕ) : Type 0 where
  pub below : place < before
  pub renamed : place < f.renamed
  pub passes : test (entry_in f.entries place) ≡ true
  pub last : (i : ℕ) → place < i → i < before → i < f.renamed → test (entry_in f.entries i) ≡ false

-- the issued entry at a place is plain: fetch went on after it where it goes, and it is no store behind which a load has issued
pub record IsPlain (f : Flight) (place : ℕ) (finished : Finished) : Type 0 where
  pub unread : is_store (entry_in f.entries place).operation ≡ true → NoneRenamedFrom is_issued_load f (place + 1)
  pub followed : (step : Step) → (execution_of (entry_in f.entries place).stage).outcome ≡ Goes step → (entry_in f.entries place).followed ≡ step.next
  pub result : result_in (execution_of (entry_in f.entries place).stage).outcome ≡ Some finished.value

-- no entry below a place is guessed and has not completed
abbrev pub NoneOpenBelow : List Entry → ℕ → Type 0
NoneOpenBelow es i = (j : ℕ) → j < i → is_open_guess (entry_in es j) ≡ false

-- whether a completion leaves one that waits behind no guessed entry: only a guessed one does
pub record Frees (old new : Flight) (place : ℕ) (f : Finished) : Type 0 where
  pub guessed : f.frees ≡ true → is_guessed (entry_in old.entries place).operation ≡ true
  pub none : f.frees ≡ false → is_guessed (entry_in old.entries place).operation ≡ true → (i : ℕ) → place ≤ i → i < new.renamed → NoneOpenBelow new.entries i → is_waiting (entry_in new.entries i) ≡ false

-- ---- what is true of a flight

-- each issued entry has its bit in the word of its cycle
abbrev pub IsHinted : List ℕ → ℕ → List Entry → Type 0
IsHinted words base es = (i : ℕ) (x : Execution) → (entry_in es i).stage ≡ Issued x → bit_at (slice_index_or words (x.due % 64) 0) ((base + i) % 64) ≡ 1

-- what isn't renamed is fetched
abbrev pub IsAhead : ℕ → List Entry → Type 0
IsAhead renamed es = (i : ℕ) → renamed ≤ i → (entry_in es i).stage ≡ Fetched

-- and what is renamed isn't
abbrev pub AreRenamed : ℕ → List Entry → Type 0
AreRenamed renamed es = (i : ℕ) → i < renamed → is_renamed (entry_in es i).stage ≡ true

pub record IsFlight (entries : List Entry) (renamed base : ℕ) (marks : Marks) (hints : List ℕ) : Type 0 where
  pub within : renamed ≤ length entries
  pub few : renamed ≤ 64
  pub marked : marks ≡ marks_of (take renamed entries)
  pub ahead : IsAhead renamed entries
  pub placed : AreRenamed renamed entries
  pub hinted : IsHinted hints base entries

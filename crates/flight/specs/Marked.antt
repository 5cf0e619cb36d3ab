-- What the words of a flight say of its entries.
use Rattle.std.specs.Prelude.{ℕ, Bool, ◌&&◌, ◌==◌, not, List, [], ◌∷◌, ◌++◌, map}
use Rattle.std.specs.Simd.Lanes.{mask_l}
use Rattle.core_view.specs.declared.entry.Entry.{Entry}
use Rattle.core_view.specs.Operations.{is_load, is_store}
use Rattle.core_view.specs.Kinds.{kind_index, kind_of}
use Rattle.core_view.specs.declared.entry.Stage.{Stage}
use Rattle.core_view.specs.Stages.{execution_of}
use Rattle.core_view.specs.Flight.{is_queued, is_done}
use Rattle.flight.specs.declared.marks.Marks.{Marks}

abbrev pub is_waiting : Entry → Bool
is_waiting e = is_queued e.stage

abbrev pub is_waiting_load : Entry → Bool
is_waiting_load e = is_queued e.stage && is_load e.operation

-- issued, and completed or not
abbrev pub is_issued_load : Entry → Bool
is_issued_load e = is_load e.operation && not (is_queued e.stage)

abbrev pub is_completed_store : Entry → Bool
is_completed_store e = is_store e.operation && is_done e.stage

-- of the kind with this place among the kinds
abbrev pub is_of_kind : ℕ → Entry → Bool
is_of_kind k e = kind_index (kind_of e.operation) == k

abbrev pub has_completed : Entry → Bool
has_completed e = is_done e.stage

-- issued with a miss, and completed or not
abbrev pub missed_at_issue : Stage → Bool
missed_at_issue stage = (execution_of stage).miss

abbrev pub is_load_that_missed : Entry → Bool
is_load_that_missed e = is_load e.operation && missed_at_issue e.stage

-- a word with a bit an entry, bit 0 for the oldest
abbrev pub word_of : (Entry → Bool) → List Entry → ℕ
word_of p es = mask_l (map p es)

-- a word a kind
abbrev pub kinds_of : List Entry → List ℕ
kinds_of es = map (λ k. word_of (is_of_kind k) es) (0 ∷ 1 ∷ 2 ∷ 3 ∷ 4 ∷ 5 ∷ [])

-- the eight that stand side by side: those of the kinds, of what waits, and of the loads that missed
abbrev pub words_of : List Entry → List ℕ
words_of es = kinds_of es ++ word_of is_waiting es ∷ word_of is_load_that_missed es ∷ []

-- the words of a list of entries
abbrev pub marks_of : List Entry → Marks
marks_of es = record { words = words_of es; done = word_of has_completed es }

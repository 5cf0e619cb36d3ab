-- What a flight of entries, oldest first, may look like over an architectural state.
use Rattle.std.specs.Prelude.{◌≡◌, ℕ, ◌+◌, ◌%◌, ◌<◌, ◌≤◌, Bool, true, false, not, ◌&&◌, ◌==◌, if◌then◌else◌, List, [], ◌∷◌, map, get_or, slice_set, Option, Some, None}
use Rattle.paged_memory.specs.Cells.{byte_at}
use Rattle.hart_step.specs.State.{State}
use Rattle.core_view.specs.declared.operation.Operation.{Operation}
use Rattle.core_view.specs.declared.span.Span.{Span}
use Rattle.core_view.specs.declared.span.Bytes.{Bytes}
use Rattle.core_view.specs.declared.outcome.Outcome.{Outcome}
use Rattle.core_view.specs.declared.outcome.Outcome.TheVariants.{Goes, Stops}
use Rattle.core_view.specs.declared.entry.Stage.{Stage}
use Rattle.core_view.specs.declared.entry.Stage.TheVariants.{Fetched, Queued, Issued, Done}
use Rattle.core_view.specs.declared.entry.Entry.{Entry}
use Rattle.core_view.specs.Spans.{shares, overlaid}
use Rattle.core_view.specs.Operations.{stops_at_fetch, is_load, is_guessed, unguessed_next, first_source_of, second_source_of, destination_of}
use Rattle.core_view.specs.Outcomes.{Image, bytes_written, span_of, outcome_in}

-- ---- what a stage shows

-- from the end of its execution on, with a stop or without
abbrev pub is_done : Stage → Bool
is_done Fetched = false
is_done Queued = false
is_done (Issued execution) = false
is_done (Done execution) = true

-- renamed, and not yet issued
abbrev pub is_queued : Stage → Bool
is_queued Fetched = false
is_queued Queued = true
is_queued (Issued execution) = false
is_queued (Done execution) = false

-- issued with a miss, and not yet completed
abbrev pub has_missed : Stage → Bool
has_missed Fetched = false
has_missed Queued = false
has_missed (Issued execution) = execution.miss
has_missed (Done execution) = false

abbrev pub is_missed_load : Entry → Bool
is_missed_load e = is_load e.operation && has_missed e.stage

-- a guessed entry that hasn't completed
abbrev pub is_open_guess : Entry → Bool
is_open_guess e = is_guessed e.operation && not (is_done e.stage)

-- the result of an outcome: a stop gives none
abbrev pub result_in : Outcome → Option ℕ
result_in (Goes step) = Some step.result
result_in (Stops why) = None

-- the result that entries after it may use
abbrev pub result_of : Stage → Option ℕ
result_of Fetched = None
result_of Queued = None
result_of (Issued execution) = None
result_of (Done execution) = result_in execution.outcome

-- the bytes that an outcome writes
abbrev pub bytes_in : Outcome → Option Bytes
bytes_in (Goes step) = bytes_written step.access
bytes_in (Stops why) = None

-- the bytes of a store that is done without a stop
abbrev pub bytes_done : Stage → Option Bytes
bytes_done Fetched = None
bytes_done Queued = None
bytes_done (Issued execution) = None
bytes_done (Done execution) = bytes_in execution.outcome

-- the span that an outcome read
abbrev pub span_in : Outcome → Option Span
span_in (Goes step) = span_of step.access
span_in (Stops why) = None

-- the span that a load read, from its issue on: one that stops read none
abbrev pub span_read : Stage → Option Span
span_read Fetched = None
span_read Queued = None
span_read (Issued execution) = span_in execution.outcome
span_read (Done execution) = span_in execution.outcome

-- ---- what entries see

-- the value of each register where it is known, and the byte at each address
pub record Seen : Type 0 where
  pub registers : List (Option ℕ)
  pub bytes : ℕ → ℕ

-- what an architectural state shows: all its registers are known
abbrev pub known : List ℕ → List (Option ℕ)
known registers = map (λ value. Some value) registers

-- what a state lets its oldest entry see
abbrev pub seen_of : State → Seen
seen_of s = record { registers = known s.registers; bytes = byte_at s.memory }

-- a register gets the result of its producer, known or not; x0 has none
abbrev pub produced : List (Option ℕ) → ℕ → Option ℕ → List (Option ℕ)
produced registers register result = if register == 0 then registers else slice_set registers register result

-- what is seen after an operation that has come to a stage
abbrev pub seen_with : Seen → Operation → Stage → Seen
seen_with seen o stage = record { registers = produced seen.registers (destination_of o) (result_of stage); bytes = overlaid seen.bytes (bytes_done stage) }

-- what is seen after an entry
abbrev pub seen_after : Seen → Entry → Seen
seen_after seen e = seen_with seen e.operation e.stage

-- after several: the youngest producer of each register counts, and the newest done store that covers each byte
abbrev pub seen_past : Seen → List Entry → Seen
seen_past seen [] = seen
seen_past seen (e ∷ es) = seen_past (seen_after seen e) es

-- the value of a source, where it is known: x0 is always ready
abbrev pub source_value : List (Option ℕ) → ℕ → Option ℕ
source_value registers register = if register == 0 then Some 0 else get_or registers register None

-- ---- soundness

-- an outcome is that of the operation on the values of its sources, a load's bytes being those that are seen
pub record IsOutcome (image : Image) (seen : Seen) (o : Operation) (pc : ℕ) (outcome : Outcome) : Type 0 where
  pub first : ℕ
  pub second : ℕ
  pub first_ready : source_value seen.registers (first_source_of o) ≡ Some first
  pub second_ready : source_value seen.registers (second_source_of o) ≡ Some second
  pub is : outcome ≡ outcome_in image seen.bytes o pc first second

-- from issue on there is an outcome; what stops at fetch is neither queued nor issued
abbrev pub HasOutcome : Image → Seen → Operation → ℕ → Stage → Type 0
HasOutcome image seen o pc Fetched = Unit {0}
HasOutcome image seen o pc Queued = stops_at_fetch o ≡ false
HasOutcome image seen o pc (Issued execution) = (stops_at_fetch o ≡ false) × IsOutcome image seen o pc execution.outcome
HasOutcome image seen o pc (Done execution) = IsOutcome image seen o pc execution.outcome

-- an outcome goes on at a pc, or stops
abbrev pub GoesOnAt : ℕ → Outcome → Type 0
GoesOnAt pc (Goes step) = pc ≡ step.next
GoesOnAt pc (Stops why) = Unit {0}

-- once an entry is done without a stop, its true next pc was followed
abbrev pub IsSettled : ℕ → Stage → Type 0
IsSettled followed Fetched = Unit {0}
IsSettled followed Queued = Unit {0}
IsSettled followed (Issued execution) = Unit {0}
IsSettled followed (Done execution) = GoesOnAt followed execution.outcome

-- the followed pc is a multiple of 4, the next one where that isn't guessed, and the true one once the entry is done
pub record IsFollowed (o : Operation) (pc : ℕ) (stage : Stage) (followed : ℕ) : Type 0 where
  pub aligned : followed % 4 ≡ 0
  pub unguessed : is_guessed o ≡ false → followed ≡ unguessed_next o pc
  pub settled : IsSettled followed stage

-- an entry at a pc, over what it sees: what stands there, its outcome and where it was followed
pub record IsSoundEntry (image : Image) (seen : Seen) (pc : ℕ) (e : Entry) : Type 0 where
  pub place : e.pc ≡ pc
  pub operation : e.operation ≡ image.operations pc
  pub outcome : HasOutcome image seen e.operation e.pc e.stage
  pub followed : IsFollowed e.operation e.pc e.stage e.followed

-- each entry stands where the one before is followed, and computes with what those before let it see; nothing follows a stop at fetch
abbrev pub IsSound : Image → Seen → ℕ → List Entry → Type 0
IsSound image seen pc [] = Unit {0}
IsSound image seen pc (e ∷ es) = IsSoundEntry image seen pc e × (stops_at_fetch e.operation ≡ true → es ≡ []) × IsSound image (seen_after seen e) e.followed es

-- stamps grow, from one on
abbrev pub IsGrowing : ℕ → List Entry → Type 0
IsGrowing low [] = Unit {0}
IsGrowing low (e ∷ es) = (low ≤ e.stamp) × IsGrowing (e.stamp + 1) es

-- all stamps are below one
abbrev pub IsStampedBelow : ℕ → List Entry → Type 0
IsStampedBelow next [] = Unit {0}
IsStampedBelow next (e ∷ es) = (e.stamp < next) × IsStampedBelow next es

-- ---- the end of a flight

-- the pc where the entries after these go on
abbrev pub pc_past : ℕ → List Entry → ℕ
pc_past pc [] = pc
pc_past pc (e ∷ es) = pc_past e.followed es

-- no stop at fetch ends it: more can be fetched
abbrev pub is_open : List Entry → Bool
is_open [] = true
is_open (e ∷ []) = not (stops_at_fetch e.operation)
is_open (e ∷ f ∷ es) = is_open (f ∷ es)

-- ---- conflicts

-- some byte of a store is in the span of a load
abbrev pub touches : Option Bytes → Option Span → Bool
touches None span = false
touches (Some bytes) None = false
touches (Some bytes) (Some span) = shares bytes.span span

-- what stands before the oldest issued load that shares a byte with a store
abbrev pub before_touch : Option Bytes → List Entry → List Entry
before_touch bytes [] = []
before_touch bytes (e ∷ es) = if touches bytes (span_read e.stage) then [] else e ∷ before_touch bytes es

-- how many entries that is
abbrev pub clean_length : Option Bytes → List Entry → ℕ
clean_length bytes [] = 0
clean_length bytes (e ∷ es) = if touches bytes (span_read e.stage) then 0 else clean_length bytes es + 1

-- no issued load of these shares a byte with a store
abbrev pub IsUntouched : Option Bytes → List Entry → Type 0
IsUntouched bytes [] = Unit {0}
IsUntouched bytes (e ∷ es) = (touches bytes (span_read e.stage) ≡ false) × IsUntouched bytes es

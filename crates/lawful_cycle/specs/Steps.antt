-- The steps of a guess and a delay in a cycle: of which entries they are queried and taught, in which order, and in which states.
use Rattle.std.specs.Prelude.{◌≡◌, ℕ, zero, suc, Bool, true, false, ◌≤◌, ◌<◌, List, [], ◌∷◌, ◌++◌, length}
use Rattle.rv64_decode.specs.declared.insn.Insn.{Insn}
use Rattle.data_tags.specs.declared.delay.Kind.{Kind}
use Rattle.data_tags.specs.declared.delay.Lag.{Lag}
use Rattle.core_view.specs.declared.note.EntryId.{EntryId}
use Rattle.core_view.specs.declared.note.Issue.{Issue}
use Rattle.core_view.specs.declared.entry.Entry.{Entry}
use Rattle.core_view.specs.View.{View, entry_at}
use Rattle.lawful_cycle.specs.Views.{context_in}
use Rattle.lawful_cycle.specs.Delays.{kind_of}
use Rattle.lawful_cycle.specs.Issue.{operation_at_place, outcome_at, address_at}
use Rattle.core_view.specs.declared.note.CycleNote.{CycleNote}
use Rattle.lawful_cycle.specs.Cycle.{Laws, IsLawfulCycle}
use Rattle.lawful_cycle.specs.Runs.{Figures, no_figures, added, SomeRuns}
use Rattle.lawful_cycle.specs.Queries.{when_shown, followed_by, next_done, IsTimed}

-- from a state to a state by each of a list, one after another
abbrev pub GoesBy : {X S : Type 0} → (X → S → S → Type 0) → List X → S → S → Type 0
GoesBy {S = S} R [] s t = t ≡ s
GoesBy {S = S} R (x ∷ xs) s t = (u : S) × R x s u × GoesBy R xs u t

-- ---- a step of the delay

-- an issue of the entry at a place of a view, of which the delay was queried in the state s, and came to t
pub record IsTimedAt {T : Type 0} (answer : T → ℕ → Kind → ℕ → Lag) (after_delay : T → ℕ → Kind → ℕ → T) (v : View) (n : Issue) (s t : T) : Type 0 where
  pub context : n.entry.context < 8
  pub place : ℕ
  pub within : place < length (context_in v n.entry.context).flight
  pub stamp : (entry_at (context_in v n.entry.context) place).stamp ≡ n.entry.stamp
  pub timed : let x = context_in v n.entry.context in
      IsTimed answer after_delay s t n.entry.context (kind_of (operation_at_place x place)) (address_at x place) (outcome_at x place) (record { cycles = n.latency; miss = n.miss })

-- ---- a step of the guess

-- a fetched entry of a context, of which the guess was queried in the state s, and came to t
pub record IsFollowedAt {S : Type 0} (answer : S → ℕ → ℕ → Insn → ℕ) (after_guess : S → ℕ → ℕ → Insn → S) (c : ℕ) (e : Entry) (s t : S) : Type 0 where
  pub followed : e.followed ≡ followed_by (answer s c e.pc) e.operation e.pc
  pub after : t ≡ when_shown e.operation (after_guess s c e.pc) s

-- a retired entry of a context, of which the guess learned the next pc
abbrev pub IsLearnedAt : {S : Type 0} → (S → ℕ → ℕ → Insn → ℕ → S) → ℕ → Entry → S → S → Type 0
IsLearnedAt after_learn c e s t = t ≡ when_shown e.operation (λ insn. after_learn s c e.pc insn (next_done e.stage)) s

-- such a step of the entry of a view that a note names
pub record OfNamed {S : Type 0} (R : ℕ → Entry → S → S → Type 0) (v : View) (n : EntryId) (s t : S) : Type 0 where
  pub place : ℕ
  pub within : place < length (context_in v n.context).flight
  pub stamp : (entry_at (context_in v n.context) place).stamp ≡ n.stamp
  pub goes : R n.context (entry_at (context_in v n.context) place) s t

-- ---- a cycle

-- what a guess and a delay return in a state, and the state after each call
pub record Steps (S T : Type 0) : Type 0 where
  pub guess : S → ℕ → ℕ → Insn → ℕ
  pub after_guess : S → ℕ → ℕ → Insn → S
  pub after_learn : S → ℕ → ℕ → Insn → ℕ → S
  pub delay : T → ℕ → Kind → ℕ → Lag
  pub after_delay : T → ℕ → Kind → ℕ → T

abbrev pub steps_of : {S T : Type 0} → (S → ℕ → ℕ → Insn → ℕ) → (S → ℕ → ℕ → Insn → S) → (S → ℕ → ℕ → Insn → ℕ → S) → (T → ℕ → Kind → ℕ → Lag) → (T → ℕ → Kind → ℕ → T) → Steps S T
steps_of guess after_guess after_learn delay after_delay = record { guess = guess; after_guess = after_guess; after_learn = after_learn; delay = delay; after_delay = after_delay }

-- a lawful cycle in which the guess learns of what retires, in the note's order, and then is queried of what is fetched, in the
-- note's order; the delay is queried of what issues, in the note's order; and their answers are the ones that were taken
pub record IsSteppedCycle {S T : Type 0} (steps : Steps S T) (laws : Laws) (guess guess_after : S) (delay delay_after : T) (before after : View) (note : CycleNote) : Type 0 where
  pub lawful : IsLawfulCycle laws before after note
  pub trained : S
  pub learns : GoesBy (OfNamed (IsLearnedAt steps.after_learn) before) note.retired.items guess trained
  pub times : GoesBy (IsTimedAt steps.delay steps.after_delay lawful.completed) note.issued.items delay delay_after
  pub queries : GoesBy (OfNamed (IsFollowedAt steps.guess steps.after_guess) lawful.fetched) note.fetched.items trained guess_after

-- a run of n such cycles, as IsRun has it, and the states that the guess and the delay come to
abbrev pub IsSteppedRun : {S T : Type 0} → Steps S T → Laws → ℕ → S → S → T → T → View → View → Figures → Type 0
IsSteppedRun {S = S} {T = T} steps laws zero guess guess_after delay delay_after v w f = (guess_after ≡ guess) × (delay_after ≡ delay) × (w ≡ v) × (f ≡ no_figures)
IsSteppedRun {S = S} {T = T} steps laws (suc n) guess guess_after delay delay_after v w f =
    (s : S) × (t : T) × (u : View) × (g : Figures) × (note : CycleNote) × IsSteppedRun steps laws n guess s delay t v u g × SomeRuns u × IsSteppedCycle steps laws s guess_after t delay_after u w note × (f ≡ added g note)

-- the notes of such a run, in order
abbrev pub notes_of : {S T : Type 0} (steps : Steps S T) (laws : Laws) (n : ℕ) (guess guess_after : S) (delay delay_after : T) (v w : View) (f : Figures) → IsSteppedRun steps laws n guess guess_after delay delay_after v w f → List CycleNote
notes_of steps laws zero guess guess_after delay delay_after v w f run = []
notes_of steps laws (suc n) guess guess_after delay delay_after v w f (s, t, u, g, note, run, runs, cycle, is) = notes_of steps laws n guess s delay t v u g run ++ note ∷ []

-- a run of at most so many such cycles, as IsRunTo has it
pub record IsSteppedRunTo {S T : Type 0} (steps : Steps S T) (laws : Laws) (limit : ℕ) (guess guess_after : S) (delay delay_after : T) (v w : View) (f : Figures) (reached : Bool) : Type 0 where
  pub run : IsSteppedRun steps laws f.cycles guess guess_after delay delay_after v w f
  pub within : f.cycles ≤ limit
  pub ended : reached ≡ true → ¬ SomeRuns w
  pub limited : reached ≡ false → SomeRuns w × (f.cycles ≡ limit)

abbrev pub notes_to : {S T : Type 0} (steps : Steps S T) (laws : Laws) (limit : ℕ) (guess guess_after : S) (delay delay_after : T) (v w : View) (f : Figures) (reached : Bool) → IsSteppedRunTo steps laws limit guess guess_after delay delay_after v w f reached → List CycleNote
notes_to steps laws limit guess guess_after delay delay_after v w f reached h = notes_of steps laws f.cycles guess guess_after delay delay_after v w f h.run

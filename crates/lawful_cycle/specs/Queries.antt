-- What a guess and a delay are queried of an entry, what is taken of the answer, and the state after the query.
use Rattle.std.specs.Prelude.{◌≡◌, ℕ, ◌-◌, ◌%◌, ◌&&◌, Bool, true, false}
use Rattle.rv64_decode.specs.declared.insn.Insn.{Insn}
use Rattle.rv64_decode.specs.declared.insn.Insn.TheVariants.{Jal, Jalr, Branch}
use Rattle.data_tags.specs.declared.delay.Kind.{Kind}
use Rattle.data_tags.specs.declared.delay.Lag.{Lag}
use Rattle.core_view.specs.declared.operation.Operation.{Operation}
use Rattle.core_view.specs.declared.operation.Operation.TheVariants.{Performs, Stops}
use Rattle.core_view.specs.declared.outcome.Outcome.{Outcome}
use Rattle.core_view.specs.declared.outcome.Outcome.TheVariants.{Goes}
use Rattle.core_view.specs.declared.outcome.Outcome.TheVariants as outcome
use Rattle.core_view.specs.declared.entry.Stage.{Stage}
use Rattle.core_view.specs.declared.entry.Stage.TheVariants.{Fetched, Queued, Issued, Done}
use Rattle.core_view.specs.Operations.{unguessed_next_of, unguessed_next}
use Rattle.lawful_cycle.specs.Delays.{is_access, is_stop, one_cycle, IsLagOf}

-- ---- a guess, whose states have the type S

-- a conditional branch, JAL or JALR that is performed is shown to it; nothing else is, also nothing that stops at fetch
abbrev pub when_shown_insn : {S : Type 0} → Insn → S → S → S
when_shown_insn (Jal rd offset) shown other = shown
when_shown_insn (Jalr rd rs1 immediate) shown other = shown
when_shown_insn (Branch condition rs1 rs2 offset) shown other = shown
when_shown_insn _ shown other = other

abbrev pub when_shown : {S : Type 0} → Operation → (Insn → S) → S → S
when_shown (Performs insn) shown other = when_shown_insn insn (shown insn) other
when_shown (Stops why) shown other = other

-- where fetch goes on: at the answer, its two low bits cleared, after a conditional branch or a JALR; the answer for a JAL isn't used
abbrev pub followed_by_insn : Insn → ℕ → ℕ → ℕ
followed_by_insn (Jalr rd rs1 immediate) answer pc = answer - answer % 4
followed_by_insn (Branch condition rs1 rs2 offset) answer pc = answer - answer % 4
followed_by_insn insn answer pc = unguessed_next_of insn pc

abbrev pub followed_by : (Insn → ℕ) → Operation → ℕ → ℕ
followed_by answer (Performs insn) pc = followed_by_insn insn (answer insn) pc
followed_by answer (Stops why) pc = unguessed_next (Stops why) pc

-- the pc after an entry that is done with a step
abbrev pub next_in : Outcome → ℕ
next_in (Goes step) = step.next
next_in (outcome.Stops why) = 0

abbrev pub next_done : Stage → ℕ
next_done Fetched = 0
next_done Queued = 0
next_done (Issued execution) = 0
next_done (Done execution) = next_in execution.outcome

-- ---- a delay, whose states have the type T

-- of a load or store that stops the delay isn't queried, and the lag is one cycle; of all else it is queried once, and the lag is its answer
pub record IsTimed {T : Type 0} (answer : T → ℕ → Kind → ℕ → Lag) (after_delay : T → ℕ → Kind → ℕ → T) (s t : T) (c : ℕ) (k : Kind) (address : ℕ) (o : Outcome) (lag : Lag) : Type 0 where
  pub stopping : (is_access k && is_stop o) ≡ true → (lag ≡ one_cycle) × (t ≡ s)
  pub going : (is_access k && is_stop o) ≡ false → (lag ≡ answer s c k address) × (t ≡ after_delay s c k address)

-- and the lag is one that the delay states
pub record IsLagBy {T : Type 0} (may_answer : ℕ → Kind → ℕ → Lag → Bool) (answer : T → ℕ → Kind → ℕ → Lag) (after_delay : T → ℕ → Kind → ℕ → T) (s t : T) (c : ℕ) (k : Kind) (address : ℕ) (o : Outcome) (lag : Lag) : Type 0 where
  pub stated : IsLagOf (may_answer c) k address o lag
  pub timed : IsTimed answer after_delay s t c k address o lag

-- Only loads read, and only stores write.
use Rattle.std.proofs.Common.{◌≡◌, ℕ, Bool, true, false, Option, Some, None, Result, Ok, Err, refl, sym, ap, ◌∙◌}
use Rattle.std.specs.Prelude.{◌==◌, ◌*◌, ◌/◌, ◌%◌, if◌then◌else◌}
use Rattle.paged_memory.specs.declared.Fault.{Fault}
use Rattle.rv64_decode.specs.declared.insn.Insn.{Insn}
use Rattle.rv64_decode.specs.declared.insn.Insn.TheVariants.{Jal, Jalr, Branch}
use Rattle.hart_step.specs.declared.stop.Stop.TheVariants as stop
use Rattle.hart_step.specs.declared.effect.Effect.{Effect}
use Rattle.hart_step.specs.declared.effect.Effect.TheVariants as effect
use Rattle.hart_step.specs.Values.{sum, bits, condition_holds}
use Rattle.hart_step.specs.Effects.{linked_to, went_to, effect_of}
use Rattle.hart_step.specs.State.{following}
use Rattle.core_view.specs.declared.operation.Operation.{Operation}
use Rattle.core_view.specs.declared.operation.Operation.TheVariants.{Performs, Stops}
use Rattle.core_view.specs.declared.span.Bytes.{Bytes}
use Rattle.core_view.specs.declared.outcome.Step.{Step}
use Rattle.core_view.specs.declared.entry.Entry.{Entry}
use Rattle.core_view.specs.declared.entry.Stage.{Stage}
use Rattle.core_view.specs.declared.entry.Stage.TheVariants.{Fetched, Queued, Issued, Done}
use Rattle.core_view.specs.Operations.{is_load_insn, is_load, is_store_insn, is_store, is_guessed_insn, is_guessed}
use Rattle.core_view.specs.Outcomes.{Image, outcome_with, outcome_in}
use Rattle.core_view.specs.Flight.{Seen, HasOutcome, bytes_in, bytes_done, span_in, span_read, touches}
use Rattle.core_view.specs.Events.{is_mispredicted}

-- ---- effects

abbrev pub is_load_effect : Effect → Bool
is_load_effect (effect.Loads kind address) = true
is_load_effect _ = false

abbrev pub is_store_effect : Effect → Bool
is_store_effect (effect.Stores width address value) = true
is_store_effect _ = false

-- the effect of an instruction is a load's where the instruction is a load, and a store's where it is a store
record IsAlike (insn : Insn) (e : Effect) : Type 0 where
  loads : is_load_effect e ≡ is_load_insn insn
  stores : is_store_effect e ≡ is_store_insn insn

jump_alike : (insn : Insn) (t : Bool) (x y : Effect) → IsAlike insn x → IsAlike insn y → IsAlike insn (if t then x else y)
jump_alike insn true x y p q = p
jump_alike insn false x y p q = q

linked_alike : (insn : Insn) (pc target : ℕ) → is_load_insn insn ≡ false → is_store_insn insn ≡ false → IsAlike insn (linked_to pc target)
linked_alike insn pc target l s =
    jump_alike insn (target % 4 == 0) (effect.Writes (following pc) target) (effect.Stops stop.TargetMisaligned) (record { loads = sym l; stores = sym s }) (record { loads = sym l; stores = sym s })

went_alike : (insn : Insn) (target : ℕ) → is_load_insn insn ≡ false → is_store_insn insn ≡ false → IsAlike insn (went_to target)
went_alike insn target l s =
    jump_alike insn (target % 4 == 0) (effect.Goes target) (effect.Stops stop.TargetMisaligned) (record { loads = sym l; stores = sym s }) (record { loads = sym l; stores = sym s })

effect_alike : (insn : Insn) (pc a b : ℕ) → IsAlike insn (effect_of insn pc a b)
effect_alike (Jal rd offset) pc a b = linked_alike (Jal rd offset) pc (sum pc (bits offset)) refl refl
effect_alike (Jalr rd rs1 immediate) pc a b = linked_alike (Jalr rd rs1 immediate) pc (sum a (bits immediate) / 2 * 2) refl refl
effect_alike (Branch condition rs1 rs2 offset) pc a b =
    jump_alike (Branch condition rs1 rs2 offset) (condition_holds condition a b) (went_to (sum pc (bits offset))) (effect.Goes (following pc)) (went_alike (Branch condition rs1 rs2 offset) (sum pc (bits offset)) refl refl) (record { loads = refl; stores = refl })
effect_alike insn pc a b = record { loads = refl; stores = refl }

pub effect_loads : (insn : Insn) (pc a b : ℕ) → is_load_effect (effect_of insn pc a b) ≡ is_load_insn insn
effect_loads insn pc a b = (effect_alike insn pc a b).loads

pub effect_stores : (insn : Insn) (pc a b : ℕ) → is_store_effect (effect_of insn pc a b) ≡ is_store_insn insn
effect_stores insn pc a b = (effect_alike insn pc a b).stores

-- ---- outcomes

effect_span : (pc : ℕ) (e : Effect) (answered : Result ℕ Fault) → is_load_effect e ≡ false → span_in (outcome_with pc e answered) ≡ None
effect_span pc (effect.Goes target) answered h = refl
effect_span pc (effect.Writes value target) answered h = refl
effect_span pc (effect.Loads kind address) answered h = absurd cc
effect_span pc (effect.Stores width address value) (Ok number) h = refl
effect_span pc (effect.Stores width address value) (Err fault) h = refl
effect_span pc (effect.Stops why) answered h = refl

effect_bytes : (pc : ℕ) (e : Effect) (answered : Result ℕ Fault) → is_store_effect e ≡ false → bytes_in (outcome_with pc e answered) ≡ None
effect_bytes pc (effect.Goes target) answered h = refl
effect_bytes pc (effect.Writes value target) answered h = refl
effect_bytes pc (effect.Loads kind address) (Ok number) h = refl
effect_bytes pc (effect.Loads kind address) (Err fault) h = refl
effect_bytes pc (effect.Stores width address value) answered h = absurd cc
effect_bytes pc (effect.Stops why) answered h = refl

-- what isn't a load reads no span
pub outcome_span : (image : Image) (bytes : ℕ → ℕ) (o : Operation) (pc a b : ℕ) → is_load o ≡ false → span_in (outcome_in image bytes o pc a b) ≡ None
outcome_span image bytes (Performs insn) pc a b h = effect_span pc (effect_of insn pc a b) _ ((effect_alike insn pc a b).loads ∙ h)
outcome_span image bytes (Stops why) pc a b h = refl

-- what isn't a store writes no bytes
pub outcome_bytes : (image : Image) (bytes : ℕ → ℕ) (o : Operation) (pc a b : ℕ) → is_store o ≡ false → bytes_in (outcome_in image bytes o pc a b) ≡ None
outcome_bytes image bytes (Performs insn) pc a b h = effect_bytes pc (effect_of insn pc a b) _ ((effect_alike insn pc a b).stores ∙ h)
outcome_bytes image bytes (Stops why) pc a b h = refl

-- ---- entries of a sound flight

-- an entry that isn't a load has read no span
pub stage_span : (image : Image) (seen : Seen) (o : Operation) (pc : ℕ) (stage : Stage) → is_load o ≡ false → HasOutcome image seen o pc stage → span_read stage ≡ None
stage_span image seen o pc Fetched h out = refl
stage_span image seen o pc Queued h out = refl
stage_span image seen o pc (Issued execution) h out = ap span_in out.1.is ∙ outcome_span image seen.bytes o pc out.1.first out.1.second h
stage_span image seen o pc (Done execution) h out = ap span_in out.is ∙ outcome_span image seen.bytes o pc out.first out.second h

-- an entry that isn't a store has no bytes
pub stage_bytes : (image : Image) (seen : Seen) (o : Operation) (pc : ℕ) (stage : Stage) → is_store o ≡ false → HasOutcome image seen o pc stage → bytes_done stage ≡ None
stage_bytes image seen o pc Fetched h out = refl
stage_bytes image seen o pc Queued h out = refl
stage_bytes image seen o pc (Issued execution) h out = refl
stage_bytes image seen o pc (Done execution) h out = ap bytes_in out.is ∙ outcome_bytes image seen.bytes o pc out.first out.second h

-- a store's next pc is no guess
pub store_unguessed : (o : Operation) → is_store o ≡ true → is_guessed o ≡ false
store_unguessed (Performs insn) h = by_insn insn h
  where
    by_insn : (insn : Insn) → is_store_insn insn ≡ true → is_guessed_insn insn ≡ false
    by_insn (Jalr rd rs1 immediate) h = absurd cc
    by_insn (Branch condition rs1 rs2 offset) h = absurd cc
    by_insn insn h = refl
store_unguessed (Stops why) h = refl

-- so a store is never mispredicted
pub store_predicted : (e : Entry) (step : Step) → is_store e.operation ≡ true → is_mispredicted e step ≡ false
store_predicted e step h = let plain = store_unguessed e.operation h in rw plain refl

-- what has read nothing is untouched
pub none_touched : (b : Option Bytes) → touches b None ≡ false
none_touched None = refl
none_touched (Some b) = refl

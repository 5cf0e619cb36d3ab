-- What entries see of registers and bytes, as more becomes known and as bytes change.
use Rattle.std.proofs.Common.{◌≡◌, ℕ, zero, suc, ◌-◌, ◌<◌, Bool, true, false, List, [], ◌∷◌, length, get_or, Option, Some, None, refl, sym, ap, subst, ◌∙◌, arith, inl, inr}
use Rattle.std.specs.Prelude.{set, slice_index, ◌==◌, if◌then◌else◌}
use Rattle.std.proofs.lemmas.Bool.{cases_eq, cases_lt}
use Rattle.std.proofs.lemmas.Bool.Decides.{nat_tests}
use Rattle.std.proofs.lemmas.List.{get_or-set_same, get_or-set_other, get_or_past, length-set, map-set}
use Rattle.std.specs.Int.{byte_at as byte_of_number}
use Rattle.paged_memory.specs.Cells.{Rights}
use Rattle.paged_memory.specs.declared.Fault.{Fault}
use Rattle.hart_step.specs.declared.environment.Environment.{Environment}
use Rattle.hart_step.specs.declared.effect.Effect.{Effect}
use Rattle.hart_step.specs.declared.effect.Effect.TheVariants.{Loads}
use Rattle.hart_step.specs.State.{written}
use Rattle.hart_step.specs.Values.{load_bytes}
use Rattle.hart_step.specs.Effects.{effect_of}
use Rattle.core_view.specs.declared.operation.Operation.{Operation}
use Rattle.core_view.specs.declared.operation.Operation.TheVariants.{Performs, Stops}
use Rattle.core_view.specs.declared.span.Span.{Span}
use Rattle.core_view.specs.declared.span.Bytes.{Bytes}
use Rattle.core_view.specs.declared.entry.Execution.{Execution}
use Rattle.core_view.specs.declared.entry.Stage.{Stage}
use Rattle.core_view.specs.declared.entry.Stage.TheVariants.{Issued, Done}
use Rattle.core_view.specs.declared.entry.Entry.{Entry}
use Rattle.core_view.specs.Spans.{contains, overlaid, number_in}
use Rattle.core_view.specs.Operations.{destination_of}
use Rattle.core_view.specs.Outcomes.{Image, fault_of, answer, load_span, outcome_with, outcome_over, outcome_in}
use Rattle.core_view.specs.Flight.{Seen, result_of, bytes_done, span_in, seen_with, seen_after, source_value, produced, known, touches}
use Rattle.core_view.proofs.SpanReads.{apart_outside, number_same, byte_outside}

-- ---- registers: what is known stays known

abbrev pub Grows : Option ℕ → Option ℕ → Type 0
Grows a b = (v : ℕ) → a ≡ Some v → b ≡ Some v

pub record IsKnown (seen more : List (Option ℕ)) : Type 0 where
  pub long : length seen ≡ length more
  pub grows : (r : ℕ) → Grows (get_or seen r None) (get_or more r None)

pub known_refl : (seen : List (Option ℕ)) → IsKnown seen seen
known_refl seen = record { long = refl; grows = λ r v h. h }

known-set : (seen more : List (Option ℕ)) (d : ℕ) (a b : Option ℕ) → IsKnown seen more → Grows a b → IsKnown (set seen d a) (set more d b)
known-set seen more d a b h g =
    record {
      long = omega (arith, length-set seen d a, length-set more d b, h.long);
      grows = λ r v e.
          elim (cases_eq r d) [
            | inl same ↦
                elim (cases_lt d (length seen)) [
                  | inl lt ↦
                      let lt' : d < length more = omega (arith, h.long) in
                      let one : a ≡ Some v = sym (get_or-set_same seen d a None lt) ∙ subst (λ k. get_or (set seen d a) k None ≡ Some v) same e in
                      subst (λ k. get_or (set more d b) k None ≡ Some v) (sym same) (get_or-set_same more d b None lt' ∙ g v one)
                  | inr le ↦
                      let past : get_or (set seen d a) r None ≡ None = get_or_past (set seen d a) r None (omega (arith, length-set seen d a, same)) in
                      absurd (let bad : None ≡ Some v = sym past ∙ e in cc)
                ]
            | inr differ ↦
                get_or-set_other more d r b None differ ∙ h.grows r v (sym (get_or-set_other seen d r a None differ) ∙ e)
          ];
    }

pub known-produced : (seen more : List (Option ℕ)) (d : ℕ) (a b : Option ℕ) → IsKnown seen more → Grows a b → IsKnown (produced seen d a) (produced more d b)
known-produced seen more d a b h g = go (d == 0)
  where
    go : (t : Bool) → IsKnown (if t then seen else set seen d a) (if t then more else set more d b)
    go true = h
    go false = known-set seen more d a b h g

pub source_grows : (seen more : List (Option ℕ)) (r : ℕ) → IsKnown seen more → Grows (source_value seen r) (source_value more r)
source_grows seen more r h = go (r == 0)
  where
    go : (t : Bool) → Grows (if t then Some 0 else get_or seen r None) (if t then Some 0 else get_or more r None)
    go true v e = e
    go false v e = h.grows r v e

pub known-written : (registers : List ℕ) (d v : ℕ) → known (written registers d v) ≡ produced (known registers) d (Some v)
known-written registers d v = go (d == 0)
  where
    go : (t : Bool) → known (if t then registers else set registers d v) ≡ (if t then known registers else set (known registers) d (Some v))
    go true = refl
    go false = map-set (λ (x : ℕ). Some x) registers d v

known_value : (registers : List ℕ) (r v : ℕ) → get_or (known registers) r None ≡ Some v → slice_index registers r ≡ v
known_value [] r v h = absurd cc
known_value (x ∷ registers) zero v h = cc
known_value (x ∷ registers) (suc r) v h = known_value registers r v h

-- over known registers a source's value is the register's
pub source_is : (registers : List ℕ) (r v : ℕ) → slice_index registers 0 ≡ 0 → source_value (known registers) r ≡ Some v → slice_index registers r ≡ v
source_is registers r v zero_register h = go (r == 0) refl h
  where
    go : (t : Bool) → (r == 0) ≡ t → (if t then Some 0 else get_or (known registers) r None) ≡ Some v → slice_index registers r ≡ v
    go true is e = let at : r ≡ 0 = grind (arith, nat_tests, is) in ap (slice_index registers) at ∙ zero_register ∙ (let same : 0 ≡ v = cc in same)
    go false is e = known_value registers r v e

-- ---- bytes: they agree outside those of a store

abbrev pub byte_in : Option Bytes → ℕ → Bool
byte_in None x = false
byte_in (Some b) x = contains b.span x

abbrev pub Agree : Option Bytes → (ℕ → ℕ) → (ℕ → ℕ) → Type 0
Agree b f g = (x : ℕ) → byte_in b x ≡ false → f x ≡ g x

pub overlaid_same : (f g : ℕ → ℕ) (o : Option Bytes) (x : ℕ) → f x ≡ g x → overlaid f o x ≡ overlaid g o x
overlaid_same f g None x h = h
overlaid_same f g (Some b) x h = ap (λ (y : ℕ). if contains b.span x then byte_of_number (x - b.span.address) b.value else y) h

pub overlaid_outside : (f : ℕ → ℕ) (b : Option Bytes) → Agree b f (overlaid f b)
overlaid_outside f None x h = refl
overlaid_outside f (Some b) x h = sym (byte_outside f b x h)

pub reads_agree : (f g : ℕ → ℕ) (b : Option Bytes) (s : Span) → Agree b f g → touches b (Some s) ≡ false → number_in f s ≡ number_in g s
reads_agree f g None s h t = number_same f g s (λ x k. h x refl)
reads_agree f g (Some b) s h t = number_same f g s (λ x k. h x (apart_outside b.span s x t k))

-- ---- both

-- more registers are known, and the bytes agree outside those of a store
pub record IsBelow (b : Option Bytes) (seen more : Seen) : Type 0 where
  pub registers : IsKnown seen.registers more.registers
  pub agree : Agree b seen.bytes more.bytes

-- the same entry lets both see the same
pub below_after : (b : Option Bytes) (seen more : Seen) (e : Entry) → IsBelow b seen more → IsBelow b (seen_after seen e) (seen_after more e)
below_after b seen more e h =
    record {
      registers = known-produced seen.registers more.registers (destination_of e.operation) (result_of e.stage) (result_of e.stage) h.registers (λ v x. x);
      agree = λ x out. overlaid_same seen.bytes more.bytes (bytes_done e.stage) x (h.agree x out);
    }

-- a stage that shows more of its result, and no other bytes
pub below_stage : (seen : Seen) (o : Operation) (s t : Stage) → Grows (result_of s) (result_of t) → bytes_done s ≡ bytes_done t → IsBelow None (seen_with seen o s) (seen_with seen o t)
below_stage seen o s t g same =
    record {
      registers = known-produced seen.registers seen.registers (destination_of o) (result_of s) (result_of t) (known_refl seen.registers) g;
      agree = λ x out. ap (λ b. overlaid seen.bytes b x) same;
    }

-- a store that completes changes its own bytes alone
pub below_done : (seen : Seen) (o : Operation) (x : Execution) → IsBelow (bytes_done (Done x)) (seen_with seen o (Issued x)) (seen_with seen o (Done x))
below_done seen o x =
    record {
      registers = known-produced seen.registers seen.registers (destination_of o) None (result_of (Done x)) (known_refl seen.registers) (λ v h. absurd cc);
      agree = overlaid_outside seen.bytes (bytes_done (Done x));
    }

-- ---- an outcome depends on the bytes that it read alone: one that stops on none

over_same : (environment : Environment) (rights : ℕ → Rights) (f g : ℕ → ℕ) (b : Option Bytes) (pc : ℕ) (e : Effect) → Agree b f g
    → touches b (span_in (outcome_over environment rights f pc e)) ≡ false → outcome_over environment rights f pc e ≡ outcome_over environment rights g pc e
over_same environment rights f g b pc (Loads kind address) h t = go (fault_of environment rights (Loads kind address)) t
  where
    s : Span
    s = load_span address (load_bytes kind)

    go : (fault : Option Fault) → touches b (span_in (outcome_with pc (Loads kind address) (answer fault (number_in f s)))) ≡ false
        → outcome_with pc (Loads kind address) (answer fault (number_in f s)) ≡ outcome_with pc (Loads kind address) (answer fault (number_in g s))
    go None apart = ap (λ (n : ℕ). outcome_with pc (Loads kind address) (answer None n)) (reads_agree f g b s h apart)
    go (Some fault) apart = refl
over_same environment rights f g b pc e h t = refl

pub outcome_same : (image : Image) (f g : ℕ → ℕ) (b : Option Bytes) (o : Operation) (pc v w : ℕ) → Agree b f g
    → touches b (span_in (outcome_in image f o pc v w)) ≡ false → outcome_in image f o pc v w ≡ outcome_in image g o pc v w
outcome_same image f g b (Performs insn) pc v w h t = over_same image.environment image.rights f g b pc (effect_of insn pc v w) h t
outcome_same image f g b (Stops why) pc v w h t = refl

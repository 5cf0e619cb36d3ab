-- What a step refuses, as a refusal of the whole.
use Rattle.std.proofs.Common.{◌≡◌, ℕ, ◌+◌, ◌<◌, ◌⊎◌, inl, inr, List, ◌∷◌, length, get_or, string_bytes, sym, subst, ◌∙◌, arith}
use Rattle.std.proofs.Math.Nat.{eq-or-lt_of_le}
use Rattle.std.specs.List.Sorted.{IsStrictlySortedBy}
use Rattle.std.specs.Map.{keys_of}
use Rattle.std.specs.String.{string_cmp}
use Rattle.toml.proofs.Views.{Entry}
use Rattle.toml.specs.Data.{Members}
use Rattle.toml.specs.View.{view, items_view, members_view}
use Rattle.toml.specs.declared.value.Value.{Value}
use Rattle.core_profile.specs.Refusals.{IsFaultless, RefusesFirst}
use Rattle.rv64_asm.specs.declared.fault.LineFault.{LineFault}
use Rattle.lab_plan.proofs.Items.{count_of_view, table_within}
use Rattle.lab_plan.proofs.ProgramOrder.{at_once}
use Rattle.lab_plan.specs.declared.fault.PlanFault.{PlanFault}
use Rattle.lab_plan.specs.declared.fault.PlanFault.TheVariants.{Form, UnknownProgram, TooManyJobs, Profile, Program, OutOfMemory}
use Rattle.lab_plan.specs.Jobs.{AreFaultlessBelow, IsFirstProfileFault, profile_at, table_of}
use Rattle.lab_plan.specs.Parts.{table_of_item}
use Rattle.lab_plan.specs.Programs.{IsFirstProgramFault}
use Rattle.lab_plan.specs.Returned.{RefusesOne, RefusesProgram, RefusesJob, RefusesProfile}

-- the refusal of the first of the programs that remain, where what remains has the first fault of all
pub refused_program : (e : Entry) (es : List Entry) (all : Members) (name : List ℕ) (r : PlanFault) → IsStrictlySortedBy string_cmp (keys_of (e ∷ es)) → name ≡ string_bytes e.0
    → ((n : List ℕ) (fault : LineFault) (line : ℕ) → IsFirstProgramFault (members_view (e ∷ es)) n fault line → IsFirstProgramFault all n fault line)
    → RefusesOne name (view e.1) r → RefusesProgram all r
refused_program e es all name (Program told fault line) sorted same first h =
    subst (λ n. IsFirstProgramFault all n fault line) (sym (h.0 ∙ same)) (first (string_bytes e.0) fault line (at_once e es fault line sorted h.1))
refused_program e es all name OutOfMemory sorted same first h = tt
refused_program e es all name Form sorted same first h = absurd h
refused_program e es all name (UnknownProgram context) sorted same first h = absurd h
refused_program e es all name TooManyJobs sorted same first h = absurd h
refused_program e es all name (Profile job fault) sorted same first h = absurd h

-- the refusal of a job's profile, where those before it have no fault
pub refused_job : (vs : List Value) (i : ℕ) (v : Value) (number : ℕ) (r : PlanFault) → number ≡ i → i < length vs → v ≡ get_or vs i v → AreFaultlessBelow (items_view vs) i
    → RefusesJob (table_of (view v)) number r → RefusesProfile (items_view vs) r
refused_job vs i v number (Profile job fault) at within is below h =
    subst (λ k. IsFirstProfileFault (items_view vs) k fault) (sym (h.0 ∙ at)) (record {
      within = omega (arith, within, count_of_view vs);
      refused = subst (λ ms. RefusesFirst (profile_at ms) fault) (table_within vs i v within is) h.1;
      told = h.2;
      first = below;
    })
refused_job vs i v number OutOfMemory at within is below h = tt
refused_job vs i v number Form at within is below h = absurd h
refused_job vs i v number (UnknownProgram context) at within is below h = absurd h
refused_job vs i v number TooManyJobs at within is below h = absurd h
refused_job vs i v number (Program name fault line) at within is below h = absurd h

-- one more profile without a fault
pub faultless_more : (vs : List Value) (i : ℕ) (v : Value) → i < length vs → v ≡ get_or vs i v → AreFaultlessBelow (items_view vs) i → IsFaultless (profile_at (table_of (view v))) → AreFaultlessBelow (items_view vs) (i + 1)
faultless_more vs i v within is below here k less = by (eq-or-lt_of_le (omega (arith, less)))
  where
    by : (k ≡ i) ⊎ (k < i) → IsFaultless (profile_at (table_of_item (items_view vs) k))
    by (inl same) = subst (λ j. IsFaultless (profile_at (table_of_item (items_view vs) j))) (sym same) (subst (λ ms. IsFaultless (profile_at ms)) (table_within vs i v within is) here)
    by (inr before) = below k before

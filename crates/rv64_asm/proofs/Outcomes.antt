-- A line has one fault or none, and so has a text.
use Rattle.std.proofs.Common.{◌≡◌, ℕ, ◌<◌, ◌≤◌, ◌⊎◌, inl, inr, List, length, take, Option, Some, None, sym, ap, ◌∙◌, arith}
use Rattle.std.specs.Result.{result_err}
use Rattle.std.proofs.lemmas.Bool.{cases_lt}
use Rattle.std.proofs.lemmas.Option.{none-some, same_Some, slice_get_within}
use Rattle.rv64_asm.specs.declared.fault.LineFault.{LineFault}
use Rattle.rv64_asm.specs.declared.fault.AsmFault.TheVariants.{At}
use Rattle.rv64_asm.specs.ProgramValue.{ProgramValue}
use Rattle.rv64_asm.specs.Label.{Label}
use Rattle.rv64_asm.specs.Places.{behind, next_place, HasFault, StandBelow, IsLowestFault}
use Rattle.rv64_asm.specs.Written.{item_of, place_of_line, HasTargetFault}
use Rattle.rv64_asm.specs.Assembled.{IsAssembly, IsTargetFault, IsRefusal}
use Rattle.rv64_asm.proofs.WritingOfOneMore.{reached}

one_fault : (lines : List (List ℕ)) (k : ℕ) (f g : Option LineFault) → HasFault lines k f → HasFault lines k g → f ≡ g
one_fault lines k f g h i =
    let line : h.0 ≡ i.0 = same_Some h.0 i.0 (sym h.1 ∙ i.1) in
    sym h.2 ∙ ap (λ x. result_err (next_place (behind (take k lines)) x)) line ∙ i.2

pub one_target_fault : (lines : List (List ℕ)) (labels : List Label) (k : ℕ) (f g : Option LineFault) → HasTargetFault lines labels k f → HasTargetFault lines labels k g → f ≡ g
one_target_fault lines labels k f g h i =
    let line : h.0 ≡ i.0 = same_Some h.0 i.0 (sym h.1 ∙ i.1) in
    sym h.2 ∙ ap (λ x. result_err (item_of (place_of_line lines k) labels x)) line ∙ i.2

module _ (Has : ℕ → Option LineFault → Type 0) (one : (k : ℕ) (f g : Option LineFault) → Has k f → Has k g → f ≡ g) where
  not_before : (j k : ℕ) (f : LineFault) → Has j (Some f) → ((i : ℕ) → i < k → Has i None) → k ≤ j
  not_before j k f h none = elim (cases_lt j k) [
    | inl below ↦ absurd (none-some f (one j None (Some f) (none j below) h))
    | inr le ↦ le
  ]

  -- the lowest with a fault is one
  one_lowest : (j k : ℕ) (f g : LineFault) → ((i : ℕ) → i < j → Has i None) → Has j (Some f) → ((i : ℕ) → i < k → Has i None) → Has k (Some g) → (f ≡ g) × (j ≡ k)
  one_lowest j k f g before h below i =
      let le : k ≤ j = not_before j k f h below in
      let ge : j ≤ k = not_before k j g i before in
      let e : j ≡ k = omega arith in
      (same_Some f g (one k (Some f) (Some g) (rw (← e) h) i), e)

-- where every line stands, none has a fault
pub all_stand : (lines : List (List ℕ)) (fault : LineFault) (k : ℕ) → HasFault lines k (Some fault) → StandBelow lines (length lines) → ⊥
all_stand lines fault k h stand = none-some fault (one_fault lines k None (Some fault) (stand k (slice_get_within lines k h.0 h.1)) h)

pub not_refused : (lines : List (List ℕ)) (program : ProgramValue) (labels : List Label) (fault : LineFault) (number : ℕ) → IsAssembly lines program labels → IsRefusal lines (At fault number) → ⊥
not_refused lines program labels fault number a h = by h.2
  where
    by : (IsLowestFault lines fault h.0 ⊎ IsTargetFault lines fault h.0) → ⊥
    by (inl f) = all_stand lines fault h.0 f.has_fault a.stand
    by (inr f) =
        let w = a.is_program.written h.0 (slice_get_within lines h.0 f.has_fault.0 f.has_fault.1) in
        none-some fault (one_target_fault lines labels h.0 None (Some fault) (reached lines labels program.words program.bytes h.0 w) (rw a.labels_are f.has_fault))

pub one_fault_of_text : (lines : List (List ℕ)) (fault other : LineFault) (n m : ℕ) → IsRefusal lines (At fault n) → IsRefusal lines (At other m) → (fault ≡ other) × (n ≡ m)
one_fault_of_text lines fault other n m h i = by h.2 i.2
  where
    by : (IsLowestFault lines fault h.0 ⊎ IsTargetFault lines fault h.0) → (IsLowestFault lines other i.0 ⊎ IsTargetFault lines other i.0) → (fault ≡ other) × (n ≡ m)
    by (inl f) (inl g) =
        let r = one_lowest (HasFault lines) (one_fault lines) h.0 i.0 fault other f.stand f.has_fault g.stand g.has_fault in
        (r.0, omega (arith, h.1, i.1, r.1))
    by (inl f) (inr g) = absurd (all_stand lines fault h.0 f.has_fault g.stand)
    by (inr f) (inl g) = absurd (all_stand lines other i.0 g.has_fault f.stand)
    by (inr f) (inr g) =
        let labels = (behind lines).labels in
        let r = one_lowest (HasTargetFault lines labels) (one_target_fault lines labels) h.0 i.0 fault other f.reach f.has_fault g.reach g.has_fault in
        (r.0, omega (arith, h.1, i.1, r.1))

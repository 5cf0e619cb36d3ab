-- The layout of one line more.
use Rattle.std.proofs.Common.{◌≡◌, ℕ, ◌<◌, ◌+◌, List, [], ◌∷◌, ◌++◌, length, get_or, take, Option, Some, None, Result, Ok, Err, refl, sym, ap, ◌∙◌, below_more}
use Rattle.std.specs.List.{slice_get}
use Rattle.std.specs.Result.{result_unwrap_or, result_err}
use Rattle.std.proofs.lemmas.List.{take_more}
use Rattle.std.proofs.lemmas.List.Sums.{fold-append}
use Rattle.std.proofs.lemmas.Option.{slice_get_read}
use Rattle.rv64_asm.specs.declared.fault.LineFault.{LineFault}
use Rattle.rv64_asm.specs.declared.place.Place.{Place}
use Rattle.rv64_asm.specs.Label.{Label}
use Rattle.rv64_asm.specs.Statements.{split_line, label_of}
use Rattle.rv64_asm.specs.Places.{Layout, behind, start, step, place_after, next_place, with_label, address, HasFault, StandBelow, IsLowestFault}

module _ (all : List (List ℕ)) (n : ℕ) (x : List ℕ) (within : n < length all) (is : x ≡ get_or all n x) where
  taken : take (n + 1) all ≡ take n all ++ x ∷ []
  taken = take_more all n x within ∙ ap (λ y. take n all ++ y ∷ []) (sym is)

  -- the layout goes one step on
  pub behind_more : (s t : Layout) → behind (take n all) ≡ s → step s x ≡ Ok t → behind (take (n + 1) all) ≡ t
  behind_more s t so_far e =
      let here : step (behind (take n all)) x ≡ Ok t = rw so_far e in
      ap behind taken ∙ fold-append (λ u line. result_unwrap_or (step u line) u) start (take n all) (x ∷ []) ∙ rw here refl

  pub line_here : slice_get all n ≡ Some x
  line_here = slice_get_read all (length all) n x refl within is

  here : (s : Layout) (fault : Option LineFault) → behind (take n all) ≡ s → result_err (next_place s x) ≡ fault → HasFault all n fault
  here s fault so_far e = (x, line_here, rw so_far e)

  pub stand_more : (s : Layout) → behind (take n all) ≡ s → StandBelow all n → result_err (next_place s x) ≡ None → StandBelow all (n + 1)
  stand_more s so_far below e = below_more (λ k. HasFault all k None) n below (here s None so_far e)

  pub lowest : (s : Layout) → behind (take n all) ≡ s → StandBelow all n → (fault : LineFault) → result_err (next_place s x) ≡ Some fault → IsLowestFault all fault n
  lowest s so_far below fault e = record { stand = below; has_fault = here s (Some fault) so_far e }

-- the place behind a line, from its label and what stands behind that
pub next_is : (s : Layout) (line : List ℕ) (label : Option (List ℕ)) (body : List ℕ) (r : Result Place LineFault) → (label, body) ≡ split_line line → r ≡ place_after s label body → next_place s line ≡ r
unfolding next_place
next_is s line label body r split e =
    let l : label ≡ (split_line line).0 = ap (λ (x : Option (List ℕ) × List ℕ). x.0) split in
    let b : body ≡ (split_line line).1 = ap (λ (x : Option (List ℕ) × List ℕ). x.1) split in
    rw (← l, ← b) (sym e)

pub stepped : (s : Layout) (x : List ℕ) (next : Place) (labels : List Label) → next_place s x ≡ Ok next → labels ≡ with_label s.labels (address s.place) (label_of x) → step s x ≡ Ok (record { place = next; labels = labels })
stepped s x next labels e f = rw (e, f) refl

pub no_fault : (s : Layout) (x : List ℕ) (next : Place) → next_place s x ≡ Ok next → result_err (next_place s x) ≡ None
no_fault s x next e = rw e refl

pub a_fault : (s : Layout) (x : List ℕ) (fault : LineFault) → next_place s x ≡ Err fault → result_err (next_place s x) ≡ Some fault
a_fault s x fault e = rw e refl

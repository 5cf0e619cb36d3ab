-- What a completion leaves behind no guessed entry.
use Rattle.std.proofs.Common.{◌≡◌, ◌≢◌, ℕ, ◌<◌, ◌≤◌, Bool, true, false, List, length, set, refl, sym, ◌∙◌, ap, arith, inl, inr}
use Rattle.std.specs.Int.{bit_at}
use Rattle.std.proofs.lemmas.List.{get_or-set_same, get_or-set_other}
use Rattle.core_view.specs.declared.entry.Entry.{Entry}
use Rattle.core_view.specs.declared.entry.Execution.{Execution}
use Rattle.core_view.specs.declared.entry.Stage.TheVariants.{Issued}
use Rattle.core_view.specs.Events.{completed_entry}
use Rattle.core_view.specs.Flight.{is_open_guess}
use Rattle.core_view.specs.Operations.{is_guessed}
use Rattle.core_view.specs.View.{no_entry}
use Rattle.flight.specs.declared.finished.Finished.{Finished}
use Rattle.flight.specs.Marked.{is_waiting}
use Rattle.flight.specs.Flights.{Flight, entry_in, finished_one, NoneOpenBelow, Frees}
use Rattle.flight.proofs.Looks.{eq-or}

no : true ≡ false → ⊥
no e = cc

module _ (old new : Flight) (place : ℕ) (x : Execution) (within : place < length old.entries) (issued : (entry_in old.entries place).stage ≡ Issued x) (done : new ≡ finished_one old place x) where
  abbrev es : List Entry
  es = old.entries

  made : new.entries ≡ set es place (completed_entry (entry_in es place) x)
  made = ap (λ (f : Flight). f.entries) done

  count : new.renamed ≡ old.renamed
  count = ap (λ (f : Flight). f.renamed) done

  other : (i : ℕ) → i ≢ place → entry_in new.entries i ≡ entry_in es i
  other i ne = ap (λ fs. entry_in fs i) made ∙ get_or-set_other es place i (completed_entry (entry_in es place) x) no_entry ne

  here : entry_in new.entries place ≡ completed_entry (entry_in es place) x
  here = ap (λ fs. entry_in fs place) made ∙ get_or-set_same es place (completed_entry (entry_in es place) x) no_entry within

  -- what has completed waits no more
  waits-other : (i : ℕ) → is_waiting (entry_in new.entries i) ≡ true → i ≢ place
  waits-other i waits same = no (sym waits ∙ ap (λ k. is_waiting (entry_in new.entries k)) same ∙ ap is_waiting here)

  open-here : is_guessed (entry_in es place).operation ≡ true → is_open_guess (entry_in es place) ≡ true
  open-here guessed = rw (guessed, issued) refl

  unguessed-here : is_guessed (entry_in es place).operation ≡ false → is_open_guess (entry_in es place) ≡ false
  unguessed-here guessed = rw guessed refl

  open-same : is_guessed (entry_in es place).operation ≡ false → (j : ℕ) → is_open_guess (entry_in new.entries j) ≡ false → is_open_guess (entry_in es j) ≡ false
  open-same guessed j closed = elim (eq-or j place) [
    | inl same ↦ ap (λ k. is_open_guess (entry_in es k)) same ∙ unguessed-here guessed
    | inr ne ↦ ap is_open_guess (sym (other j ne)) ∙ closed
  ]

  pub freed : (f : Finished) (a b : ℕ)
      → ((i : ℕ) → i < new.renamed → is_waiting (entry_in new.entries i) ≡ true → NoneOpenBelow new.entries i → bit_at a i ≡ 1)
      → ((i : ℕ) → bit_at a i ≡ 1 → i < new.renamed) → ((i : ℕ) → bit_at a i ≡ 1 → is_waiting (entry_in new.entries i) ≡ true) → ((i : ℕ) → bit_at a i ≡ 1 → NoneOpenBelow new.entries i)
      → ((i : ℕ) → i < old.renamed → is_waiting (entry_in es i) ≡ true → NoneOpenBelow es i → bit_at b i ≡ 1) → ((i : ℕ) → bit_at b i ≡ 1 → NoneOpenBelow es i)
      → (f.frees ≡ false → (i : ℕ) → bit_at a i ≡ 1 → bit_at b i ≡ 1) → (((i : ℕ) → bit_at a i ≡ 1 → bit_at b i ≡ 1) → f.frees ≡ false)
      → Frees old new place f
  freed f a b set_a within_a waits_a none_a set_b none_b fewer all = record { guessed = guessed (is_guessed (entry_in es place).operation) refl; none = none }
    where
      same : is_guessed (entry_in es place).operation ≡ false → (i : ℕ) → bit_at a i ≡ 1 → bit_at b i ≡ 1
      same plain i one =
          let ne = waits-other i (waits_a i one) in
          set_b i (omega (arith, within_a i one, count)) (ap is_waiting (sym (other i ne)) ∙ waits_a i one) (λ j lt. open-same plain j (none_a i one j lt))

      guessed : (g : Bool) → is_guessed (entry_in es place).operation ≡ g → f.frees ≡ true → g ≡ true
      guessed true is frees = refl
      guessed false is frees = absurd (no (sym frees ∙ all (same is)))

      none : f.frees ≡ false → is_guessed (entry_in es place).operation ≡ true → (i : ℕ) → place ≤ i → i < new.renamed → NoneOpenBelow new.entries i → is_waiting (entry_in new.entries i) ≡ false
      none frees is i from below unopened = go (is_waiting (entry_in new.entries i)) refl
        where
          go : (w : Bool) → is_waiting (entry_in new.entries i) ≡ w → w ≡ false
          go false waits = refl
          go true waits =
              let ne = waits-other i waits in
              absurd (no (sym (open-here is) ∙ none_b i (fewer frees i (set_a i below waits unopened)) place (omega (arith, from, ne))))

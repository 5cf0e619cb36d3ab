-- An entry completes that squashes nothing: a guess that was right leaves what waits behind no other.
use Rattle.std.proofs.Common.{◌≡◌, ℕ, ◌+◌, ◌<◌, ◌≤◌, Bool, true, false, min, length, None, Some, refl, sym, ap, ◌∙◌, arith}
use Rattle.std.specs.Prelude.{if◌then◌else◌}
use Rattle.core_view.specs.declared.entry.Execution.{Execution}
use Rattle.core_view.specs.Flight.{is_open_guess, result_in}
use Rattle.core_view.specs.Operations.{is_guessed}
use Rattle.core_view.specs.View.{entry_at}
use Rattle.data_flow.specs.Flow.{Flow, lane, with_lane, with_result}
use Rattle.flight.specs.declared.finished.Finished.{Finished}
use Rattle.flight.specs.Flights.{Frees}
use Rattle.core_context.specs.Track.{Track, flight_of, completed, cut_stamp}
use Rattle.core_context.specs.Steps.{cut_by, settled_flow, completed_flow, AreTold}
use Rattle.core_context.proofs.Settles.{settled_end}

no : true ≡ false → ⊥
no e = cc

module _ (f g h : Flow) (c : ℕ) (t u : Track) (i value : ℕ) (x : Execution) where
  -- the data flow has its result, and nothing is cut
  pub plain_result : g ≡ with_lane f c (with_result (lane f c) i value) → result_in x.outcome ≡ Some value → cut_stamp t.context i x ≡ None → g ≡ cut_by f c i x t.context
  plain_result made result kept =
      let same : with_lane f c (with_result (lane f c) i value) ≡ cut_by f c i x t.context = rw (kept, result) refl in
      made ∙ same

  -- what waits is told of
  pub plain_flow : (guess : ℕ) (fin : Finished) → g ≡ cut_by f c i x t.context → u ≡ completed t i x → Frees (flight_of t) (flight_of u) i fin → i ≤ u.renamed → u.renamed ≤ length u.context.flight
      → ((n : ℕ) → n ≤ i → AreTold g c u.context.flight n)
      → ((j : ℕ) → j < guess → j < u.renamed → is_open_guess (entry_at u.context j) ≡ false) → (guess < u.renamed → is_open_guess (entry_at u.context guess) ≡ true)
      → (fin.frees ≡ true → h ≡ settled_flow g c u) → (fin.frees ≡ false → h ≡ g) → h ≡ completed_flow f c i x t
  plain_flow guess fin whole done frees renamed within told before here freed same = by_guess (is_guessed (entry_at t.context i).operation) refl
    where
      -- where it was guessed and none waits that it held back
      settled : is_guessed (entry_at t.context i).operation ≡ true → fin.frees ≡ false → g ≡ settled_flow g c u
      settled guessed none =
          settled_end g g c u guess (min i (guess + 1)) (told (min i (guess + 1)) (omega arith) (λ j lt. before j (omega (arith, lt)) (omega (arith, lt, renamed)))) (omega (arith, renamed)) (omega arith) within
          (λ j from below upto. frees.none none guessed j (omega (arith, from, upto)) below (λ k lt. before k (omega (arith, lt, upto)) (omega (arith, lt, below)))) before here

      as_completed : settled_flow g c u ≡ settled_flow (cut_by f c i x t.context) c (completed t i x)
      as_completed = ap (λ q. settled_flow q c u) whole ∙ ap (settled_flow (cut_by f c i x t.context) c) done

      right : is_guessed (entry_at t.context i).operation ≡ true → (b : Bool) → fin.frees ≡ b → h ≡ settled_flow g c u
      right guessed true is = freed is
      right guessed false is = same is ∙ settled guessed is

      other : is_guessed (entry_at t.context i).operation ≡ false → (b : Bool) → fin.frees ≡ b → h ≡ g
      other unguessed true is = absurd (no (sym (frees.guessed is) ∙ unguessed))
      other unguessed false is = same is

      by_guess : (b : Bool) → is_guessed (entry_at t.context i).operation ≡ b → h ≡ (if b then settled_flow (cut_by f c i x t.context) c (completed t i x) else cut_by f c i x t.context)
      by_guess true is = right is fin.frees refl ∙ as_completed
      by_guess false is = other is fin.frees refl ∙ whole

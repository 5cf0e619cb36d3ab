use Rattle.std.proofs.Common.{◌≡◌, ◌+◌, ◌<◌, ℕ, true, length, slice_set, ap, sym, ◌∙◌, refl}
use Rattle.circular_buffer.specs.Buffer.{Buffer}
use Rattle.core_view.specs.declared.entry.Entry.{Entry}
use Rattle.core_view.specs.declared.entry.Execution.{Execution}
use Rattle.core_view.specs.declared.entry.Stage.TheVariants.{Issued}
use Rattle.core_view.specs.declared.operation.Operation.{Operation}
use Rattle.core_view.specs.declared.operation.Operation.TheVariants.{Performs, Stops}
use Rattle.core_view.specs.Operations.{is_guessed}
use Rattle.core_view.specs.Events.{with_stage, renamed_stage}
use Rattle.core_view.specs.Queues.{is_renamed}
use Rattle.flight.specs.Flights.{renamed_one}
use Rattle.flight.proofs.Kept.{flight_of, flight-renamed}
use Rattle.flight.proofs.Ahead.{guesses-set-first}
use Rattle.flight.proofs.flight.Flight.rename.Goals as goal

renamed : (cycle : ℕ) (o : Operation) → is_renamed (renamed_stage cycle o) ≡ true
renamed cycle (Performs insn) = refl
renamed cycle (Stops why) = refl

idle : (cycle : ℕ) (o : Operation) (x : Execution) → renamed_stage cycle o ≡ Issued x → ⊥
idle cycle (Performs insn) x is = cc
idle cycle (Stops why) x is = cc

pub invariant_of-self : goal.invariant_of-self
invariant_of-self g c =
    let stage = ap (λ (e : Entry). e.stage) c.renamed-entry.ensures in
    let same = ap (λ (e : Entry). e.operation) c.renamed-entry.ensures ∙ ap (λ (e : Entry). e.operation) c.at.ensures in
    let made = ap (λ (b : Buffer Entry). b.items) c.set_in.ensures in
    let some : c.self.inside.renamed < length c.self.inside.ring.items = rw (← c.self.view_is) at c.requires.some in
    let few : c.self.inside.renamed < 64 = rw (← c.self.view_is) at c.requires.few in (
      flight-renamed _ _ c.renamed-entry.result _ _ _ _ _ c.self.invariant.0 some few (ap is_renamed stage ∙ renamed c.args.cycle c.at.result.now.operation) (λ x is. idle c.args.cycle c.at.result.now.operation x (sym stage ∙ is)) made
          (λ xs was long room. c.push.ensures xs was long),
      guesses-set-first _ c.self.inside.renamed c.self.inside.ring.items _ c.renamed-entry.result (c.guesses_left-self-inside.ensures c.self.inside.renamed c.self.inside.ring.items c.self.invariant.1 some (c.is_guessed.ensures ∙ ap is_guessed same)) made,
    )

pub returns : goal.returns
returns g c =
    let is = c.renamed-entry.ensures ∙ ap (λ (e : Entry). with_stage e (renamed_stage c.args.cycle e.operation)) c.at.ensures in
    ap (λ (b : Buffer Entry). flight_of b.items (c.self.inside.renamed + 1) b.capacity) c.set_in.ensures
    ∙ ap (λ (e : Entry). flight_of (slice_set c.self.inside.ring.items c.self.inside.renamed e) (c.self.inside.renamed + 1) c.self.inside.ring.capacity) is
    ∙ ap (renamed_one c.args.cycle) c.self.view_is

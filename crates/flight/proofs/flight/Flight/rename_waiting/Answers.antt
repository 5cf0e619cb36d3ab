use Rattle.std.proofs.Common.{◌≡◌, ℕ, ◌+◌, ◌<◌, false, length, slice_set, ap, sym, ◌∙◌, refl}
use Rattle.circular_buffer.specs.Buffer.{Buffer}
use Rattle.core_view.specs.declared.entry.Entry.{Entry}
use Rattle.core_view.specs.declared.entry.Execution.{Execution}
use Rattle.core_view.specs.declared.entry.Stage.TheVariants.{Issued, Queued}
use Rattle.core_view.specs.declared.operation.Operation.{Operation}
use Rattle.core_view.specs.declared.operation.Operation.TheVariants.{Performs, Stops}
use Rattle.core_view.specs.Operations.{is_guessed, stops_at_fetch}
use Rattle.core_view.specs.Events.{with_stage, renamed_stage}
use Rattle.core_view.specs.Queues.{is_renamed}
use Rattle.flight.specs.Flights.{entry_in, renamed_one}
use Rattle.flight.proofs.Kept.{flight_of, flight-renamed}
use Rattle.flight.proofs.Ahead.{guesses-set-first}
use Rattle.flight.proofs.flight.Flight.rename_waiting.Goals as goal

idle : (x : Execution) → Queued ≡ Issued x → ⊥
idle x is = cc

pub invariant_of-self : goal.invariant_of-self
invariant_of-self g c =
    let stage = ap (λ (e : Entry). e.stage) c.queued-entry.ensures in
    let same = ap (λ (e : Entry). e.operation) c.queued-entry.ensures ∙ ap (λ (e : Entry). e.operation) c.at.ensures in
    let made = ap (λ (b : Buffer Entry). b.items) c.queue_in.ensures ∙ ap (λ (e : Entry). slice_set c.self.inside.ring.items c.self.inside.renamed (with_stage e Queued)) (sym c.at.ensures) ∙ ap (λ (e : Entry). slice_set c.self.inside.ring.items c.self.inside.renamed e) (sym c.queued-entry.ensures) in
    let some : c.self.inside.renamed < length c.self.inside.ring.items = rw (← c.self.view_is) at c.requires.some in
    let few : c.self.inside.renamed < 64 = rw (← c.self.view_is) at c.requires.few in (
      flight-renamed _ _ c.queued-entry.result _ _ _ _ _ c.self.invariant.0 some few (ap is_renamed stage) (λ x is. idle x (sym stage ∙ is)) made
          (λ xs was long room. c.push_queued.ensures xs was long stage),
      guesses-set-first _ c.self.inside.renamed c.self.inside.ring.items _ c.queued-entry.result (c.guesses_left-self-inside.ensures c.self.inside.renamed c.self.inside.ring.items c.self.invariant.1 some (c.is_guessed.ensures ∙ ap is_guessed same)) made,
    )

waits : (cycle : ℕ) (o : Operation) → stops_at_fetch o ≡ false → Queued ≡ renamed_stage cycle o
waits cycle (Performs insn) goes = refl
waits cycle (Stops why) goes = absurd cc

pub returns : goal.returns
returns g c cycle =
    let goes : stops_at_fetch (entry_in c.self.inside.ring.items c.self.inside.renamed).operation ≡ false = rw (← c.self.view_is) at c.requires.goes in
    let e = entry_in c.self.inside.ring.items c.self.inside.renamed in
    ap (λ (b : Buffer Entry). flight_of b.items (c.self.inside.renamed + 1) b.capacity) c.queue_in.ensures
    ∙ ap (λ s. flight_of (slice_set c.self.inside.ring.items c.self.inside.renamed (with_stage e s)) (c.self.inside.renamed + 1) c.self.inside.ring.capacity) (waits cycle e.operation goes)
    ∙ ap (renamed_one cycle) c.self.view_is

use Rattle.std.proofs.Common.{◌≡◌, ℕ, refl, ◌∙◌}
use Rattle.std.specs.Prelude.{Result, Ok, Err, OnOk, OnErr}
use Rattle.flight.specs.Flights.{Flight, renamed_one}
use Rattle.load_store_queue.specs.declared.fault.QueueFault.{QueueFault}
use Rattle.load_store_queue.specs.declared.fault.QueueFault.TheVariants.{Full}
use Rattle.queue_tests.proofs.accesses.Accesses.rename.Goals as goal

-- a load or a store that asks for its place leaves the room that there is
same_room : {X : Type 0} (r : Result X QueueFault) (old new : Flight) → OnOk r ((cycle : ℕ) → new ≡ renamed_one cycle old) → OnErr r ((r ≡ Err Full) × (new ≡ old)) → new.capacity ≡ old.capacity
same_room (Ok u) old new ok err = rw (ok 0) refl
same_room (Err fault) old new ok err = rw err.1 refl

pub invariant_of-self : goal.invariant_of-self
invariant_of-self g c = same_room c.place_load.result c.self.inside.flight c.place_load.new.flight c.place_load.ensures.renamed c.place_load.ensures.err ∙ c.self.invariant

pub invariant_of-self-then-is_store : goal.invariant_of-self-then-is_store
invariant_of-self-then-is_store g c = same_room c.place_store.result c.self.inside.flight c.place_store.new.flight c.place_store.ensures.renamed c.place_store.ensures.err ∙ c.self.invariant

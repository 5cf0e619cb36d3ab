use Rattle.std.proofs.Common.{◌≡◌, refl, arith}
use Rattle.flight.specs.Flights.{entry_in}
use Rattle.load_store_queue.proofs.ReadEntry.{read-some, read-entry-at, no-place-there, place-there}
use Rattle.load_store_queue.proofs.load_store_queue.LoadStoreQueue.place.Given.{Over}
use Rattle.load_store_queue.proofs.load_store_queue.LoadStoreQueue.place.Goals.{After-has_place}
use Rattle.load_store_queue.proofs.load_store_queue.LoadStoreQueue.place.Goals as goal

-- the entry that was read
here : (g : Over) (c : After-has_place g) → entry_in c.args.flight.now.entries c.args.flight.now.renamed ≡ c.unwrap-entry.result.now
here g c = read-entry-at c.args.flight.now.entries c.args.flight.now.renamed c.renamed_count.result c.get.result c.unwrap-entry.result c.renamed_count.ensures.value c.get.ensures c.unwrap-entry.ensures

pub unwrap-entry-requires : goal.unwrap-entry-requires
unwrap-entry-requires g c =
    let some = c.requires.some in
    let is = c.renamed_count.ensures.value in
    read-some c.args.flight.now.entries c.renamed_count.result c.get.result (omega (arith, some, is)) c.get.ensures

pub rename_waiting-requires-clause-goes : goal.rename_waiting-requires-clause-goes
rename_waiting-requires-clause-goes g c = c.requires.goes

pub returns-then-not-has_place-clause-variant : goal.returns-then-not-has_place-clause-variant
returns-then-not-has_place-clause-variant g c =
    let f = c.args.flight.now in
    no-place-there c.args.self.now f.entries f.renamed c.unwrap-entry.result.now c.has_place.result (here g (goal.at.returns-then-not-has_place-clause-variant g c).After-has_place) c.has_place.ensures c.if-not-has_place.true

pub returns-then-not-has_place-clause-err : goal.returns-then-not-has_place-clause-err
returns-then-not-has_place-clause-err g c = (refl, refl)

pub returns-clause-variant : goal.returns-clause-variant
returns-clause-variant g c =
    let f = c.args.flight.now in
    place-there c.args.self.now f.entries f.renamed c.unwrap-entry.result.now c.has_place.result (here g (goal.at.returns-clause-variant g c).After-has_place) c.has_place.ensures c.if-not-has_place.false

pub returns-clause-renamed : goal.returns-clause-renamed
returns-clause-renamed g c = c.rename_waiting.ensures

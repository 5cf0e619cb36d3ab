use Rattle.flight.specs.Marked.{is_completed_store}
use Rattle.flight.specs.Flights.{NoneRenamedBelow, IsLastRenamed}
use Rattle.load_store_queue.proofs.RenamedPlace.{renamed-place}
use Rattle.load_store_queue.proofs.StoresBefore.{clear-without, where-none}
use Rattle.load_store_queue.proofs.load_store_queue.LoadStoreQueue.has_no_completed_store.Goals as goal

pub returns-clause-clear : goal.returns-clause-clear
returns-clause-clear g c none place span renamed =
    let f = c.args.flight.now in
    let counted = c.renamed_count-renamed.ensures in
    clear-without f place (renamed-place f place c.renamed_count-renamed.result counted.value counted.oldest counted.within c.len-len.ensures.growing renamed)
    (rw (← counted.value) counted.few) (where-none c.last_completed_store.result (NoneRenamedBelow is_completed_store f 64) (λ place. IsLastRenamed is_completed_store f 64 place) c.is_none.result c.is_none.ensures none c.last_completed_store.ensures) span

use Rattle.std.proofs.Common.{sym, ◌∙◌}
use Rattle.core_view.specs.Queues.{stores_of}
use Rattle.flight.specs.Flights.{entry_in}
use Rattle.load_store_queue.proofs.SeenByNewest.{seen_in_memory, seen_in_store}
use Rattle.load_store_queue.proofs.load_store_queue.LoadStoreQueue.forward.Goals as goal

pub returns-in_default-clause-seen : goal.returns-in_default-clause-seen
returns-in_default-clause-seen g c = λ memory is.
    let es = c.args.flight.now.entries in
    seen_in_memory memory (stores_of es) (entry_in es c.args.place).stamp c.args.span c.newest_sharing.result c.newest_sharing.ensures c.args.number c.in_default.is is

pub returns-then-covers-clause-seen : goal.returns-then-covers-clause-seen
returns-then-covers-clause-seen g c = λ memory is.
    let es = c.args.flight.now.entries in
    seen_in_store memory (stores_of es) (entry_in es c.args.place).stamp c.args.span c.newest_sharing.result c.newest_sharing.ensures c.in-Some.store c.part.result c.in-Some.is (sym c.covers.ensures.is ∙ c.if-covers.true) c.part.ensures.is

use Rattle.std.proofs.Common.{ap, ◌∙◌}
use Rattle.flight.specs.Flights.{Flight}
use Rattle.core_view.specs.Queues.{loads_of, stores_of}
use Rattle.load_store_queue.proofs.Slots.{loads_retired, stores_retired}
use Rattle.load_store_queue.proofs.load_store_queue.LoadStoreQueue.retire.Goals as goal

pub returns-clause-loads : goal.returns-clause-loads
returns-clause-loads g c = ap (λ (f : Flight). loads_of f.entries) c.retire.ensures ∙ loads_retired c.args.flight.now.entries c.len-len.ensures.growing

pub returns-clause-stores : goal.returns-clause-stores
returns-clause-stores g c = ap (λ (f : Flight). stores_of f.entries) c.retire.ensures ∙ stores_retired c.args.flight.now.entries c.len-len.ensures.growing

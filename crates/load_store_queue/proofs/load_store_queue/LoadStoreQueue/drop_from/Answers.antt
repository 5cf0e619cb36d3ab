use Rattle.std.proofs.Common.{ap, ◌∙◌}
use Rattle.flight.specs.Flights.{Flight}
use Rattle.core_view.specs.Queues.{loads_of, stores_of}
use Rattle.load_store_queue.proofs.Slots.{loads_below, stores_below}
use Rattle.load_store_queue.proofs.load_store_queue.LoadStoreQueue.drop_from.Goals as goal

pub returns-clause-loads : goal.returns-clause-loads
returns-clause-loads g c = ap (λ (f : Flight). loads_of f.entries) c.cut_past.ensures ∙ loads_below c.args.stamp c.args.flight.now.entries

pub returns-clause-stores : goal.returns-clause-stores
returns-clause-stores g c = ap (λ (f : Flight). stores_of f.entries) c.cut_past.ensures ∙ stores_below c.args.stamp c.args.flight.now.entries

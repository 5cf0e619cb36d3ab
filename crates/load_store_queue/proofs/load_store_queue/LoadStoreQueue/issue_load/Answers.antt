use Rattle.std.proofs.Common.{ap, ◌∙◌}
use Rattle.flight.specs.Flights.{Flight}
use Rattle.core_view.specs.Queues.{loads_of, stores_of}
use Rattle.load_store_queue.proofs.Slots.{loads_issued, stores_kept_at_issue}
use Rattle.load_store_queue.proofs.load_store_queue.LoadStoreQueue.issue_load.Goals as goal

pub returns-clause-loads : goal.returns-clause-loads
returns-clause-loads g c = ap (λ (f : Flight). loads_of f.entries) c.issue.ensures ∙ loads_issued c.args.flight.now.entries c.len-len.ensures.growing c.args.place c.args.execution c.requires.place c.requires.queued c.requires.load

pub returns-clause-stores : goal.returns-clause-stores
returns-clause-stores g c = ap (λ (f : Flight). stores_of f.entries) c.issue.ensures ∙ stores_kept_at_issue c.args.flight.now.entries c.args.place c.args.execution c.requires.queued

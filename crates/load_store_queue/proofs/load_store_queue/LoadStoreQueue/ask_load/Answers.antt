use Rattle.std.proofs.Common.{rules}
use Rattle.load_store_queue.proofs.load_store_queue.LoadStoreQueue.ask_load.Goals as goal

pub returns-clause-clear : goal.returns-clause-clear
returns-clause-clear g c = search rules

pub returns-clause-seen : goal.returns-clause-seen
returns-clause-seen g c = search rules

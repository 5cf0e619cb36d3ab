use Rattle.std.proofs.Common.{rules}
use Rattle.checkpoint_file.proofs.device.sink.WatchedSink.put.Goals as goal

pub returns-in-Err-clause-failed : goal.returns-in-Err-clause-failed
returns-in-Err-clause-failed g c = search rules

use Rattle.std.proofs.Common.{refl}
use Rattle.checkpoint_file.proofs.device.sink.WatchedSink.failed.Goals as goal

pub returns : goal.returns
returns g c = refl

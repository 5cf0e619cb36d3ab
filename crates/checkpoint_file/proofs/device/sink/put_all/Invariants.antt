use Rattle.std.proofs.Common.{◌≡◌, false, length}
use Rattle.checkpoint_file.proofs.PutOneMore.{HasPut}
use Rattle.checkpoint_file.proofs.device.sink.put_all.Given as goal

abbrev pub invariant-loop-rest : goal.invariant-loop-rest
invariant-loop-rest g l =
    record {
      put : HasPut (g.W.Sink.contents l.fn.device) (g.W.Sink.contents l.device) l.bytes l.rest;
      works : g.W.Sink.has_failed l.device ≡ false;
      name : g.W.Sink.name_of l.device ≡ g.W.Sink.name_of l.fn.device;
    }

abbrev pub decreases-loop-rest : goal.decreases-loop-rest
decreases-loop-rest g l = length l.rest

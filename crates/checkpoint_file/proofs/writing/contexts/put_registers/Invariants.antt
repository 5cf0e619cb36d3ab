use Rattle.std.proofs.Common.{◌≡◌, drop}
use Rattle.checkpoint_file.proofs.WrittenLemmas.{WroteFront}
use Rattle.checkpoint_file.specs.Contexts.{register_lines}
use Rattle.checkpoint_file.proofs.writing.contexts.put_registers.Given as goal

abbrev pub invariant-loop-number : goal.invariant-loop-number
invariant-loop-number g l =
    record {
      wrote : WroteFront (g.W.Sink.contents l.fn.device) (g.W.Sink.contents l.device) (g.W.Sink.has_failed l.device) l.fn.hasher l.hasher
          (register_lines l.number (drop l.number l.registers)) (register_lines 1 (drop 1 l.registers));
      name : g.W.Sink.name_of l.device ≡ g.W.Sink.name_of l.fn.device;
    }

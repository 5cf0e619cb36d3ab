use Rattle.std.proofs.Common.{drop}
use Rattle.checkpoint_file.proofs.SkipLemmas.{Skips}
use Rattle.checkpoint_file.specs.Contexts.{register_lines}
use Rattle.checkpoint_file.proofs.matching.after_registers.Given as goal

abbrev pub invariant-loop-number : goal.invariant-loop-number
invariant-loop-number l = Skips l.bytes l.rest (register_lines l.number (drop l.number l.registers)) (register_lines 1 (drop 1 l.registers))

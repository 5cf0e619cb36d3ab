use Rattle.std.proofs.Common.{◌≡◌, length}
use Rattle.rv64_asm.specs.Lexing.{skip_blanks}
use Rattle.rv64_asm.proofs.lexing.trim_start.Given as goal

abbrev pub invariant-loop-s : goal.invariant-loop-s
invariant-loop-s l = skip_blanks l.s ≡ skip_blanks l.fn.s

abbrev pub decreases-loop-s : goal.decreases-loop-s
decreases-loop-s l = length l.s

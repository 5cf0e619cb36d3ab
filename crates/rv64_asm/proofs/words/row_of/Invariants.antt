use Rattle.std.proofs.Common.{◌≡◌, drop, map}
use Rattle.rv64_asm.specs.Words.{lookup}
use Rattle.rv64_asm.proofs.words.row_of.Given as goal

abbrev pub invariant-loop-row : goal.invariant-loop-row
invariant-loop-row g l = lookup l.word (map (λ r. (r.0.now, r.1)) (drop l.row-index l.rows)) ≡ lookup l.word (map (λ r. (r.0.now, r.1)) l.rows)

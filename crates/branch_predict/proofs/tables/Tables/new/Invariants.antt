use Rattle.std.proofs.Common.{◌≡◌, replicate}
use Rattle.branch_predict.specs.Predictor.{untrained}
use Rattle.branch_predict.proofs.tables.Tables.new.Given as goal

-- one context's tables a turn
abbrev pub invariant-loop-k : goal.invariant-loop-k
invariant-loop-k g l = l.contexts.items ≡ replicate l.k untrained

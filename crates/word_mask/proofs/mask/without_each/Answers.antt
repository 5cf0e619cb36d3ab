use Rattle.std.proofs.Common.{ℕ, zero, suc, ◌<◌, ◌^◌, get_or, arith}
use Rattle.std.proofs.Math.Facts.{Fits-lt-pow}
use Rattle.word_mask.proofs.Each.{each_without}
use Rattle.word_mask.proofs.mask.without_each.Goals as goal

pub returns : goal.returns
returns c i p lt = each_without c.args.words.now c.args.other i p fit (Fits-lt-pow c.ranges.other) lt
  where
    fit : (k : ℕ) → k < 8 → get_or c.args.words.now k 0 < 2 ^ 64
    fit zero lt = omega arith
    fit (suc zero) lt = omega arith
    fit (suc (suc zero)) lt = omega arith
    fit (suc (suc (suc zero))) lt = omega arith
    fit (suc (suc (suc (suc zero)))) lt = omega arith
    fit (suc (suc (suc (suc (suc zero))))) lt = omega arith
    fit (suc (suc (suc (suc (suc (suc zero)))))) lt = omega arith
    fit (suc (suc (suc (suc (suc (suc (suc zero))))))) lt = omega arith
    fit (suc (suc (suc (suc (suc (suc (suc (suc k)))))))) lt = absurd (omega (arith, lt))

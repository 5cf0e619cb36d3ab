use Rattle.std.proofs.Common.{◌+◌, ◌%◌, arith}
use Rattle.std.proofs.lemmas.Simd.{get_or-zip2}
use Rattle.fetch_policy.proofs.least.sums.Goals as goal

pub returns : goal.returns
returns c n lt = get_or-zip2 (λ a b. (a + b) % 65536) c.args.counts.now c.args.others.now n 0 0 0 (omega (arith, c.told-counts, lt)) (omega (arith, c.told-others, lt))

use Rattle.std.proofs.Common.{◌≡◌, ℕ, ◌+◌, ◌<◌, arith}
use Rattle.entry_stages.proofs.completion.fetch_pc_after.Goals as goal

not-last : (place count n : ℕ) → place + 1 < count → count ≡ n → place + 1 ≡ n → ⊥
not-last place count n before is last = omega arith

pub returns-then-place-count-clause-last : goal.returns-then-place-count-clause-last
returns-then-place-count-clause-last g c last = absurd (not-last c.args.place c.len-count.result _ c.if-place-count.true c.len-count.ensures.value last)

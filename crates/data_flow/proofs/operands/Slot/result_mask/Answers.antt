use Rattle.std.proofs.Common.{◌≡◌, ℕ, ◌+◌, ◌-◌, ◌/◌, ◌%◌, ◌<◌, ◌∙◌, arith}
use Rattle.data_flow.proofs.operands.Slot.result_mask.Goals as goal

all-set : (name n : ℕ) → n ≡ name → n < 32 → 0 < name → (0 + (18446744073709551616 - (n + 31) / 32)) % 18446744073709551616 ≡ 18446744073709551615
all-set name n is narrow some = omega arith

none-set : (name n : ℕ) → n ≡ name → name ≡ 0 → (0 + (18446744073709551616 - (n + 31) / 32)) % 18446744073709551616 ≡ 0
none-set name n is none = omega arith

pub returns-clause-all : goal.returns-clause-all
returns-clause-all c some = all-set c.args.self.now.name c.from.result (c.from.ensures ∙ c.index.ensures.same) (rw c.from.ensures c.index.ensures.in_range) some

pub returns-clause-none : goal.returns-clause-none
returns-clause-none c none = none-set c.args.self.now.name c.from.result (c.from.ensures ∙ c.index.ensures.same) none

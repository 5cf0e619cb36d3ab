-- The word of a FENCE.
use Rattle.std.proofs.Common.{ℕ, ◌<◌, ◌^◌, arith}
use Rattle.rv64_decode.specs.declared.insn.Insn.TheVariants as insns
use Rattle.rv64_decode.specs.Spelling.{Spells}
use Rattle.rv64_asm.specs.Shown.{fence_word}

pub fence_fits : (rd rs1 bits : ℕ) → rd < 32 → rs1 < 32 → bits < 4096 → fence_word rd rs1 bits < 2 ^ 32
fence_fits rd rs1 bits p q r = omega arith

pub fence_spelled : (rd rs1 bits : ℕ) → rd < 32 → rs1 < 32 → bits < 4096 → Spells (fence_word rd rs1 bits) (insns.Fence rd rs1 bits)
fence_spelled rd rs1 bits p q r = (omega arith, omega arith, omega arith, omega arith, omega arith)

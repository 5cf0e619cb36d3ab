-- Which pcs the guesses of this crate state.
use Rattle.std.specs.Prelude.{ℕ, Bool, true, ◌==◌, ◌||◌}
use Rattle.rv64_decode.specs.declared.insn.Insn.{Insn}
use Rattle.rv64_decode.specs.declared.insn.Insn.TheVariants.{Branch}
use Rattle.hart_step.specs.State.{following}
use Rattle.branch_predict.specs.Predictor.{target}

-- for a conditional branch the next instruction in line or the target, for the rest every pc
abbrev pub stated : ℕ → Insn → ℕ → Bool
stated pc (Branch condition rs1 rs2 offset) next = (next == following pc) || (next == target pc offset)
stated pc _ next = true

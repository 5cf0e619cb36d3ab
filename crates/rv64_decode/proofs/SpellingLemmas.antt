-- An instruction has one word: two words of 32 bits that spell it are equal.
use Rattle.std.proofs.Common.{◌≡◌, ℕ, ◌+◌, ◌*◌, arith, sym, ◌<◌, ◌^◌, ◌∙◌}
use Rattle.rv64_decode.specs.Bits.{signed}
use Rattle.rv64_decode.specs.Spelling.{Spells, field, opcode, rd_of, funct3, rs1_of, rs2_of, funct7, upper_of, imm_i, imm_s, imm_b, imm_j}
use Rattle.rv64_decode.specs.declared.insn.Insn.{Insn}
use Rattle.rv64_decode.specs.declared.insn.Insn.TheVariants.{Lui, Auipc, Jal, Jalr, Branch, Load, Store, Imm, ShiftImm, Alu, AddImmWord, ShiftImmWord, AluWord, Fence, Ecall, Ebreak}

-- one number of a width has one spelling in bits
signed_12 : (a b : ℕ) → a < 2 ^ 12 → b < 2 ^ 12 → signed 12 a ≡ signed 12 b → a ≡ b
signed_12 a b p q e = grind arith

signed_13 : (a b : ℕ) → a < 2 ^ 13 → b < 2 ^ 13 → signed 13 a ≡ signed 13 b → a ≡ b
signed_13 a b p q e = grind arith

signed_21 : (a b : ℕ) → a < 2 ^ 21 → b < 2 ^ 21 → signed 21 a ≡ signed 21 b → a ≡ b
signed_21 a b p q e = grind arith

-- so equal immediates have equal bits, in each form
i_same : (w v : ℕ) → imm_i w ≡ imm_i v → field 20 12 w ≡ field 20 12 v
i_same w v e = signed_12 _ _ (omega arith) (omega arith) e

s_same : (w v : ℕ) → imm_s w ≡ imm_s v → field 25 7 w * 2 ^ 5 + field 7 5 w ≡ field 25 7 v * 2 ^ 5 + field 7 5 v
s_same w v e = signed_12 _ _ (omega arith) (omega arith) e

b_same : (w v : ℕ) → imm_b w ≡ imm_b v → field 31 1 w * 2 ^ 12 + field 7 1 w * 2 ^ 11 + field 25 6 w * 2 ^ 5 + field 8 4 w * 2 ≡ field 31 1 v * 2 ^ 12 + field 7 1 v * 2 ^ 11 + field 25 6 v * 2 ^ 5 + field 8 4 v * 2
b_same w v e = signed_13 _ _ (omega arith) (omega arith) e

j_same : (w v : ℕ) → imm_j w ≡ imm_j v → field 31 1 w * 2 ^ 20 + field 12 8 w * 2 ^ 12 + field 20 1 w * 2 ^ 11 + field 21 10 w * 2 ≡ field 31 1 v * 2 ^ 20 + field 12 8 v * 2 ^ 12 + field 20 1 v * 2 ^ 11 + field 21 10 v * 2
j_same w v e = signed_21 _ _ (omega arith) (omega arith) e

-- the fields that an immediate is spread over
s_low : (w v : ℕ) → field 25 7 w * 2 ^ 5 + field 7 5 w ≡ field 25 7 v * 2 ^ 5 + field 7 5 v → rd_of w ≡ rd_of v
s_low w v e = omega arith

s_high : (w v : ℕ) → field 25 7 w * 2 ^ 5 + field 7 5 w ≡ field 25 7 v * 2 ^ 5 + field 7 5 v → funct7 w ≡ funct7 v
s_high w v e = omega arith

b_low : (w v : ℕ) → field 31 1 w * 2 ^ 12 + field 7 1 w * 2 ^ 11 + field 25 6 w * 2 ^ 5 + field 8 4 w * 2 ≡ field 31 1 v * 2 ^ 12 + field 7 1 v * 2 ^ 11 + field 25 6 v * 2 ^ 5 + field 8 4 v * 2 → rd_of w ≡ rd_of v
b_low w v e = omega arith

b_high : (w v : ℕ) → field 31 1 w * 2 ^ 12 + field 7 1 w * 2 ^ 11 + field 25 6 w * 2 ^ 5 + field 8 4 w * 2 ≡ field 31 1 v * 2 ^ 12 + field 7 1 v * 2 ^ 11 + field 25 6 v * 2 ^ 5 + field 8 4 v * 2 → funct7 w ≡ funct7 v
b_high w v e = omega arith

j_upper : (w v : ℕ) → field 31 1 w * 2 ^ 20 + field 12 8 w * 2 ^ 12 + field 20 1 w * 2 ^ 11 + field 21 10 w * 2 ≡ field 31 1 v * 2 ^ 20 + field 12 8 v * 2 ^ 12 + field 20 1 v * 2 ^ 11 + field 21 10 v * 2 → upper_of w ≡ upper_of v
j_upper w v e = omega arith

shift_same : (w v : ℕ) → field 26 6 w ≡ field 26 6 v → field 20 6 w ≡ field 20 6 v → field 20 12 w ≡ field 20 12 v
shift_same w v e f = omega arith

-- the fields of each form together are the whole word: R
r_whole : (w v : ℕ) → w < 2 ^ 32 → v < 2 ^ 32 → opcode w ≡ opcode v → funct3 w ≡ funct3 v → rd_of w ≡ rd_of v → rs1_of w ≡ rs1_of v → rs2_of w ≡ rs2_of v → funct7 w ≡ funct7 v → w ≡ v
r_whole w v p q a b c d e f = omega arith

-- I
i_whole : (w v : ℕ) → w < 2 ^ 32 → v < 2 ^ 32 → opcode w ≡ opcode v → funct3 w ≡ funct3 v → rd_of w ≡ rd_of v → rs1_of w ≡ rs1_of v → field 20 12 w ≡ field 20 12 v → w ≡ v
i_whole w v p q a b c d e = omega arith

-- U and J
u_whole : (w v : ℕ) → w < 2 ^ 32 → v < 2 ^ 32 → opcode w ≡ opcode v → rd_of w ≡ rd_of v → upper_of w ≡ upper_of v → w ≡ v
u_whole w v p q a b c = omega arith

-- the fields and codes of a row together are the whole word
pub word_spelled : (w v : ℕ) (insn : Insn) → w < 2 ^ 32 → v < 2 ^ 32 → Spells w insn → Spells v insn → w ≡ v
word_spelled w v (Lui rd upper) p q s t = u_whole w v p q (s.0 ∙ sym t.0) (sym s.1 ∙ t.1) (sym s.2 ∙ t.2)
word_spelled w v (Auipc rd upper) p q s t = u_whole w v p q (s.0 ∙ sym t.0) (sym s.1 ∙ t.1) (sym s.2 ∙ t.2)
word_spelled w v (Jal rd offset) p q s t = u_whole w v p q (s.0 ∙ sym t.0) (sym s.1 ∙ t.1) (j_upper w v (j_same w v (sym s.2 ∙ t.2)))
word_spelled w v (Jalr rd rs1 immediate) p q s t = i_whole w v p q (s.0 ∙ sym t.0) (s.1 ∙ sym t.1) (sym s.2 ∙ t.2) (sym s.3 ∙ t.3) (i_same w v (sym s.4 ∙ t.4))
word_spelled w v (Branch condition rs1 rs2 offset) p q s t = let e = b_same w v (sym s.4 ∙ t.4) in r_whole w v p q (s.0 ∙ sym t.0) (s.1 ∙ sym t.1) (b_low w v e) (sym s.2 ∙ t.2) (sym s.3 ∙ t.3) (b_high w v e)
word_spelled w v (Load kind rd rs1 immediate) p q s t = i_whole w v p q (s.0 ∙ sym t.0) (s.1 ∙ sym t.1) (sym s.2 ∙ t.2) (sym s.3 ∙ t.3) (i_same w v (sym s.4 ∙ t.4))
word_spelled w v (Store width rs1 rs2 immediate) p q s t = let e = s_same w v (sym s.4 ∙ t.4) in r_whole w v p q (s.0 ∙ sym t.0) (s.1 ∙ sym t.1) (s_low w v e) (sym s.2 ∙ t.2) (sym s.3 ∙ t.3) (s_high w v e)
word_spelled w v (Imm op rd rs1 immediate) p q s t = i_whole w v p q (s.0 ∙ sym t.0) (s.1 ∙ sym t.1) (sym s.2 ∙ t.2) (sym s.3 ∙ t.3) (i_same w v (sym s.4 ∙ t.4))
word_spelled w v (ShiftImm op rd rs1 amount) p q s t = i_whole w v p q (s.0 ∙ sym t.0) (s.1 ∙ sym t.1) (sym s.3 ∙ t.3) (sym s.4 ∙ t.4) (shift_same w v (s.2 ∙ sym t.2) (sym s.5 ∙ t.5))
word_spelled w v (Alu op rd rs1 rs2) p q s t = r_whole w v p q (s.0 ∙ sym t.0) (s.1 ∙ sym t.1) (sym s.3 ∙ t.3) (sym s.4 ∙ t.4) (sym s.5 ∙ t.5) (s.2 ∙ sym t.2)
word_spelled w v (AddImmWord rd rs1 immediate) p q s t = i_whole w v p q (s.0 ∙ sym t.0) (s.1 ∙ sym t.1) (sym s.2 ∙ t.2) (sym s.3 ∙ t.3) (i_same w v (sym s.4 ∙ t.4))
word_spelled w v (ShiftImmWord op rd rs1 amount) p q s t = r_whole w v p q (s.0 ∙ sym t.0) (s.1 ∙ sym t.1) (sym s.3 ∙ t.3) (sym s.4 ∙ t.4) (sym s.5 ∙ t.5) (s.2 ∙ sym t.2)
word_spelled w v (AluWord op rd rs1 rs2) p q s t = r_whole w v p q (s.0 ∙ sym t.0) (s.1 ∙ sym t.1) (sym s.3 ∙ t.3) (sym s.4 ∙ t.4) (sym s.5 ∙ t.5) (s.2 ∙ sym t.2)
word_spelled w v (Fence rd rs1 bits) p q s t = i_whole w v p q (s.0 ∙ sym t.0) (s.1 ∙ sym t.1) (sym s.2 ∙ t.2) (sym s.3 ∙ t.3) (sym s.4 ∙ t.4)
word_spelled w v Ecall p q s t = s ∙ sym t
word_spelled w v Ebreak p q s t = s ∙ sym t

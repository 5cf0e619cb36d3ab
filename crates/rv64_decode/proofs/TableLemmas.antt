-- The table read forwards: the instruction that a word spells is the one that `instruction_of` gives.
use Rattle.std.proofs.Common.{◌≡◌, ℕ, ◌*◌, refl, true, false, ◌||◌, ◌==◌, Some}
use Rattle.rv64_decode.specs.Spelling.{Spells, condition_code, load_code, store_code, imm_code, shift_code, shift_top, alu_code, alu_top, word_code, word_top}
use Rattle.rv64_decode.specs.Table.{condition_of, load_kind_of, store_width_of, imm_op_of, shift_op_of, alu_op_of, word_op_of, load_row, store_row, branch_row, jalr_row, fence_row, system_row, imm_row, shift_row, alu_row, imm_word_row, alu_word_row, instruction_of}
use Rattle.rv64_decode.specs.declared.insn.Insn.{Insn}
use Rattle.rv64_decode.specs.declared.insn.Insn.TheVariants.{Lui, Auipc, Jal, Jalr, Branch, Load, Store, Imm, ShiftImm, Alu, AddImmWord, ShiftImmWord, AluWord, Fence, Ecall, Ebreak}
use Rattle.rv64_decode.specs.declared.insn.BranchCondition.{BranchCondition}
use Rattle.rv64_decode.specs.declared.insn.BranchCondition.TheVariants as branch
use Rattle.rv64_decode.specs.declared.insn.LoadKind.{LoadKind}
use Rattle.rv64_decode.specs.declared.insn.LoadKind.TheVariants as load
use Rattle.rv64_decode.specs.declared.insn.StoreWidth.{StoreWidth}
use Rattle.rv64_decode.specs.declared.insn.StoreWidth.TheVariants as store
use Rattle.rv64_decode.specs.declared.insn.ImmOp.{ImmOp}
use Rattle.rv64_decode.specs.declared.insn.ImmOp.TheVariants as imm
use Rattle.rv64_decode.specs.declared.insn.ShiftOp.{ShiftOp}
use Rattle.rv64_decode.specs.declared.insn.ShiftOp.TheVariants as shift
use Rattle.rv64_decode.specs.declared.insn.AluOp.{AluOp}
use Rattle.rv64_decode.specs.declared.insn.AluOp.TheVariants as alu
use Rattle.rv64_decode.specs.declared.insn.WordOp.{WordOp}
use Rattle.rv64_decode.specs.declared.insn.WordOp.TheVariants as word

-- each code finds its own kind
condition_of-condition_code : (condition : BranchCondition) → condition_of (condition_code condition) ≡ Some condition
condition_of-condition_code branch.Equal = refl
condition_of-condition_code _ = refl

load_kind_of-load_code : (kind : LoadKind) → load_kind_of (load_code kind) ≡ Some kind
load_kind_of-load_code load.Byte = refl
load_kind_of-load_code _ = refl

store_width_of-store_code : (width : StoreWidth) → store_width_of (store_code width) ≡ Some width
store_width_of-store_code store.Byte = refl
store_width_of-store_code _ = refl

imm_op_of-imm_code : (op : ImmOp) → imm_op_of (imm_code op) ≡ Some op
imm_op_of-imm_code imm.Add = refl
imm_op_of-imm_code _ = refl

shift_op_of-shift_code : (op : ShiftOp) → shift_op_of (shift_code op) (shift_top op * 0b0100000) ≡ Some op
shift_op_of-shift_code shift.Left = refl
shift_op_of-shift_code _ = refl

alu_op_of-alu_code : (op : AluOp) → alu_op_of (alu_code op) (alu_top op * 0b0100000) ≡ Some op
alu_op_of-alu_code alu.Add = refl
alu_op_of-alu_code _ = refl

word_op_of-word_code : (op : WordOp) → word_op_of (word_code op) (word_top op * 0b0100000) ≡ Some op
word_op_of-word_code word.Add = refl
word_op_of-word_code _ = refl

-- the same of the six bits above an amount of six bits
shift_op_of-six_bits : (op : ShiftOp) → shift_op_of (shift_code op) (shift_top op * 0b010000 * 2) ≡ Some op
shift_op_of-six_bits shift.Left = refl
shift_op_of-six_bits _ = refl

-- the three kinds of one opcode have different codes
is_shift-imm_code : (op : ImmOp) → (imm_code op == 1 || imm_code op == 5) ≡ false
is_shift-imm_code imm.Add = refl
is_shift-imm_code _ = refl

is_shift-shift_code : (op : ShiftOp) → (shift_code op == 1 || shift_code op == 5) ≡ true
is_shift-shift_code shift.Left = refl
is_shift-shift_code _ = refl

is_zero-shift_code : (op : ShiftOp) → (shift_code op == 0) ≡ false
is_zero-shift_code shift.Left = refl
is_zero-shift_code _ = refl

-- row by row, its codes and fields put into `instruction_of`
pub instruction_spelled : (w : ℕ) (insn : Insn) → Spells w insn → instruction_of w ≡ Some insn
unfolding instruction_of branch_row load_row store_row jalr_row fence_row system_row alu_row alu_word_row imm_row shift_row imm_word_row
instruction_spelled w (Lui rd upper) s = rw s.0 cc
instruction_spelled w (Auipc rd upper) s = rw s.0 cc
instruction_spelled w (Jal rd offset) s = rw s.0 cc
instruction_spelled w (Jalr rd rs1 immediate) s = rw (s.0, s.1) cc
instruction_spelled w (Branch condition rs1 rs2 offset) s = rw (s.0, s.1, condition_of-condition_code condition) cc
instruction_spelled w (Load kind rd rs1 immediate) s = rw (s.0, s.1, load_kind_of-load_code kind) cc
instruction_spelled w (Store width rs1 rs2 immediate) s = rw (s.0, s.1, store_width_of-store_code width) cc
instruction_spelled w (Imm op rd rs1 immediate) s = rw (s.0, s.1, is_shift-imm_code op, imm_op_of-imm_code op) cc
instruction_spelled w (ShiftImm op rd rs1 amount) s = rw (s.0, s.1, s.2, is_shift-shift_code op, shift_op_of-six_bits op) cc
instruction_spelled w (Alu op rd rs1 rs2) s = rw (s.0, s.1, s.2, alu_op_of-alu_code op) cc
instruction_spelled w (AddImmWord rd rs1 immediate) s = rw (s.0, s.1) cc
instruction_spelled w (ShiftImmWord op rd rs1 amount) s = rw (s.0, s.1, s.2, is_zero-shift_code op, shift_op_of-shift_code op) cc
instruction_spelled w (AluWord op rd rs1 rs2) s = rw (s.0, s.1, s.2, word_op_of-word_code op) cc
instruction_spelled w (Fence rd rs1 bits) s = rw (s.0, s.1) cc
instruction_spelled w Ecall s = rw s refl
instruction_spelled w Ebreak s = rw s refl

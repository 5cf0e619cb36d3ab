-- What words name: mnemonics, directives, registers, and the sets of a fence.
use Rattle.std.specs.Prelude.{ℕ, List, [], ◌∷◌, Option, option_map, codes}
use Rattle.std.specs.List.{find}
use Rattle.std.specs.Str.{bytes_eq}
use Rattle.rv64_decode.specs.declared.insn.BranchCondition.TheVariants as conditions
use Rattle.rv64_decode.specs.declared.insn.LoadKind.TheVariants as loads
use Rattle.rv64_decode.specs.declared.insn.StoreWidth.TheVariants as widths
use Rattle.rv64_decode.specs.declared.insn.ImmOp.TheVariants as imms
use Rattle.rv64_decode.specs.declared.insn.ShiftOp.TheVariants as shifts
use Rattle.rv64_decode.specs.declared.insn.AluOp.TheVariants as alus
use Rattle.rv64_decode.specs.declared.insn.WordOp.TheVariants as words
use Rattle.rv64_asm.specs.declared.words.Part.TheVariants as parts
use Rattle.rv64_asm.specs.declared.words.Shape.TheVariants as shapes
use Rattle.rv64_asm.specs.declared.words.Kind.{Kind}
use Rattle.rv64_asm.specs.declared.words.Kind.TheVariants.{Enter, Number, Zero, Plain, Branch, BranchZero, Jal, J}

-- what stands beside the word in a table
abbrev pub lookup : {T : Type 0} → List ℕ → List (List ℕ × T) → Option T
lookup word rows = option_map (λ r. r.1) (find (λ r. bytes_eq r.0 word) rows)

-- the directives, the mnemonics of RV64I (chapter 24 of the RISC-V Unprivileged ISA, document 20191213), and the
-- pseudo-instructions (tables 25.2 and 25.3)
abbrev pub mnemonics : List (List ℕ × Kind)
mnemonics =
    (codes ".text", Enter parts.Text) ∷
    (codes ".data", Enter parts.Data) ∷
    (codes ".word", Number widths.Word) ∷
    (codes ".byte", Number widths.Byte) ∷
    (codes ".half", Number widths.Half) ∷
    (codes ".dword", Number widths.Double) ∷
    (codes ".zero", Zero) ∷
    (codes "lui", Plain shapes.Lui) ∷
    (codes "auipc", Plain shapes.Auipc) ∷
    (codes "jal", Jal) ∷
    (codes "jalr", Plain shapes.Jalr) ∷
    (codes "fence", Plain shapes.Fence) ∷
    (codes "ecall", Plain shapes.Ecall) ∷
    (codes "ebreak", Plain shapes.Ebreak) ∷
    (codes "beq", Branch conditions.Equal) ∷
    (codes "bne", Branch conditions.NotEqual) ∷
    (codes "blt", Branch conditions.Less) ∷
    (codes "bge", Branch conditions.NotLess) ∷
    (codes "bltu", Branch conditions.LessUnsigned) ∷
    (codes "bgeu", Branch conditions.NotLessUnsigned) ∷
    (codes "lb", Plain (shapes.Load loads.Byte)) ∷
    (codes "lh", Plain (shapes.Load loads.Half)) ∷
    (codes "lw", Plain (shapes.Load loads.Word)) ∷
    (codes "ld", Plain (shapes.Load loads.Double)) ∷
    (codes "lbu", Plain (shapes.Load loads.ByteUnsigned)) ∷
    (codes "lhu", Plain (shapes.Load loads.HalfUnsigned)) ∷
    (codes "lwu", Plain (shapes.Load loads.WordUnsigned)) ∷
    (codes "sb", Plain (shapes.Store widths.Byte)) ∷
    (codes "sh", Plain (shapes.Store widths.Half)) ∷
    (codes "sw", Plain (shapes.Store widths.Word)) ∷
    (codes "sd", Plain (shapes.Store widths.Double)) ∷
    (codes "addi", Plain (shapes.Imm imms.Add)) ∷
    (codes "slti", Plain (shapes.Imm imms.SetLess)) ∷
    (codes "sltiu", Plain (shapes.Imm imms.SetLessUnsigned)) ∷
    (codes "xori", Plain (shapes.Imm imms.Xor)) ∷
    (codes "ori", Plain (shapes.Imm imms.Or)) ∷
    (codes "andi", Plain (shapes.Imm imms.And)) ∷
    (codes "slli", Plain (shapes.ShiftImm shifts.Left)) ∷
    (codes "srli", Plain (shapes.ShiftImm shifts.Right)) ∷
    (codes "srai", Plain (shapes.ShiftImm shifts.RightArithmetic)) ∷
    (codes "slliw", Plain (shapes.ShiftImmWord shifts.Left)) ∷
    (codes "srliw", Plain (shapes.ShiftImmWord shifts.Right)) ∷
    (codes "sraiw", Plain (shapes.ShiftImmWord shifts.RightArithmetic)) ∷
    (codes "addiw", Plain shapes.AddImmWord) ∷
    (codes "add", Plain (shapes.Alu alus.Add)) ∷
    (codes "sub", Plain (shapes.Alu alus.Sub)) ∷
    (codes "sll", Plain (shapes.Alu alus.ShiftLeft)) ∷
    (codes "slt", Plain (shapes.Alu alus.SetLess)) ∷
    (codes "sltu", Plain (shapes.Alu alus.SetLessUnsigned)) ∷
    (codes "xor", Plain (shapes.Alu alus.Xor)) ∷
    (codes "srl", Plain (shapes.Alu alus.ShiftRight)) ∷
    (codes "sra", Plain (shapes.Alu alus.ShiftRightArithmetic)) ∷
    (codes "or", Plain (shapes.Alu alus.Or)) ∷
    (codes "and", Plain (shapes.Alu alus.And)) ∷
    (codes "addw", Plain (shapes.AluWord words.Add)) ∷
    (codes "subw", Plain (shapes.AluWord words.Sub)) ∷
    (codes "sllw", Plain (shapes.AluWord words.ShiftLeft)) ∷
    (codes "srlw", Plain (shapes.AluWord words.ShiftRight)) ∷
    (codes "sraw", Plain (shapes.AluWord words.ShiftRightArithmetic)) ∷
    (codes "nop", Plain shapes.Nop) ∷
    (codes "mv", Plain shapes.Mv) ∷
    (codes "not", Plain shapes.Not) ∷
    (codes "neg", Plain shapes.Neg) ∷
    (codes "seqz", Plain shapes.Seqz) ∷
    (codes "snez", Plain shapes.Snez) ∷
    (codes "jr", Plain shapes.Jr) ∷
    (codes "ret", Plain shapes.Ret) ∷
    (codes "beqz", BranchZero conditions.Equal) ∷
    (codes "bnez", BranchZero conditions.NotEqual) ∷
    (codes "j", J) ∷
    []

-- the registers by number and by the names of the calling convention (table 25.1)
abbrev pub registers : List (List ℕ × ℕ)
registers =
    (codes "x0", 0) ∷
    (codes "x1", 1) ∷
    (codes "x2", 2) ∷
    (codes "x3", 3) ∷
    (codes "x4", 4) ∷
    (codes "x5", 5) ∷
    (codes "x6", 6) ∷
    (codes "x7", 7) ∷
    (codes "x8", 8) ∷
    (codes "x9", 9) ∷
    (codes "x10", 10) ∷
    (codes "x11", 11) ∷
    (codes "x12", 12) ∷
    (codes "x13", 13) ∷
    (codes "x14", 14) ∷
    (codes "x15", 15) ∷
    (codes "x16", 16) ∷
    (codes "x17", 17) ∷
    (codes "x18", 18) ∷
    (codes "x19", 19) ∷
    (codes "x20", 20) ∷
    (codes "x21", 21) ∷
    (codes "x22", 22) ∷
    (codes "x23", 23) ∷
    (codes "x24", 24) ∷
    (codes "x25", 25) ∷
    (codes "x26", 26) ∷
    (codes "x27", 27) ∷
    (codes "x28", 28) ∷
    (codes "x29", 29) ∷
    (codes "x30", 30) ∷
    (codes "x31", 31) ∷
    (codes "zero", 0) ∷
    (codes "ra", 1) ∷
    (codes "sp", 2) ∷
    (codes "gp", 3) ∷
    (codes "tp", 4) ∷
    (codes "t0", 5) ∷
    (codes "t1", 6) ∷
    (codes "t2", 7) ∷
    (codes "s0", 8) ∷
    (codes "fp", 8) ∷
    (codes "s1", 9) ∷
    (codes "a0", 10) ∷
    (codes "a1", 11) ∷
    (codes "a2", 12) ∷
    (codes "a3", 13) ∷
    (codes "a4", 14) ∷
    (codes "a5", 15) ∷
    (codes "a6", 16) ∷
    (codes "a7", 17) ∷
    (codes "s2", 18) ∷
    (codes "s3", 19) ∷
    (codes "s4", 20) ∷
    (codes "s5", 21) ∷
    (codes "s6", 22) ∷
    (codes "s7", 23) ∷
    (codes "s8", 24) ∷
    (codes "s9", 25) ∷
    (codes "s10", 26) ∷
    (codes "s11", 27) ∷
    (codes "t3", 28) ∷
    (codes "t4", 29) ∷
    (codes "t5", 30) ∷
    (codes "t6", 31) ∷
    []

-- sets of device input (8), device output (4), reads (2) and writes (1), in this order of letters (section 2.7)
abbrev pub fence_sets : List (List ℕ × ℕ)
fence_sets =
    (codes "w", 1) ∷
    (codes "r", 2) ∷
    (codes "rw", 3) ∷
    (codes "o", 4) ∷
    (codes "ow", 5) ∷
    (codes "or", 6) ∷
    (codes "orw", 7) ∷
    (codes "i", 8) ∷
    (codes "iw", 9) ∷
    (codes "ir", 10) ∷
    (codes "irw", 11) ∷
    (codes "io", 12) ∷
    (codes "iow", 13) ∷
    (codes "ior", 14) ∷
    (codes "iorw", 15) ∷
    []

-- what a mnemonic or a directive asks for
abbrev pub kind_of : List ℕ → Option Kind
kind_of word = lookup word mnemonics

-- the number of a register
abbrev pub register_of : List ℕ → Option ℕ
register_of word = lookup word registers

-- the four bits of a set
abbrev pub fence_set_of : List ℕ → Option ℕ
fence_set_of word = lookup word fence_sets

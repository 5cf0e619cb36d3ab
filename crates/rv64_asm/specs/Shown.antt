-- The line that shows an instruction.
use Rattle.std.specs.Prelude.{◌≡◌, Bool, ℕ, ℤ, pos, negsuc, unsigned_abs, ◌<◌, ◌≤ℤ◌, ◌+◌, ◌*◌, ◌/◌, ◌%◌, ◌^◌, ◌==◌, ◌&&◌, List, [], ◌∷◌, ◌++◌, false, if◌then◌else◌, codes, None, Ok}
use Rattle.std.specs.Fmt.{decimal, signed_decimal, digits}
use Rattle.std.specs.Int.{cast_unsigned, w64}
use Rattle.std.specs.Str.Lines.{lines}
use Rattle.rv64_decode.specs.declared.insn.Insn.{Insn}
use Rattle.rv64_decode.specs.declared.insn.Insn.TheVariants as insns
use Rattle.rv64_decode.specs.declared.insn.BranchCondition.{BranchCondition}
use Rattle.rv64_decode.specs.declared.insn.BranchCondition.TheVariants as conditions
use Rattle.rv64_decode.specs.declared.insn.LoadKind.{LoadKind}
use Rattle.rv64_decode.specs.declared.insn.LoadKind.TheVariants as loads
use Rattle.rv64_decode.specs.declared.insn.StoreWidth.{StoreWidth}
use Rattle.rv64_decode.specs.declared.insn.StoreWidth.TheVariants as widths
use Rattle.rv64_decode.specs.declared.insn.ImmOp.{ImmOp}
use Rattle.rv64_decode.specs.declared.insn.ImmOp.TheVariants as imms
use Rattle.rv64_decode.specs.declared.insn.ShiftOp.{ShiftOp}
use Rattle.rv64_decode.specs.declared.insn.ShiftOp.TheVariants as shifts
use Rattle.rv64_decode.specs.declared.insn.AluOp.{AluOp}
use Rattle.rv64_decode.specs.declared.insn.AluOp.TheVariants as alus
use Rattle.rv64_decode.specs.declared.insn.WordOp.{WordOp}
use Rattle.rv64_decode.specs.declared.insn.WordOp.TheVariants as words
use Rattle.rv64_asm.specs.declared.place.Place.{Place}
use Rattle.rv64_asm.specs.declared.statement.Item.{Item}
use Rattle.rv64_asm.specs.declared.statement.Item.TheVariants.{Instruction}
use Rattle.rv64_asm.specs.declared.words.Part.TheVariants.{Text}
use Rattle.rv64_asm.specs.Label.{Label}
use Rattle.rv64_asm.specs.Numbers.{◌>>=◌}
use Rattle.rv64_asm.specs.Statements.{line_of, label_of}
use Rattle.rv64_asm.specs.Places.{after_item, further}
use Rattle.rv64_asm.specs.Written.{resolve, IsPiece}

-- the mnemonic of a branch
abbrev pub condition_name : BranchCondition → List ℕ
condition_name conditions.Equal = codes "beq"
condition_name conditions.NotEqual = codes "bne"
condition_name conditions.Less = codes "blt"
condition_name conditions.NotLess = codes "bge"
condition_name conditions.LessUnsigned = codes "bltu"
condition_name conditions.NotLessUnsigned = codes "bgeu"

-- the mnemonic of a load
abbrev pub load_name : LoadKind → List ℕ
load_name loads.Byte = codes "lb"
load_name loads.Half = codes "lh"
load_name loads.Word = codes "lw"
load_name loads.Double = codes "ld"
load_name loads.ByteUnsigned = codes "lbu"
load_name loads.HalfUnsigned = codes "lhu"
load_name loads.WordUnsigned = codes "lwu"

-- the mnemonic of a store
abbrev pub store_name : StoreWidth → List ℕ
store_name widths.Byte = codes "sb"
store_name widths.Half = codes "sh"
store_name widths.Word = codes "sw"
store_name widths.Double = codes "sd"

-- the mnemonic of an operation with an immediate
abbrev pub imm_name : ImmOp → List ℕ
imm_name imms.Add = codes "addi"
imm_name imms.SetLess = codes "slti"
imm_name imms.SetLessUnsigned = codes "sltiu"
imm_name imms.Xor = codes "xori"
imm_name imms.Or = codes "ori"
imm_name imms.And = codes "andi"

-- the mnemonic of a shift by an amount
abbrev pub shift_name : ShiftOp → List ℕ
shift_name shifts.Left = codes "slli"
shift_name shifts.Right = codes "srli"
shift_name shifts.RightArithmetic = codes "srai"

-- the mnemonic of a shift of 32 bits by an amount
abbrev pub shift_word_name : ShiftOp → List ℕ
shift_word_name shifts.Left = codes "slliw"
shift_word_name shifts.Right = codes "srliw"
shift_word_name shifts.RightArithmetic = codes "sraiw"

-- the mnemonic of an operation of two registers
abbrev pub alu_name : AluOp → List ℕ
alu_name alus.Add = codes "add"
alu_name alus.Sub = codes "sub"
alu_name alus.ShiftLeft = codes "sll"
alu_name alus.SetLess = codes "slt"
alu_name alus.SetLessUnsigned = codes "sltu"
alu_name alus.Xor = codes "xor"
alu_name alus.ShiftRight = codes "srl"
alu_name alus.ShiftRightArithmetic = codes "sra"
alu_name alus.Or = codes "or"
alu_name alus.And = codes "and"

-- the mnemonic of an operation of 32 bits of two registers
abbrev pub word_name : WordOp → List ℕ
word_name words.Add = codes "addw"
word_name words.Sub = codes "subw"
word_name words.ShiftLeft = codes "sllw"
word_name words.ShiftRight = codes "srlw"
word_name words.ShiftRightArithmetic = codes "sraw"

-- `x` and the number
abbrev pub register_text : ℕ → List ℕ
register_text n = codes "x" ++ decimal n

-- `0x` and lower-case digits without leading zeros
abbrev pub hex : ℕ → List ℕ
hex n = codes "0x" ++ digits 16 false n

-- `number(register)`
abbrev pub place : ℤ → ℕ → List ℕ
place number base = signed_decimal number ++ (codes "(" ++ (register_text base ++ codes ")"))

-- the address at that distance from pc
abbrev pub target : ℕ → ℤ → ℕ
target pc offset = (pc + cast_unsigned w64 offset) % 2 ^ 64

-- a mnemonic with two operands
abbrev pub two : List ℕ → List ℕ → List ℕ → List ℕ
two name a b = name ++ (codes " " ++ (a ++ (codes ", " ++ b)))

-- a mnemonic with three operands
abbrev pub three : List ℕ → List ℕ → List ℕ → List ℕ → List ℕ
three name a b c = name ++ (codes " " ++ (a ++ (codes ", " ++ (b ++ (codes ", " ++ c)))))

-- the word of a FENCE
abbrev pub fence_word : ℕ → ℕ → ℕ → ℕ
fence_word rd rs1 bits = 0b0001111 + rd * 2 ^ 7 + rs1 * 2 ^ 15 + bits * 2 ^ 20

-- the lower-case hexadecimal digit of a number below 16
abbrev pub digit : ℕ → List ℕ
digit n = digits 16 false n

-- eight digits, the highest first
abbrev pub hex_word : ℕ → List ℕ
hex_word n = digit (n / 2 ^ 28 % 16) ++ (digit (n / 2 ^ 24 % 16) ++ (digit (n / 2 ^ 20 % 16) ++ (digit (n / 2 ^ 16 % 16) ++ (digit (n / 2 ^ 12 % 16) ++ (digit (n / 2 ^ 8 % 16) ++ (digit (n / 2 ^ 4 % 16) ++ digit (n % 16)))))))

-- the FENCE that orders everything (0x0FF0000F)
abbrev pub is_full_fence : ℕ → ℕ → ℕ → Bool
is_full_fence rd rs1 bits = rd == 0 && rs1 == 0 && bits == 255

-- the first form of each instruction; `fence` for the one of all sets, and any other FENCE by its word
unfoldable pub shown : Insn → ℕ → List ℕ
shown (insns.Lui rd n) pc = two (codes "lui") (register_text rd) (hex n)
shown (insns.Auipc rd n) pc = two (codes "auipc") (register_text rd) (hex n)
shown (insns.Jal rd offset) pc = two (codes "jal") (register_text rd) (hex (target pc offset))
shown (insns.Jalr rd rs1 n) pc = two (codes "jalr") (register_text rd) (place n rs1)
shown (insns.Branch condition rs1 rs2 offset) pc = three (condition_name condition) (register_text rs1) (register_text rs2) (hex (target pc offset))
shown (insns.Load kind rd rs1 n) pc = two (load_name kind) (register_text rd) (place n rs1)
shown (insns.Store width rs1 rs2 n) pc = two (store_name width) (register_text rs2) (place n rs1)
shown (insns.Imm op rd rs1 n) pc = three (imm_name op) (register_text rd) (register_text rs1) (signed_decimal n)
shown (insns.ShiftImm op rd rs1 amount) pc = three (shift_name op) (register_text rd) (register_text rs1) (decimal amount)
shown (insns.Alu op rd rs1 rs2) pc = three (alu_name op) (register_text rd) (register_text rs1) (register_text rs2)
shown (insns.AddImmWord rd rs1 n) pc = three (codes "addiw") (register_text rd) (register_text rs1) (signed_decimal n)
shown (insns.ShiftImmWord op rd rs1 amount) pc = three (shift_word_name op) (register_text rd) (register_text rs1) (decimal amount)
shown (insns.AluWord op rd rs1 rs2) pc = three (word_name op) (register_text rd) (register_text rs1) (register_text rs2)
shown (insns.Fence rd rs1 bits) pc = if is_full_fence rd rs1 bits then codes "fence" else codes ".word 0x" ++ hex_word (fence_word rd rs1 bits)
shown insns.Ecall pc = codes "ecall"
shown insns.Ebreak pc = codes "ebreak"

-- a register's number
abbrev pub IsRegister : ℕ → Type 0
IsRegister n = n < 32

-- an immediate of twelve bits with a sign
abbrev pub IsImmediate : ℤ → Type 0
IsImmediate n = (negsuc 2047 ≤ℤ n) × (n ≤ℤ pos 2047)

-- an even offset from low to high
abbrev pub IsOffset : ℤ → ℤ → ℤ → Type 0
IsOffset low high n = (low ≤ℤ n) × (n ≤ℤ high) × (unsigned_abs n % 2 ≡ 0)

-- every field is in its range
abbrev pub IsRanged : Insn → Type 0
IsRanged (insns.Lui rd n) = IsRegister rd × (n < 1048576)
IsRanged (insns.Auipc rd n) = IsRegister rd × (n < 1048576)
IsRanged (insns.Jal rd offset) = IsRegister rd × (IsOffset (negsuc 1048575) (pos 1048574) offset)
IsRanged (insns.Jalr rd rs1 n) = IsRegister rd × IsRegister rs1 × (IsImmediate n)
IsRanged (insns.Branch condition rs1 rs2 offset) = IsRegister rs1 × IsRegister rs2 × (IsOffset (negsuc 4095) (pos 4094) offset)
IsRanged (insns.Load kind rd rs1 n) = IsRegister rd × IsRegister rs1 × (IsImmediate n)
IsRanged (insns.Store width rs1 rs2 n) = IsRegister rs1 × IsRegister rs2 × (IsImmediate n)
IsRanged (insns.Imm op rd rs1 n) = IsRegister rd × IsRegister rs1 × (IsImmediate n)
IsRanged (insns.ShiftImm op rd rs1 amount) = IsRegister rd × IsRegister rs1 × (amount < 64)
IsRanged (insns.Alu op rd rs1 rs2) = IsRegister rd × IsRegister rs1 × IsRegister rs2
IsRanged (insns.AddImmWord rd rs1 n) = IsRegister rd × IsRegister rs1 × (IsImmediate n)
IsRanged (insns.ShiftImmWord op rd rs1 amount) = IsRegister rd × IsRegister rs1 × (amount < 32)
IsRanged (insns.AluWord op rd rs1 rs2) = IsRegister rd × IsRegister rs1 × IsRegister rs2
IsRanged (insns.Fence rd rs1 bits) = IsRegister rd × IsRegister rs1 × (bits < 4096)
IsRanged insns.Ecall = Unit {0}
IsRanged insns.Ebreak = Unit {0}

-- the text is one line without a label, and at pc, whatever the labels, it gives what the instruction gives: its word,
-- which takes one word of the text
pub record Rereads (text : List ℕ) (insn : Insn) (pc : ℕ) : Type 0 where
  pub one_line : lines text ≡ text ∷ []
  pub unlabelled : label_of text ≡ None
  pub item : Item
  pub takes_word : (p : Place) → after_item p item ≡ further p 1 0
  pub is_item : (labels : List Label) → (line_of Text text >>= resolve labels pc) ≡ Ok item
  pub same_word : (piece_words piece_bytes : List ℕ) → IsPiece item piece_words piece_bytes → IsPiece (Instruction insn) piece_words piece_bytes

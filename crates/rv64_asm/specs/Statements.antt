-- What a line says.
use Rattle.std.specs.Prelude.{ℕ, ℤ, pos, negsuc, ◌+◌, ◌*◌, ◌-◌, ◌^◌, ◌==◌, ◌||◌, ◌&&◌, Bool, false, List, [], ◌∷◌, length, nat_le, if◌then◌else◌, Option, Some, None, Result, Ok, Err}
use Rattle.std.specs.List.{list_all}
use Rattle.std.specs.Option.{ok_or}
use Rattle.paged_memory.specs.Regions.{most_bytes}
use Rattle.rv64_decode.specs.declared.insn.Insn.{Insn}
use Rattle.rv64_decode.specs.declared.insn.Insn.TheVariants as insns
use Rattle.rv64_decode.specs.declared.insn.BranchCondition.{BranchCondition}
use Rattle.rv64_decode.specs.declared.insn.StoreWidth.{StoreWidth}
use Rattle.rv64_decode.specs.declared.insn.StoreWidth.TheVariants as widths
use Rattle.rv64_decode.specs.declared.insn.LoadKind.{LoadKind}
use Rattle.rv64_decode.specs.declared.insn.ImmOp.{ImmOp}
use Rattle.rv64_decode.specs.declared.insn.ImmOp.TheVariants as imms
use Rattle.rv64_decode.specs.declared.insn.ShiftOp.{ShiftOp}
use Rattle.rv64_decode.specs.declared.insn.AluOp.{AluOp}
use Rattle.rv64_decode.specs.declared.insn.AluOp.TheVariants as alus
use Rattle.rv64_asm.specs.declared.fault.LineFault.{LineFault}
use Rattle.rv64_asm.specs.declared.fault.LineFault.TheVariants.{UnknownWord, OperandForm}
use Rattle.rv64_asm.specs.declared.lexing.Operands.{Operands}
use Rattle.rv64_asm.specs.declared.lexing.Operands.TheVariants.{Zero, One, Two, Three}
use Rattle.rv64_asm.specs.declared.statement.Target.{Target}
use Rattle.rv64_asm.specs.declared.statement.Target.TheVariants.{Label, Address}
use Rattle.rv64_asm.specs.declared.statement.Item.TheVariants.{Nothing, Instruction, Word, Number, Zeros}
use Rattle.rv64_asm.specs.declared.statement.Statement.{Statement}
use Rattle.rv64_asm.specs.declared.statement.Statement.TheVariants.{Enter, Give, Branch, Jump}
use Rattle.rv64_asm.specs.declared.words.Part.{Part}
use Rattle.rv64_asm.specs.declared.words.Part.TheVariants as parts
use Rattle.rv64_asm.specs.declared.words.Shape.{Shape}
use Rattle.rv64_asm.specs.declared.words.Shape.TheVariants as shapes
use Rattle.rv64_asm.specs.declared.words.Kind.{Kind}
use Rattle.rv64_asm.specs.declared.words.Kind.TheVariants as kinds
use Rattle.rv64_asm.specs.Words.{kind_of, register_of, fence_set_of}
use Rattle.rv64_asm.specs.Lexing.{cut, trim, code_of, word_of, shape_of, operands}
use Rattle.rv64_asm.specs.Numbers.{◌>>=◌, number_in, natural, number_between}

-- an ASCII letter
abbrev pub is_letter : ℕ → Bool
is_letter b = (nat_le 65 b && nat_le b 90) || (nat_le 97 b && nat_le b 122)

-- an ASCII digit
abbrev pub is_digit : ℕ → Bool
is_digit b = nat_le 48 b && nat_le b 57

-- a letter, a digit, `_` or `.`
abbrev pub is_name_byte : ℕ → Bool
is_name_byte b = (is_letter b || is_digit b) || (b == 95 || b == 46)

-- a letter or `_`
abbrev pub is_name_start : ℕ → Bool
is_name_start b = is_letter b || b == 95

-- a letter or `_`, then letters, digits, `_` or `.`
abbrev pub is_name : List ℕ → Bool
is_name [] = false
is_name (b ∷ bs) = is_name_start b && list_all is_name_byte bs

-- a register by its name
abbrev pub register : List ℕ → Result ℕ LineFault
register text = ok_or (register_of text) OperandForm

-- the immediate of loads, stores, JALR and register-immediate instructions: twelve bits with a sign (section 2.3)
abbrev pub immediate : List ℕ → Result ℤ LineFault
immediate text = number_in (negsuc 2047) (pos 2047) text

-- what stands before the closing parenthesis, behind which nothing stands
abbrev pub inner_of : Option (List ℕ × List ℕ) → Result (List ℕ) LineFault
inner_of None = Err OperandForm
inner_of (Some halves) = if length halves.1 == 0 then Ok halves.0 else Err OperandForm

-- `number(register)`: the register, and the number
unfoldable pub place_of : List ℕ → Result (ℕ × ℤ) LineFault
place_of text = do
  outer ← ok_or (cut 40 text) OperandForm
  inner ← inner_of (cut 41 outer.1)
  base ← register inner
  number ← immediate outer.0
  Ok (base, number)

-- a label, or the address as a number
unfoldable pub target_of : List ℕ → Result (Target (List ℕ)) LineFault
target_of text = if is_name text then Ok (Label text) else (natural (2 ^ 64 - 1) text >>= λ a. Ok (Address a))

-- `rd, rs1, rs2`
unfoldable pub three_registers : Operands (List ℕ) → Result (ℕ × ℕ × ℕ) LineFault
three_registers (Three d s t) = do
  rd ← register d
  rs1 ← register s
  rs2 ← register t
  Ok (rd, rs1, rs2)
three_registers _ = Err OperandForm

-- `rd, rs`
unfoldable pub two_registers : Operands (List ℕ) → Result (ℕ × ℕ) LineFault
two_registers (Two d s) = do
  rd ← register d
  rs ← register s
  Ok (rd, rs)
two_registers _ = Err OperandForm

-- `rd, rs1, number`
unfoldable pub with_immediate : Operands (List ℕ) → Result (ℕ × ℕ × ℤ) LineFault
with_immediate (Three d s n) = do
  rd ← register d
  rs1 ← register s
  number ← immediate n
  Ok (rd, rs1, number)
with_immediate _ = Err OperandForm

-- `rd, rs1, amount`, the amount at most high (sections 5.2 and 2.4)
unfoldable pub with_amount : ℕ → Operands (List ℕ) → Result (ℕ × ℕ × ℕ) LineFault
with_amount high (Three d s n) = do
  rd ← register d
  rs1 ← register s
  amount ← natural high n
  Ok (rd, rs1, amount)
with_amount high _ = Err OperandForm

-- `register, number(register)`
unfoldable pub with_place : Operands (List ℕ) → Result (ℕ × ℕ × ℤ) LineFault
with_place (Two r p) = do
  register ← register r
  place ← place_of p
  Ok (register, place.0, place.1)
with_place _ = Err OperandForm

-- `rd, number`, the number one of twenty bits (section 2.4)
unfoldable pub with_upper : Operands (List ℕ) → Result (ℕ × ℕ) LineFault
with_upper (Two d n) = do
  rd ← register d
  number ← natural 1048575 n
  Ok (rd, number)
with_upper _ = Err OperandForm

-- `rd, number(rs1)`, or `rd, rs1, number`
abbrev pub jalr : Operands (List ℕ) → Result (ℕ × ℕ × ℤ) LineFault
jalr (Two d p) = with_place (Two d p)
jalr operands = with_immediate operands

-- one of the sets of a fence
abbrev pub fence_set : List ℕ → Result ℕ LineFault
fence_set text = ok_or (fence_set_of text) OperandForm

-- no operand: all of `iorw` before and after; or the two sets (section 2.7)
unfoldable pub fence : Operands (List ℕ) → Result ℕ LineFault
fence Zero = Ok 255
fence (Two p s) = do
  before ← fence_set p
  behind ← fence_set s
  Ok (before * 16 + behind)
fence _ = Err OperandForm

-- `rs`
abbrev pub one_register : Operands (List ℕ) → Result ℕ LineFault
one_register (One s) = register s
one_register _ = Err OperandForm

-- no operand
abbrev pub alone : {X : Type 0} → X → Operands (List ℕ) → Result X LineFault
alone x Zero = Ok x
alone x _ = Err OperandForm

-- an instruction of `rd, number`
abbrev pub upper : (ℕ → ℕ → Insn) → Operands (List ℕ) → Result Insn LineFault
upper insn o = with_upper o >>= λ x. Ok (insn x.0 x.1)

-- an instruction of `rd, rs1, rs2`
abbrev pub with_registers : (ℕ → ℕ → ℕ → Insn) → Operands (List ℕ) → Result Insn LineFault
with_registers insn o = three_registers o >>= λ x. Ok (insn x.0 x.1 x.2)

-- `rd, number(rs1)`
abbrev pub load : LoadKind → Operands (List ℕ) → Result Insn LineFault
load kind o = with_place o >>= λ x. Ok (insns.Load kind x.0 x.1 x.2)

-- `rs2, number(rs1)`
abbrev pub store : StoreWidth → Operands (List ℕ) → Result Insn LineFault
store width o = with_place o >>= λ x. Ok (insns.Store width x.1 x.0 x.2)

-- `rd, rs1, number`
abbrev pub imm : ImmOp → Operands (List ℕ) → Result Insn LineFault
imm op o = with_immediate o >>= λ x. Ok (insns.Imm op x.0 x.1 x.2)

-- `rd, rs1, amount`, the amount one of six bits (section 5.2)
abbrev pub shift_imm : ShiftOp → Operands (List ℕ) → Result Insn LineFault
shift_imm op o = with_amount 63 o >>= λ x. Ok (insns.ShiftImm op x.0 x.1 x.2)

-- `rd, rs1, amount`, the amount one of five bits (section 5.2)
abbrev pub shift_imm_word : ShiftOp → Operands (List ℕ) → Result Insn LineFault
shift_imm_word op o = with_amount 31 o >>= λ x. Ok (insns.ShiftImmWord op x.0 x.1 x.2)

-- FENCE with x0 in its two fields of registers
abbrev pub any_fence : Operands (List ℕ) → Result Insn LineFault
any_fence o = fence o >>= λ bits. Ok (insns.Fence 0 0 bits)

-- `rd, rs` with an immediate that the mnemonic fixes
abbrev pub fixed_imm : ImmOp → ℤ → Operands (List ℕ) → Result Insn LineFault
fixed_imm op number o = two_registers o >>= λ x. Ok (insns.Imm op x.0 x.1 number)

-- `rd, rs` with x0 as the first source
abbrev pub from_zero : AluOp → Operands (List ℕ) → Result Insn LineFault
from_zero op o = two_registers o >>= λ x. Ok (insns.Alu op x.0 0 x.1)

-- JALR in either form
abbrev pub jump_register : Operands (List ℕ) → Result Insn LineFault
jump_register o = jalr o >>= λ x. Ok (insns.Jalr x.0 x.1 x.2)

-- ADDIW, `rd, rs1, number`
abbrev pub add_imm_word : Operands (List ℕ) → Result Insn LineFault
add_imm_word o = with_immediate o >>= λ x. Ok (insns.AddImmWord x.0 x.1 x.2)

-- `jr s` is JALR with x0 and no offset
abbrev pub jr : Operands (List ℕ) → Result Insn LineFault
jr o = one_register o >>= λ s. Ok (insns.Jalr 0 s (pos 0))

-- an instruction by its mnemonic and operands; a pseudo-instruction gives the one that it stands for
unfoldable pub instruction_of : Shape → Operands (List ℕ) → Result Insn LineFault
instruction_of shapes.Lui o = upper (λ rd n. insns.Lui rd n) o
instruction_of shapes.Auipc o = upper (λ rd n. insns.Auipc rd n) o
instruction_of shapes.Jalr o = jump_register o
instruction_of shapes.Fence o = any_fence o
instruction_of shapes.Ecall o = alone insns.Ecall o
instruction_of shapes.Ebreak o = alone insns.Ebreak o
instruction_of (shapes.Load kind) o = load kind o
instruction_of (shapes.Store width) o = store width o
instruction_of (shapes.Imm op) o = imm op o
instruction_of (shapes.ShiftImm op) o = shift_imm op o
instruction_of (shapes.ShiftImmWord op) o = shift_imm_word op o
instruction_of shapes.AddImmWord o = add_imm_word o
instruction_of (shapes.Alu op) o = with_registers (λ d s t. insns.Alu op d s t) o
instruction_of (shapes.AluWord op) o = with_registers (λ d s t. insns.AluWord op d s t) o
instruction_of shapes.Nop o = alone (insns.Imm imms.Add 0 0 (pos 0)) o
instruction_of shapes.Mv o = fixed_imm imms.Add (pos 0) o
instruction_of shapes.Not o = fixed_imm imms.Xor (negsuc 0) o
instruction_of shapes.Neg o = from_zero alus.Sub o
instruction_of shapes.Seqz o = fixed_imm imms.SetLessUnsigned (pos 1) o
instruction_of shapes.Snez o = from_zero alus.SetLessUnsigned o
instruction_of shapes.Jr o = jr o
instruction_of shapes.Ret o = alone (insns.Jalr 0 1 (pos 0)) o

-- `rs1, rs2, target`
unfoldable pub branch : BranchCondition → Operands (List ℕ) → Result (Statement (List ℕ)) LineFault
branch condition (Three s t target) = do
  rs1 ← register s
  rs2 ← register t
  target ← target_of target
  Ok (Branch condition rs1 rs2 target)
branch condition _ = Err OperandForm

-- `rs1, target`, which compares with x0
unfoldable pub branch_zero : BranchCondition → Operands (List ℕ) → Result (Statement (List ℕ)) LineFault
branch_zero condition (Two s target) = do
  rs1 ← register s
  target ← target_of target
  Ok (Branch condition rs1 0 target)
branch_zero condition _ = Err OperandForm

-- `rd, target`
unfoldable pub jal : Operands (List ℕ) → Result (Statement (List ℕ)) LineFault
jal (Two d target) = do
  rd ← register d
  target ← target_of target
  Ok (Jump rd target)
jal _ = Err OperandForm

-- `target`, which links to x0
unfoldable pub jump : Operands (List ℕ) → Result (Statement (List ℕ)) LineFault
jump (One target) = target_of target >>= λ target. Ok (Jump 0 target)
jump _ = Err OperandForm

-- one number that so many bits hold, with or without a sign
unfoldable pub number_of_width : StoreWidth → Operands (List ℕ) → Result ℕ LineFault
number_of_width widths.Byte (One n) = number_between (negsuc 127) 255 n
number_of_width widths.Half (One n) = number_between (negsuc 32767) 65535 n
number_of_width widths.Word (One n) = number_between (negsuc 2147483647) 4294967295 n
number_of_width widths.Double (One n) = number_between (negsuc 9223372036854775807) 18446744073709551615 n
number_of_width width _ = Err OperandForm

-- `.zero n`: at most 256 pages of bytes
unfoldable pub zeros : Operands (List ℕ) → Result (Statement (List ℕ)) LineFault
zeros (One n) = natural most_bytes n >>= λ count. Ok (Give (Zeros count))
zeros _ = Err OperandForm

-- a number directive: `.word` alone stands in the text
unfoldable pub number : Part → StoreWidth → Operands (List ℕ) → Result (Statement (List ℕ)) LineFault
number parts.Data width o = number_of_width width o >>= λ bits. Ok (Give (Number width bits))
number parts.Text widths.Word o = number_of_width widths.Word o >>= λ bits. Ok (Give (Word bits))
number parts.Text _ o = Err OperandForm

-- an instruction with or without a target, which stands in the text
unfoldable pub text_statement : Kind → Operands (List ℕ) → Result (Statement (List ℕ)) LineFault
text_statement (kinds.Plain shape) o = instruction_of shape o >>= λ insn. Ok (Give (Instruction insn))
text_statement (kinds.Branch condition) o = branch condition o
text_statement (kinds.BranchZero condition) o = branch_zero condition o
text_statement kinds.Jal o = jal o
text_statement kinds.J o = jump o
text_statement _ o = Err OperandForm

-- what a word and its operands say in a part: the data has directives alone
unfoldable pub statement_of : Part → Kind → Operands (List ℕ) → Result (Statement (List ℕ)) LineFault
statement_of part (kinds.Enter next) o = alone (Enter next) o
statement_of part (kinds.Number width) o = number part width o
statement_of parts.Data kinds.Zero o = zeros o
statement_of parts.Text kind o = text_statement kind o
statement_of parts.Data _ o = Err OperandForm

-- what stands behind the label
unfoldable pub body_of : Part → List ℕ → Result (Statement (List ℕ)) LineFault
body_of part body = if length body == 0 then Ok (Give Nothing) else (do
  kind ← ok_or (kind_of (word_of body).0) UnknownWord
  statement_of part kind (shape_of (operands (word_of body).1)))

-- of the halves round the first colon the first is the label, where it is a name
abbrev pub label_in : List ℕ → Option (List ℕ × List ℕ) → Option (List ℕ) × List ℕ
label_in body None = (None, body)
label_in body (Some halves) = if is_name halves.0 then (Some halves.0, trim halves.1) else (None, body)

-- the label of a line, if it has one, and what stands behind it: `name:` ends at the first colon
unfoldable pub split_line : List ℕ → Option (List ℕ) × List ℕ
split_line line = label_in (trim (code_of line)) (cut 58 (trim (code_of line)))

-- the label of a line, if it has one
abbrev pub label_of : List ℕ → Option (List ℕ)
label_of line = (split_line line).0

-- what a line says in a part, behind its label
abbrev pub line_of : Part → List ℕ → Result (Statement (List ℕ)) LineFault
line_of part line = body_of part (split_line line).1

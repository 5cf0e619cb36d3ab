-- Every mnemonic that is written is a plain word, and names its kind.
use Rattle.std.proofs.Common.{◌≡◌, ℕ, true, List, length, Some, codes, refl, ltb}
use Rattle.std.specs.List.{list_all}
use Rattle.std.proofs.lemmas.Bool.{ltb-true}
use Rattle.rv64_decode.specs.declared.insn.BranchCondition.{BranchCondition}
use Rattle.rv64_decode.specs.declared.insn.BranchCondition.TheVariants as conditions
use Rattle.rv64_decode.specs.declared.insn.LoadKind.{LoadKind}
use Rattle.rv64_decode.specs.declared.insn.LoadKind.TheVariants as loads
use Rattle.rv64_decode.specs.declared.insn.StoreWidth.{StoreWidth}
use Rattle.rv64_decode.specs.declared.insn.StoreWidth.TheVariants as widths
use Rattle.rv64_decode.specs.declared.insn.ImmOp.{ImmOp}
use Rattle.rv64_decode.specs.declared.insn.ImmOp.TheVariants as imms
use Rattle.rv64_decode.specs.declared.insn.ShiftOp.{ShiftOp}
use Rattle.rv64_decode.specs.declared.insn.ShiftOp.TheVariants as shifts
use Rattle.rv64_decode.specs.declared.insn.AluOp.{AluOp}
use Rattle.rv64_decode.specs.declared.insn.AluOp.TheVariants as alus
use Rattle.rv64_decode.specs.declared.insn.WordOp.{WordOp}
use Rattle.rv64_decode.specs.declared.insn.WordOp.TheVariants as words
use Rattle.rv64_asm.specs.declared.words.Shape.TheVariants as shapes
use Rattle.rv64_asm.specs.declared.words.Kind.{Kind}
use Rattle.rv64_asm.specs.declared.words.Kind.TheVariants.{Plain, Branch}
use Rattle.rv64_asm.specs.Words.{kind_of}
use Rattle.rv64_asm.specs.Shown.{condition_name, load_name, store_name, imm_name, shift_name, shift_word_name, alu_name, word_name}
use Rattle.rv64_asm.proofs.Plain.{IsPlain, plain}

pub record IsNamed (name : List ℕ) (kind : Kind) : Type 0 where
  pub word : IsPlain name
  pub names : kind_of name ≡ Some kind

pub named : (name : List ℕ) (kind : Kind) → list_all plain name ≡ true → ltb 0 (length name) ≡ true → kind_of name ≡ Some kind → IsNamed name kind
named name kind bytes some names = record { word = record { some = ltb-true 0 (length name) some; bytes = bytes }; names = names }

pub condition_named : (x : BranchCondition) → IsNamed (condition_name x) (Branch x)
condition_named conditions.Equal = named (codes "beq") (Branch conditions.Equal) refl refl refl
condition_named conditions.NotEqual = named (codes "bne") (Branch conditions.NotEqual) refl refl refl
condition_named conditions.Less = named (codes "blt") (Branch conditions.Less) refl refl refl
condition_named conditions.NotLess = named (codes "bge") (Branch conditions.NotLess) refl refl refl
condition_named conditions.LessUnsigned = named (codes "bltu") (Branch conditions.LessUnsigned) refl refl refl
condition_named conditions.NotLessUnsigned = named (codes "bgeu") (Branch conditions.NotLessUnsigned) refl refl refl

pub load_named : (x : LoadKind) → IsNamed (load_name x) (Plain (shapes.Load x))
load_named loads.Byte = named (codes "lb") (Plain (shapes.Load loads.Byte)) refl refl refl
load_named loads.Half = named (codes "lh") (Plain (shapes.Load loads.Half)) refl refl refl
load_named loads.Word = named (codes "lw") (Plain (shapes.Load loads.Word)) refl refl refl
load_named loads.Double = named (codes "ld") (Plain (shapes.Load loads.Double)) refl refl refl
load_named loads.ByteUnsigned = named (codes "lbu") (Plain (shapes.Load loads.ByteUnsigned)) refl refl refl
load_named loads.HalfUnsigned = named (codes "lhu") (Plain (shapes.Load loads.HalfUnsigned)) refl refl refl
load_named loads.WordUnsigned = named (codes "lwu") (Plain (shapes.Load loads.WordUnsigned)) refl refl refl

pub store_named : (x : StoreWidth) → IsNamed (store_name x) (Plain (shapes.Store x))
store_named widths.Byte = named (codes "sb") (Plain (shapes.Store widths.Byte)) refl refl refl
store_named widths.Half = named (codes "sh") (Plain (shapes.Store widths.Half)) refl refl refl
store_named widths.Word = named (codes "sw") (Plain (shapes.Store widths.Word)) refl refl refl
store_named widths.Double = named (codes "sd") (Plain (shapes.Store widths.Double)) refl refl refl

pub imm_named : (x : ImmOp) → IsNamed (imm_name x) (Plain (shapes.Imm x))
imm_named imms.Add = named (codes "addi") (Plain (shapes.Imm imms.Add)) refl refl refl
imm_named imms.SetLess = named (codes "slti") (Plain (shapes.Imm imms.SetLess)) refl refl refl
imm_named imms.SetLessUnsigned = named (codes "sltiu") (Plain (shapes.Imm imms.SetLessUnsigned)) refl refl refl
imm_named imms.Xor = named (codes "xori") (Plain (shapes.Imm imms.Xor)) refl refl refl
imm_named imms.Or = named (codes "ori") (Plain (shapes.Imm imms.Or)) refl refl refl
imm_named imms.And = named (codes "andi") (Plain (shapes.Imm imms.And)) refl refl refl

pub shift_named : (x : ShiftOp) → IsNamed (shift_name x) (Plain (shapes.ShiftImm x))
shift_named shifts.Left = named (codes "slli") (Plain (shapes.ShiftImm shifts.Left)) refl refl refl
shift_named shifts.Right = named (codes "srli") (Plain (shapes.ShiftImm shifts.Right)) refl refl refl
shift_named shifts.RightArithmetic = named (codes "srai") (Plain (shapes.ShiftImm shifts.RightArithmetic)) refl refl refl

pub shift_word_named : (x : ShiftOp) → IsNamed (shift_word_name x) (Plain (shapes.ShiftImmWord x))
shift_word_named shifts.Left = named (codes "slliw") (Plain (shapes.ShiftImmWord shifts.Left)) refl refl refl
shift_word_named shifts.Right = named (codes "srliw") (Plain (shapes.ShiftImmWord shifts.Right)) refl refl refl
shift_word_named shifts.RightArithmetic = named (codes "sraiw") (Plain (shapes.ShiftImmWord shifts.RightArithmetic)) refl refl refl

pub alu_named : (x : AluOp) → IsNamed (alu_name x) (Plain (shapes.Alu x))
alu_named alus.Add = named (codes "add") (Plain (shapes.Alu alus.Add)) refl refl refl
alu_named alus.Sub = named (codes "sub") (Plain (shapes.Alu alus.Sub)) refl refl refl
alu_named alus.ShiftLeft = named (codes "sll") (Plain (shapes.Alu alus.ShiftLeft)) refl refl refl
alu_named alus.SetLess = named (codes "slt") (Plain (shapes.Alu alus.SetLess)) refl refl refl
alu_named alus.SetLessUnsigned = named (codes "sltu") (Plain (shapes.Alu alus.SetLessUnsigned)) refl refl refl
alu_named alus.Xor = named (codes "xor") (Plain (shapes.Alu alus.Xor)) refl refl refl
alu_named alus.ShiftRight = named (codes "srl") (Plain (shapes.Alu alus.ShiftRight)) refl refl refl
alu_named alus.ShiftRightArithmetic = named (codes "sra") (Plain (shapes.Alu alus.ShiftRightArithmetic)) refl refl refl
alu_named alus.Or = named (codes "or") (Plain (shapes.Alu alus.Or)) refl refl refl
alu_named alus.And = named (codes "and") (Plain (shapes.Alu alus.And)) refl refl refl

pub word_named : (x : WordOp) → IsNamed (word_name x) (Plain (shapes.AluWord x))
word_named words.Add = named (codes "addw") (Plain (shapes.AluWord words.Add)) refl refl refl
word_named words.Sub = named (codes "subw") (Plain (shapes.AluWord words.Sub)) refl refl refl
word_named words.ShiftLeft = named (codes "sllw") (Plain (shapes.AluWord words.ShiftLeft)) refl refl refl
word_named words.ShiftRight = named (codes "srlw") (Plain (shapes.AluWord words.ShiftRight)) refl refl refl
word_named words.ShiftRightArithmetic = named (codes "sraw") (Plain (shapes.AluWord words.ShiftRightArithmetic)) refl refl refl

-- The laws of the assembler, for callers to cite.
use Rattle.std.proofs.Common.{◌≡◌, ℕ, List, refl, sym, ◌∙◌}
use Rattle.std.specs.Str.Lines.{lines}
use Rattle.rv64_decode.specs.declared.insn.Insn.{Insn}
use Rattle.rv64_asm.specs.declared.fault.LineFault.{LineFault}
use Rattle.rv64_asm.specs.declared.fault.AsmFault.{AsmFault}
use Rattle.rv64_asm.specs.declared.fault.AsmFault.TheVariants.{At, OutOfMemory}
use Rattle.rv64_asm.specs.declared.statement.Item.TheVariants.{Instruction}
use Rattle.rv64_asm.specs.ProgramValue.{ProgramValue}
use Rattle.rv64_asm.specs.Label.{Label}
use Rattle.rv64_asm.specs.Assembled.{IsAssembly, IsRefusal}
use Rattle.rv64_asm.specs.Written.{IsPiece}
use Rattle.rv64_asm.specs.Shown.{Rereads}
use Rattle.rv64_asm.proofs.Determined.{one_program}
use Rattle.rv64_asm.proofs.OneLine.{one_line_gives, one_line_stands}
use Rattle.rv64_asm.proofs.Outcomes.{not_refused, one_fault_of_text}
-- the line of a pseudo-instruction says what the line of its instruction says
pub use Rattle.rv64_asm.proofs.PseudoInstructions.{nop_is_addi, mv_is_addi, not_is_xori, neg_is_sub, seqz_is_sltiu, snez_is_sltu, beqz_is_beq, bnez_is_bne, j_is_jal, jr_is_jalr, ret_is_jalr}

-- ---- a text has one outcome

-- lines have one assembly
pub one_assembly : (all : List (List ℕ)) (p q : ProgramValue) (labels others : List Label) → IsAssembly all p labels → IsAssembly all q others → (p ≡ q) × (labels ≡ others)
one_assembly all p q labels others a b =
    let same : labels ≡ others = a.labels_are ∙ sym b.labels_are in
    (one_program all a.stand labels p q a.is_program (rw same b.is_program), same)

-- lines that have an assembly have no fault
pub assembly_has_no_fault : (all : List (List ℕ)) (program : ProgramValue) (labels : List Label) (fault : LineFault) (number : ℕ) → IsAssembly all program labels → IsRefusal all (At fault number) → ⊥
assembly_has_no_fault = not_refused

-- lines have one fault, at one line
pub one_refusal : (all : List (List ℕ)) (fault other : LineFault) (number another : ℕ) → IsRefusal all (At fault number) → IsRefusal all (At other another) → At fault number ≡ At other another
one_refusal all fault other number another h i =
    let same = one_fault_of_text all fault other number another h i in
    rw (same.0, same.1) refl

-- ---- what `show` writes for the start of the text, assembled

module _ (text : List ℕ) (insn : Insn) (r : Rereads text insn 0x10000) where
  -- gives the word of the instruction and nothing else
  pub shown_gives_its_word : (program : ProgramValue) (labels : List Label) → IsAssembly (lines text) program labels → IsPiece (Instruction insn) program.words program.bytes
  shown_gives_its_word program labels a = one_line_gives text insn r program labels (rw r.one_line at a)

  -- and is refused only where memory runs out
  pub shown_has_no_fault : (refusal : AsmFault) → IsRefusal (lines text) refusal → refusal ≡ OutOfMemory
  shown_has_no_fault (At fault number) h = absurd (one_line_stands text insn r fault number (rw r.one_line at h))
  shown_has_no_fault OutOfMemory h = refl

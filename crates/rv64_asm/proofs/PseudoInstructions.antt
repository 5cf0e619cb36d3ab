-- The line of each pseudo-instruction says what the line of its instruction says (tables 25.2 and 25.3 of the RISC-V
-- Unprivileged ISA, document 20191213).
use Rattle.std.proofs.Common.{◌≡◌, ℕ, ◌==◌, not, Bool, true, false, List, [], ◌∷◌, ◌++◌, length, ltb, Result, Ok, Err, Some, codes, ℤ, pos, negsuc, refl, sym, ap, ◌∙◌, arith}
use Rattle.std.specs.List.{list_all}
use Rattle.std.proofs.lemmas.Bool.{ltb-true}
use Rattle.std.proofs.lemmas.List.Folds.{list_all-append}
use Rattle.std.proofs.lemmas.Grind.{common_steps}
use Rattle.rv64_decode.specs.declared.insn.Insn.{Insn}
use Rattle.rv64_decode.specs.declared.insn.Insn.TheVariants as insns
use Rattle.rv64_decode.specs.declared.insn.ImmOp.{ImmOp}
use Rattle.rv64_decode.specs.declared.insn.ImmOp.TheVariants as imms
use Rattle.rv64_decode.specs.declared.insn.AluOp.{AluOp}
use Rattle.rv64_decode.specs.declared.insn.AluOp.TheVariants as alus
use Rattle.rv64_asm.specs.declared.fault.LineFault.{LineFault}
use Rattle.rv64_asm.specs.declared.lexing.Operands.TheVariants.{One, Two, Three}
use Rattle.rv64_asm.specs.declared.statement.Item.TheVariants.{Instruction}
use Rattle.rv64_asm.specs.declared.statement.Statement.{Statement}
use Rattle.rv64_asm.specs.declared.statement.Statement.TheVariants.{Give}
use Rattle.rv64_asm.specs.declared.words.Part.{Part}
use Rattle.rv64_asm.specs.declared.words.Part.TheVariants.{Text, Data}
use Rattle.rv64_asm.specs.Numbers.{◌>>=◌, number_of, magnitude}
use Rattle.rv64_asm.specs.Lexing.{cut}
use Rattle.rv64_asm.specs.SameLines.{IsSameLine}
use Rattle.rv64_asm.specs.Shown.{two, three}
use Rattle.rv64_asm.specs.Statements.{register, immediate, two_registers, three_registers, with_immediate, with_registers, with_place, place_of, fixed_imm, from_zero, imm, jr, jump_register, instruction_of, branch, branch_zero, jal, jump, text_statement, statement_of}
use Rattle.rv64_asm.proofs.Forms.{cut_at, no_open}
use Rattle.rv64_asm.proofs.Numerals.{bare}
use Rattle.rv64_asm.proofs.Plain.{IsPlain, plain, Reads, statement_by, lone_reads, one_reads, two_reads, three_reads}

word : (w : List ℕ) → list_all plain w ≡ true → ltb 0 (length w) ≡ true → IsPlain w
word w bytes some = record { some = ltb-true 0 (length w) some; bytes = bytes }

-- two texts whose words and operands say the same
same_line : (line other name more : List ℕ) (os ps : List (List ℕ)) → ((part : Part) → Reads line part name os) → ((part : Part) → Reads other part more ps) → ((part : Part) → statement_by part name os ≡ statement_by part more ps) → IsSameLine line other
same_line line other name more os ps r q e = record {
  labels = (r Text).unlabelled ∙ sym ((q Text).unlabelled);
  says = λ part. (r part).said ∙ e part ∙ sym ((q part).said);
}

zero_read : immediate (codes "0") ≡ Ok (pos 0)
unfolding number_of magnitude
zero_read = refl

one_read : immediate (codes "1") ≡ Ok (pos 1)
unfolding number_of magnitude
one_read = refl

minus_one_read : immediate (codes "-1") ≡ Ok (negsuc 0)
unfolding number_of magnitude
minus_one_read = refl

abbrev given : Result Insn LineFault → Result (Statement (List ℕ)) LineFault
given r = r >>= λ insn. Ok (Give (Instruction insn))

-- the immediate that a mnemonic fixes, written out
fixed_is_imm : (op : ImmOp) (number : ℤ) (d s n : List ℕ) → immediate n ≡ Ok number → fixed_imm op number (Two d s) ≡ imm op (Three d s n)
unfolding two_registers with_immediate
fixed_is_imm op number d s n e = by (register d) refl (register s) refl
  where
    by : (a : Result ℕ LineFault) → register d ≡ a → (b : Result ℕ LineFault) → register s ≡ b → fixed_imm op number (Two d s) ≡ imm op (Three d s n)
    by (Err f) p b q = rw p refl
    by (Ok x) p (Err f) q = rw (p, q) refl
    by (Ok x) p (Ok y) q = rw (p, q, e) refl

-- x0 as the first source, written out
from_zero_is_alu : (op : AluOp) (d s : List ℕ) → from_zero op (Two d s) ≡ with_registers (λ rd rs1 rs2. insns.Alu op rd rs1 rs2) (Three d (codes "x0") s)
unfolding two_registers three_registers
from_zero_is_alu op d s = by (register d) refl (register s) refl
  where
    by : (a : Result ℕ LineFault) → register d ≡ a → (b : Result ℕ LineFault) → register s ≡ b → from_zero op (Two d s) ≡ with_registers (λ rd rs1 rs2. insns.Alu op rd rs1 rs2) (Three d (codes "x0") s)
    by (Err f) p b q = rw p refl
    by (Ok x) p (Err f) q = rw (p, q) refl
    by (Ok x) p (Ok y) q = rw (p, q) refl

-- no closing parenthesis
abbrev pub unshut : ℕ → Bool
unshut b = not (b == 41)

no_shut : (b : ℕ) → unshut b ≡ true → (b == 41) ≡ false
no_shut b h = grind (arith, common_steps)

jr_is_place : (s : List ℕ) → list_all unshut s ≡ true → jr (One s) ≡ jump_register (Two (codes "x0") (codes "0(" ++ (s ++ codes ")")))
unfolding with_place place_of
jr_is_place s h = by (register s) refl
  where
    outer : cut 40 (codes "0(" ++ (s ++ codes ")")) ≡ Some (codes "0", s ++ codes ")")
    outer = cut_at bare 40 (codes "0") (s ++ codes ")") refl no_open refl

    within : cut 41 (s ++ codes ")") ≡ Some (s, [])
    within = cut_at unshut 41 s [] h no_shut refl

    by : (a : Result ℕ LineFault) → register s ≡ a → jr (One s) ≡ jump_register (Two (codes "x0") (codes "0(" ++ (s ++ codes ")")))
    by (Err f) p = rw (outer, within, p) refl
    by (Ok x) p = rw (outer, within, p, zero_read) refl

-- ---- by the word and its operands, which may be any texts

nop_says : (part : Part) → statement_by part (codes "nop") [] ≡ statement_by part (codes "addi") (codes "x0" ∷ codes "x0" ∷ codes "0" ∷ [])
unfolding statement_of text_statement instruction_of with_immediate number_of magnitude
nop_says Text = refl
nop_says Data = refl

mv_says : (part : Part) (d s : List ℕ) → statement_by part (codes "mv") (d ∷ s ∷ []) ≡ statement_by part (codes "addi") (d ∷ s ∷ codes "0" ∷ [])
unfolding statement_of text_statement instruction_of
mv_says Text d s = ap given (fixed_is_imm imms.Add (pos 0) d s (codes "0") zero_read)
mv_says Data d s = refl

not_says : (part : Part) (d s : List ℕ) → statement_by part (codes "not") (d ∷ s ∷ []) ≡ statement_by part (codes "xori") (d ∷ s ∷ codes "-1" ∷ [])
unfolding statement_of text_statement instruction_of
not_says Text d s = ap given (fixed_is_imm imms.Xor (negsuc 0) d s (codes "-1") minus_one_read)
not_says Data d s = refl

neg_says : (part : Part) (d s : List ℕ) → statement_by part (codes "neg") (d ∷ s ∷ []) ≡ statement_by part (codes "sub") (d ∷ codes "x0" ∷ s ∷ [])
unfolding statement_of text_statement instruction_of
neg_says Text d s = ap given (from_zero_is_alu alus.Sub d s)
neg_says Data d s = refl

seqz_says : (part : Part) (d s : List ℕ) → statement_by part (codes "seqz") (d ∷ s ∷ []) ≡ statement_by part (codes "sltiu") (d ∷ s ∷ codes "1" ∷ [])
unfolding statement_of text_statement instruction_of
seqz_says Text d s = ap given (fixed_is_imm imms.SetLessUnsigned (pos 1) d s (codes "1") one_read)
seqz_says Data d s = refl

snez_says : (part : Part) (d s : List ℕ) → statement_by part (codes "snez") (d ∷ s ∷ []) ≡ statement_by part (codes "sltu") (d ∷ codes "x0" ∷ s ∷ [])
unfolding statement_of text_statement instruction_of
snez_says Text d s = ap given (from_zero_is_alu alus.SetLessUnsigned d s)
snez_says Data d s = refl

beqz_says : (part : Part) (s t : List ℕ) → statement_by part (codes "beqz") (s ∷ t ∷ []) ≡ statement_by part (codes "beq") (s ∷ codes "x0" ∷ t ∷ [])
unfolding statement_of text_statement branch branch_zero
beqz_says Text s t = refl
beqz_says Data s t = refl

bnez_says : (part : Part) (s t : List ℕ) → statement_by part (codes "bnez") (s ∷ t ∷ []) ≡ statement_by part (codes "bne") (s ∷ codes "x0" ∷ t ∷ [])
unfolding statement_of text_statement branch branch_zero
bnez_says Text s t = refl
bnez_says Data s t = refl

j_says : (part : Part) (t : List ℕ) → statement_by part (codes "j") (t ∷ []) ≡ statement_by part (codes "jal") (codes "x0" ∷ t ∷ [])
unfolding statement_of text_statement jal jump
j_says Text t = refl
j_says Data t = refl

jr_says : (part : Part) (s : List ℕ) → list_all unshut s ≡ true → statement_by part (codes "jr") (s ∷ []) ≡ statement_by part (codes "jalr") (codes "x0" ∷ (codes "0(" ++ (s ++ codes ")")) ∷ [])
unfolding statement_of text_statement instruction_of
jr_says Text s h = ap given (jr_is_place s h)
jr_says Data s h = refl

ret_says : (part : Part) → statement_by part (codes "ret") [] ≡ statement_by part (codes "jalr") (codes "x0" ∷ codes "0(x1)" ∷ [])
unfolding statement_of text_statement instruction_of with_place place_of number_of magnitude
ret_says Text = refl
ret_says Data = refl

-- ---- by the line, whose operands are plain texts

pub nop_is_addi : IsSameLine (codes "nop") (codes "addi x0, x0, 0")
nop_is_addi = same_line (codes "nop") (codes "addi x0, x0, 0") (codes "nop") (codes "addi") [] (codes "x0" ∷ codes "x0" ∷ codes "0" ∷ [])
    (λ part. lone_reads part (codes "nop") (word (codes "nop") refl refl))
    (λ part. three_reads part (codes "addi") (codes "x0") (codes "x0") (codes "0") (word (codes "addi") refl refl) (word (codes "x0") refl refl) (word (codes "x0") refl refl) (word (codes "0") refl refl))
    nop_says

pub ret_is_jalr : IsSameLine (codes "ret") (codes "jalr x0, 0(x1)")
ret_is_jalr = same_line (codes "ret") (codes "jalr x0, 0(x1)") (codes "ret") (codes "jalr") [] (codes "x0" ∷ codes "0(x1)" ∷ [])
    (λ part. lone_reads part (codes "ret") (word (codes "ret") refl refl))
    (λ part. two_reads part (codes "jalr") (codes "x0") (codes "0(x1)") (word (codes "jalr") refl refl) (word (codes "x0") refl refl) (word (codes "0(x1)") refl refl))
    ret_says

-- a mnemonic with two operands, and one with the same and a third behind them
third : (name more d s n : List ℕ) → IsPlain name → IsPlain more → IsPlain d → IsPlain s → IsPlain n → ((part : Part) → statement_by part name (d ∷ s ∷ []) ≡ statement_by part more (d ∷ s ∷ n ∷ [])) → IsSameLine (two name d s) (three more d s n)
third name more d s n h i j k l e = same_line (two name d s) (three more d s n) name more (d ∷ s ∷ []) (d ∷ s ∷ n ∷ []) (λ part. two_reads part name d s h j k) (λ part. three_reads part more d s n i j k l) e

-- the same with x0 between them
between : (name more d s : List ℕ) → IsPlain name → IsPlain more → IsPlain d → IsPlain s → ((part : Part) → statement_by part name (d ∷ s ∷ []) ≡ statement_by part more (d ∷ codes "x0" ∷ s ∷ [])) → IsSameLine (two name d s) (three more d (codes "x0") s)
between name more d s h i j k e = same_line (two name d s) (three more d (codes "x0") s) name more (d ∷ s ∷ []) (d ∷ codes "x0" ∷ s ∷ []) (λ part. two_reads part name d s h j k) (λ part. three_reads part more d (codes "x0") s i j (word (codes "x0") refl refl) k) e

module _ (d s : List ℕ) (h : IsPlain d) (i : IsPlain s) where
  pub mv_is_addi : IsSameLine (two (codes "mv") d s) (three (codes "addi") d s (codes "0"))
  mv_is_addi = third (codes "mv") (codes "addi") d s (codes "0") (word (codes "mv") refl refl) (word (codes "addi") refl refl) h i (word (codes "0") refl refl) (λ part. mv_says part d s)

  pub not_is_xori : IsSameLine (two (codes "not") d s) (three (codes "xori") d s (codes "-1"))
  not_is_xori = third (codes "not") (codes "xori") d s (codes "-1") (word (codes "not") refl refl) (word (codes "xori") refl refl) h i (word (codes "-1") refl refl) (λ part. not_says part d s)

  pub neg_is_sub : IsSameLine (two (codes "neg") d s) (three (codes "sub") d (codes "x0") s)
  neg_is_sub = between (codes "neg") (codes "sub") d s (word (codes "neg") refl refl) (word (codes "sub") refl refl) h i (λ part. neg_says part d s)

  pub seqz_is_sltiu : IsSameLine (two (codes "seqz") d s) (three (codes "sltiu") d s (codes "1"))
  seqz_is_sltiu = third (codes "seqz") (codes "sltiu") d s (codes "1") (word (codes "seqz") refl refl) (word (codes "sltiu") refl refl) h i (word (codes "1") refl refl) (λ part. seqz_says part d s)

  pub snez_is_sltu : IsSameLine (two (codes "snez") d s) (three (codes "sltu") d (codes "x0") s)
  snez_is_sltu = between (codes "snez") (codes "sltu") d s (word (codes "snez") refl refl) (word (codes "sltu") refl refl) h i (λ part. snez_says part d s)

module _ (s target : List ℕ) (h : IsPlain s) (i : IsPlain target) where
  pub beqz_is_beq : IsSameLine (two (codes "beqz") s target) (three (codes "beq") s (codes "x0") target)
  beqz_is_beq = between (codes "beqz") (codes "beq") s target (word (codes "beqz") refl refl) (word (codes "beq") refl refl) h i (λ part. beqz_says part s target)

  pub bnez_is_bne : IsSameLine (two (codes "bnez") s target) (three (codes "bne") s (codes "x0") target)
  bnez_is_bne = between (codes "bnez") (codes "bne") s target (word (codes "bnez") refl refl) (word (codes "bne") refl refl) h i (λ part. bnez_says part s target)

pub j_is_jal : (target : List ℕ) → IsPlain target → IsSameLine (codes "j " ++ target) (two (codes "jal") (codes "x0") target)
j_is_jal target h = same_line (codes "j " ++ target) (two (codes "jal") (codes "x0") target) (codes "j") (codes "jal") (target ∷ []) (codes "x0" ∷ target ∷ [])
    (λ part. one_reads part (codes "j") target (word (codes "j") refl refl) h)
    (λ part. two_reads part (codes "jal") (codes "x0") target (word (codes "jal") refl refl) (word (codes "x0") refl refl) h)
    (λ part. j_says part target)

jr_place : (s : List ℕ) → IsPlain s → IsPlain (codes "0(" ++ (s ++ codes ")"))
jr_place s h = record { some = omega arith; bytes = rw (list_all-append plain s (codes ")"), h.bytes) refl }

pub jr_is_jalr : (s : List ℕ) → IsPlain s → list_all unshut s ≡ true → IsSameLine (codes "jr " ++ s) (two (codes "jalr") (codes "x0") (codes "0(" ++ (s ++ codes ")")))
jr_is_jalr s h o = same_line (codes "jr " ++ s) (two (codes "jalr") (codes "x0") (codes "0(" ++ (s ++ codes ")"))) (codes "jr") (codes "jalr") (s ∷ []) (codes "x0" ∷ (codes "0(" ++ (s ++ codes ")")) ∷ [])
    (λ part. one_reads part (codes "jr") s (word (codes "jr") refl refl) h)
    (λ part. two_reads part (codes "jalr") (codes "x0") (codes "0(" ++ (s ++ codes ")")) (word (codes "jalr") refl refl) (word (codes "x0") refl refl) (jr_place s h))
    (λ part. jr_says part s o)

-- What `show` writes reads back.
use Rattle.std.proofs.Common.{◌≡◌, ℕ, suc, ◌<◌, ◌≤◌, ◌^◌, ◌+◌, ◌-◌, ◌%◌, ◌==◌, ◌&&◌, ◌≤ℤ◌, Bool, true, false, cond, List, [], ◌∷◌, ◌++◌, Ok, codes, ℤ, pos, negsuc, refl, ap, ◌∙◌, arith}
use Rattle.std.specs.Fmt.{decimal, signed_decimal}
use Rattle.std.proofs.lemmas.Bool.{lt-ltb, le-ltb, le-leb, and_parts, eqb-true}
use Rattle.std.proofs.lemmas.Int.{ints}
use Rattle.rv64_decode.specs.declared.insn.Insn.{Insn}
use Rattle.rv64_decode.specs.declared.insn.Insn.TheVariants as insns
use Rattle.rv64_decode.specs.declared.insn.BranchCondition.{BranchCondition}
use Rattle.rv64_decode.specs.declared.insn.StoreWidth.TheVariants as widths
use Rattle.rv64_asm.specs.declared.statement.Target.TheVariants.{Address}
use Rattle.rv64_asm.specs.declared.statement.Item.TheVariants.{Instruction, Word}
use Rattle.rv64_asm.specs.declared.statement.Statement.{Statement}
use Rattle.rv64_asm.specs.declared.statement.Statement.TheVariants.{Give, Branch, Jump}
use Rattle.rv64_asm.specs.declared.lexing.Operands.TheVariants.{Zero, One, Two, Three}
use Rattle.rv64_asm.specs.declared.words.Part.TheVariants.{Text}
use Rattle.rv64_asm.specs.declared.words.Kind.{Kind}
use Rattle.rv64_asm.specs.declared.words.Shape.TheVariants as shapes
use Rattle.rv64_asm.specs.declared.words.Kind.TheVariants as kinds
use Rattle.rv64_asm.specs.Label.{Label}
use Rattle.rv64_asm.specs.Statements.{statement_of, text_statement, instruction_of, fence, number, number_of_width}
use Rattle.rv64_asm.specs.Written.{resolve, distance, offset_in}
use Rattle.rv64_asm.specs.Shown.{shown, register_text, hex, place, two, three, target, IsRanged, IsOffset, IsImmediate, Rereads, is_full_fence, fence_word, hex_word, condition_name, load_name, store_name, imm_name, shift_name, shift_word_name, alu_name, word_name}
use Rattle.rv64_asm.proofs.Plain.{Reads, lone_reads, one_reads, two_reads, three_reads, statement_by}
use Rattle.rv64_asm.proofs.Numerals.{plain_reg, plain_signed, plain_decimal, plain_hex, immediate_small}
use Rattle.rv64_asm.proofs.Forms.{three_form, immediate_form, amount_form, upper_form, place_form, branch_form, jal_form, plain_place}
use Rattle.rv64_asm.proofs.Fences.{fence_fits, fence_spelled}
use Rattle.rv64_asm.proofs.HexWords.{hex_word_read, plain_hex_word}
use Rattle.rv64_asm.proofs.NameKinds.{IsNamed, named, condition_named, load_named, store_named, imm_named, shift_named, shift_word_named, alu_named, word_named}

-- a line that gives the instruction itself
gives_it : (text name : List ℕ) (os : List (List ℕ)) (insn : Insn) (pc : ℕ) → Reads text Text name os → statement_by Text name os ≡ Ok (Give (Instruction insn)) → Rereads text insn pc
unfolding resolve
gives_it text name os insn pc r e = record {
  one_line = r.one_line;
  unlabelled = r.unlabelled;
  item = Instruction insn;
  takes_word = λ p. refl;
  is_item = λ labels. rw (r.said ∙ e) refl;
  same_word = λ ws bs h. h;
}

-- a line whose target is the address at an offset gives the instruction with that offset
goes_to : (text name : List ℕ) (os : List (List ℕ)) (statement : Statement (List ℕ)) (insn : Insn) (pc : ℕ) → Reads text Text name os → statement_by Text name os ≡ Ok statement → ((labels : List Label) → resolve labels pc statement ≡ Ok (Instruction insn)) → Rereads text insn pc
goes_to text name os statement insn pc r e f = record {
  one_line = r.one_line;
  unlabelled = r.unlabelled;
  item = Instruction insn;
  takes_word = λ p. refl;
  is_item = λ labels. rw (r.said ∙ e) (f labels);
  same_word = λ ws bs h. h;
}

-- the target at an offset lies that far away
distance_is : (pc : ℕ) (o : ℤ) → pc < 2 ^ 64 → (negsuc 1048575 ≤ℤ o) → (o ≤ℤ pos 1048574) → distance pc (target pc o) ≡ o
distance_is pc (pos n) fits low high =
    let small : n ≤ 1048574 = omega (arith, ints, high) in
    let back : ((pc + n) % 2 ^ 64 + (2 ^ 64 - pc)) % 2 ^ 64 ≡ n = omega arith in
    rw (back, lt-ltb n (2 ^ 63) (omega arith)) refl
distance_is pc (negsuc n) fits low high =
    let small : n ≤ 1048575 = omega (arith, ints, low) in
    let back : ((pc + (2 ^ 64 - suc n)) % 2 ^ 64 + (2 ^ 64 - pc)) % 2 ^ 64 ≡ 2 ^ 64 - suc n = omega arith in
    rw (back, le-ltb (2 ^ 64 - suc n) (2 ^ 63) (omega arith)) (ap negsuc (omega arith))

offset_is : (m n : ℕ) (o : ℤ) → IsOffset (negsuc m) (pos n) o → offset_in (negsuc m) (pos n) o ≡ Ok o
offset_is m n (pos k) h = let le : k ≤ n = omega (arith, ints, h.1) in rw (le-leb k n le, h.2) refl
offset_is m n (negsuc k) h = let le : k ≤ m = omega (arith, ints, h.0) in rw (le-leb k m le, h.2) refl

branch_goes : (condition : BranchCondition) (s t pc : ℕ) (o : ℤ) → pc < 2 ^ 64 → IsOffset (negsuc 4095) (pos 4094) o → (labels : List Label) → resolve labels pc (Branch condition s t (Address (target pc o))) ≡ Ok (Instruction (insns.Branch condition s t o))
unfolding resolve
branch_goes condition s t pc o fits h labels = rw (distance_is pc o fits (omega (arith, ints, h.0)) (omega (arith, ints, h.1)), offset_is 4095 4094 o h) refl

jal_goes : (d pc : ℕ) (o : ℤ) → pc < 2 ^ 64 → IsOffset (negsuc 1048575) (pos 1048574) o → (labels : List Label) → resolve labels pc (Jump d (Address (target pc o))) ≡ Ok (Instruction (insns.Jal d o))
unfolding resolve
jal_goes d pc o fits h labels = rw (distance_is pc o fits h.0 h.1, offset_is 1048575 1048574 o h) refl

target_fits : (pc : ℕ) (o : ℤ) → target pc o < 2 ^ 64
target_fits pc o = omega arith

-- each form with its name
two_places : (name : List ℕ) (d r : ℕ) (z : ℤ) (insn : Insn) (pc : ℕ) (kind : Kind) → IsNamed name kind → d < 32 → r < 32 → IsImmediate z → statement_of Text kind (Two (register_text d) (place z r)) ≡ Ok (Give (Instruction insn)) → Rereads (two name (register_text d) (place z r)) insn pc
two_places name d r z insn pc kind n h i j e = gives_it (two name (register_text d) (place z r)) name (register_text d ∷ place z r ∷ []) insn pc (two_reads Text name (register_text d) (place z r) n.word (plain_reg d h) (plain_place z r j i)) (rw n.names e)

two_hexes : (name : List ℕ) (d n : ℕ) (insn : Insn) (pc : ℕ) (kind : Kind) → IsNamed name kind → d < 32 → n < 1048576 → statement_of Text kind (Two (register_text d) (hex n)) ≡ Ok (Give (Instruction insn)) → Rereads (two name (register_text d) (hex n)) insn pc
two_hexes name d n insn pc kind k h i e = gives_it (two name (register_text d) (hex n)) name (register_text d ∷ hex n ∷ []) insn pc (two_reads Text name (register_text d) (hex n) k.word (plain_reg d h) (plain_hex n (omega (arith, i)))) (rw k.names e)

three_regs : (name : List ℕ) (d s t : ℕ) (insn : Insn) (pc : ℕ) (kind : Kind) → IsNamed name kind → d < 32 → s < 32 → t < 32 → statement_of Text kind (Three (register_text d) (register_text s) (register_text t)) ≡ Ok (Give (Instruction insn)) → Rereads (three name (register_text d) (register_text s) (register_text t)) insn pc
three_regs name d s t insn pc kind n h i j e = gives_it (three name (register_text d) (register_text s) (register_text t)) name (register_text d ∷ register_text s ∷ register_text t ∷ []) insn pc (three_reads Text name (register_text d) (register_text s) (register_text t) n.word (plain_reg d h) (plain_reg s i) (plain_reg t j)) (rw n.names e)

with_number : (name : List ℕ) (d s : ℕ) (z : ℤ) (insn : Insn) (pc : ℕ) (kind : Kind) → IsNamed name kind → d < 32 → s < 32 → IsImmediate z → statement_of Text kind (Three (register_text d) (register_text s) (signed_decimal z)) ≡ Ok (Give (Instruction insn)) → Rereads (three name (register_text d) (register_text s) (signed_decimal z)) insn pc
with_number name d s z insn pc kind n h i j e = gives_it (three name (register_text d) (register_text s) (signed_decimal z)) name (register_text d ∷ register_text s ∷ signed_decimal z ∷ []) insn pc (three_reads Text name (register_text d) (register_text s) (signed_decimal z) n.word (plain_reg d h) (plain_reg s i) (plain_signed z (immediate_small z j))) (rw n.names e)

with_count : (name : List ℕ) (d s a : ℕ) (insn : Insn) (pc : ℕ) (kind : Kind) → IsNamed name kind → d < 32 → s < 32 → a < 64 → statement_of Text kind (Three (register_text d) (register_text s) (decimal a)) ≡ Ok (Give (Instruction insn)) → Rereads (three name (register_text d) (register_text s) (decimal a)) insn pc
with_count name d s a insn pc kind n h i j e = gives_it (three name (register_text d) (register_text s) (decimal a)) name (register_text d ∷ register_text s ∷ decimal a ∷ []) insn pc (three_reads Text name (register_text d) (register_text s) (decimal a) n.word (plain_reg d h) (plain_reg s i) (plain_decimal a (omega (arith, j)))) (rw n.names e)

alone : (name : List ℕ) (insn : Insn) (pc : ℕ) (kind : Kind) → IsNamed name kind → statement_of Text kind Zero ≡ Ok (Give (Instruction insn)) → Rereads name insn pc
alone name insn pc kind n e = gives_it name name [] insn pc (lone_reads Text name n.word) (rw n.names e)

-- `fence`, or a word that spells the FENCE
full_is : (rd rs1 bits : ℕ) → is_full_fence rd rs1 bits ≡ true → (rd ≡ 0) × (rs1 ≡ 0) × (bits ≡ 255)
full_is rd rs1 bits h =
    let g = and_parts (rd == 0 && rs1 == 0) (bits == 255) h in
    let k = and_parts (rd == 0) (rs1 == 0) g.0 in
    (eqb-true rd 0 k.0, eqb-true rs1 0 k.1, eqb-true bits 255 g.1)

full_fence : (pc : ℕ) → Rereads (codes "fence") (insns.Fence 0 0 255) pc
unfolding statement_of text_statement instruction_of fence
full_fence pc = alone (codes "fence") (insns.Fence 0 0 255) pc (kinds.Plain shapes.Fence) (named (codes "fence") (kinds.Plain shapes.Fence) refl refl refl) refl

word_read : (w : ℕ) → w < 2 ^ 32 → number_of_width widths.Word (One (codes "0x" ++ hex_word w)) ≡ Ok w
unfolding number_of_width
word_read w fits = rw (hex_word_read w fits, le-leb w 4294967295 (omega arith)) refl

any_fence : (rd rs1 bits pc : ℕ) → rd < 32 → rs1 < 32 → bits < 4096 → Rereads (codes ".word 0x" ++ hex_word (fence_word rd rs1 bits)) (insns.Fence rd rs1 bits) pc
unfolding statement_of number resolve
any_fence rd rs1 bits pc h i j =
    let w = fence_word rd rs1 bits in
    let fits : w < 2 ^ 32 = fence_fits rd rs1 bits h i j in
    let name = named (codes ".word") (kinds.Number widths.Word) refl refl refl in
    let r = one_reads Text (codes ".word") (codes "0x" ++ hex_word w) name.word (plain_hex_word w) in
    let e : statement_by Text (codes ".word") ((codes "0x" ++ hex_word w) ∷ []) ≡ Ok (Give (Word w)) = rw (word_read w fits) refl in
    record {
      one_line = r.one_line;
      unlabelled = r.unlabelled;
      item = Word w;
      takes_word = λ p. refl;
      is_item = λ labels. rw (r.said ∙ e) refl;
      same_word = λ ws bs p. (w, p.0, fits, fence_spelled rd rs1 bits h i j, p.1);
    }

fence_line : (rd rs1 bits pc : ℕ) → rd < 32 → rs1 < 32 → bits < 4096 → (full : Bool) → is_full_fence rd rs1 bits ≡ full → Rereads (cond full (codes "fence") (codes ".word 0x" ++ hex_word (fence_word rd rs1 bits))) (insns.Fence rd rs1 bits) pc
fence_line rd rs1 bits pc h i j true e = let f = full_is rd rs1 bits e in rw (f.0, f.1, f.2) (full_fence pc)
fence_line rd rs1 bits pc h i j false e = any_fence rd rs1 bits pc h i j

pub rereads : (insn : Insn) (pc : ℕ) → pc < 2 ^ 64 → IsRanged insn → Rereads (shown insn pc) insn pc
unfolding shown statement_of text_statement instruction_of
rereads (insns.Lui rd n) pc fits h = two_hexes (codes "lui") rd n (insns.Lui rd n) pc (kinds.Plain shapes.Lui) (named (codes "lui") (kinds.Plain shapes.Lui) refl refl refl) h.0 h.1 (rw (upper_form rd n h.0 h.1) refl)
rereads (insns.Auipc rd n) pc fits h = two_hexes (codes "auipc") rd n (insns.Auipc rd n) pc (kinds.Plain shapes.Auipc) (named (codes "auipc") (kinds.Plain shapes.Auipc) refl refl refl) h.0 h.1 (rw (upper_form rd n h.0 h.1) refl)
rereads (insns.Jal rd o) pc fits h =
    let name = named (codes "jal") kinds.Jal refl refl refl in
    goes_to (two (codes "jal") (register_text rd) (hex (target pc o))) (codes "jal") (register_text rd ∷ hex (target pc o) ∷ []) (Jump rd (Address (target pc o))) (insns.Jal rd o) pc (two_reads Text (codes "jal") (register_text rd) (hex (target pc o)) name.word (plain_reg rd h.0) (plain_hex (target pc o) (target_fits pc o))) (rw (jal_form rd (target pc o) h.0 (target_fits pc o)) refl) (jal_goes rd pc o fits h.1)
rereads (insns.Jalr rd rs1 z) pc fits h = two_places (codes "jalr") rd rs1 z (insns.Jalr rd rs1 z) pc (kinds.Plain shapes.Jalr) (named (codes "jalr") (kinds.Plain shapes.Jalr) refl refl refl) h.0 h.1 h.2 (rw (place_form rd rs1 z h.0 h.1 h.2) refl)
rereads (insns.Branch c s t o) pc fits h =
    let name = condition_named c in
    goes_to (three (condition_name c) (register_text s) (register_text t) (hex (target pc o))) (condition_name c) (register_text s ∷ register_text t ∷ hex (target pc o) ∷ []) (Branch c s t (Address (target pc o))) (insns.Branch c s t o) pc (three_reads Text (condition_name c) (register_text s) (register_text t) (hex (target pc o)) name.word (plain_reg s h.0) (plain_reg t h.1) (plain_hex (target pc o) (target_fits pc o))) (rw (name.names, branch_form c s t (target pc o) h.0 h.1 (target_fits pc o)) refl) (branch_goes c s t pc o fits h.2)
rereads (insns.Load k d r z) pc fits h = two_places (load_name k) d r z (insns.Load k d r z) pc (kinds.Plain (shapes.Load k)) (load_named k) h.0 h.1 h.2 (rw (place_form d r z h.0 h.1 h.2) refl)
rereads (insns.Store w r s z) pc fits h = two_places (store_name w) s r z (insns.Store w r s z) pc (kinds.Plain (shapes.Store w)) (store_named w) h.1 h.0 h.2 (rw (place_form s r z h.1 h.0 h.2) refl)
rereads (insns.Imm op d s z) pc fits h = with_number (imm_name op) d s z (insns.Imm op d s z) pc (kinds.Plain (shapes.Imm op)) (imm_named op) h.0 h.1 h.2 (rw (immediate_form d s z h.0 h.1 h.2) refl)
rereads (insns.ShiftImm op d s a) pc fits h = with_count (shift_name op) d s a (insns.ShiftImm op d s a) pc (kinds.Plain (shapes.ShiftImm op)) (shift_named op) h.0 h.1 h.2 (rw (amount_form 63 d s a h.0 h.1 (omega (arith, h.2)) h.2) refl)
rereads (insns.Alu op d s t) pc fits h = three_regs (alu_name op) d s t (insns.Alu op d s t) pc (kinds.Plain (shapes.Alu op)) (alu_named op) h.0 h.1 h.2 (rw (three_form d s t h.0 h.1 h.2) refl)
rereads (insns.AddImmWord d s z) pc fits h = with_number (codes "addiw") d s z (insns.AddImmWord d s z) pc (kinds.Plain shapes.AddImmWord) (named (codes "addiw") (kinds.Plain shapes.AddImmWord) refl refl refl) h.0 h.1 h.2 (rw (immediate_form d s z h.0 h.1 h.2) refl)
rereads (insns.ShiftImmWord op d s a) pc fits h = with_count (shift_word_name op) d s a (insns.ShiftImmWord op d s a) pc (kinds.Plain (shapes.ShiftImmWord op)) (shift_word_named op) h.0 h.1 (omega (arith, h.2)) (rw (amount_form 31 d s a h.0 h.1 (omega (arith, h.2)) (omega (arith, h.2))) refl)
rereads (insns.AluWord op d s t) pc fits h = three_regs (word_name op) d s t (insns.AluWord op d s t) pc (kinds.Plain (shapes.AluWord op)) (word_named op) h.0 h.1 h.2 (rw (three_form d s t h.0 h.1 h.2) refl)
rereads (insns.Fence rd rs1 bits) pc fits h = fence_line rd rs1 bits pc h.0 h.1 h.2 (is_full_fence rd rs1 bits) refl
rereads insns.Ecall pc fits h = alone (codes "ecall") insns.Ecall pc (kinds.Plain shapes.Ecall) (named (codes "ecall") (kinds.Plain shapes.Ecall) refl refl refl) refl
rereads insns.Ebreak pc fits h = alone (codes "ebreak") insns.Ebreak pc (kinds.Plain shapes.Ebreak) (named (codes "ebreak") (kinds.Plain shapes.Ebreak) refl refl refl) refl

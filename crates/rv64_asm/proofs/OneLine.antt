-- What `show` writes, assembled by itself.
use Rattle.std.proofs.Common.{◌≡◌, ℕ, ◌<◌, ◌⊎◌, inl, inr, List, [], ◌∷◌, length, Some, None, Result, Ok, Err, refl, sym, ap, ◌∙◌, arith, take_all, below_more}
use Rattle.std.specs.Result.{result_err}
use Rattle.std.proofs.lemmas.Option.{none-some, same_Some, slice_get_within}
use Rattle.rv64_decode.specs.declared.insn.Insn.{Insn}
use Rattle.rv64_asm.specs.declared.fault.LineFault.{LineFault}
use Rattle.rv64_asm.specs.declared.fault.AsmFault.TheVariants.{At}
use Rattle.rv64_asm.specs.declared.place.Place.{Place}
use Rattle.rv64_asm.specs.declared.statement.Item.{Item}
use Rattle.rv64_asm.specs.declared.statement.Item.TheVariants.{Instruction}
use Rattle.rv64_asm.specs.declared.statement.Statement.{Statement}
use Rattle.rv64_asm.specs.declared.statement.Statement.TheVariants.{Enter, Give, Branch, Jump}
use Rattle.rv64_asm.specs.declared.words.Part.TheVariants.{Text}
use Rattle.rv64_asm.specs.Label.{Label}
use Rattle.rv64_asm.specs.Numbers.{◌>>=◌}
use Rattle.rv64_asm.specs.ProgramValue.{ProgramValue}
use Rattle.rv64_asm.specs.Statements.{line_of}
use Rattle.rv64_asm.specs.Places.{after, after_item, behind, further, next_place, start, HasFault, StandBelow, IsLowestFault}
use Rattle.rv64_asm.specs.Written.{resolve, IsPiece, HasTargetFault}
use Rattle.rv64_asm.specs.Assembled.{IsAssembly, IsTargetFault, IsRefusal}
use Rattle.rv64_asm.specs.Shown.{Rereads}
use Rattle.rv64_asm.proofs.Determined.{grows_at}
use Rattle.rv64_asm.proofs.Outcomes.{all_stand, one_target_fault}

-- a statement of one word has room at the start of the text
one_word_on : (labels : List Label) (pc : ℕ) (statement : Statement (List ℕ)) (item : Item) → resolve labels pc statement ≡ Ok item → ((p : Place) → after_item p item ≡ further p 1 0) → (next : Place) × (after start.place statement ≡ Some next)
unfolding resolve
one_word_on labels pc (Enter part) item r f = (record { part = part; words = 0; bytes = 0 }, refl)
one_word_on labels pc (Give given) item r f = let same : given ≡ item = cc in (record { part = Text; words = 1; bytes = 0 }, rw same (f start.place))
one_word_on labels pc (Branch condition rs1 rs2 target) item r f = (record { part = Text; words = 1; bytes = 0 }, refl)
one_word_on labels pc (Jump rd target) item r f = (record { part = Text; words = 1; bytes = 0 }, refl)

module _ (text : List ℕ) (insn : Insn) (r : Rereads text insn 0x10000) where
  stands_first : result_err (next_place start text) ≡ None
  unfolding next_place
  stands_first = by (line_of Text text) refl (r.is_item [])
    where
      by : (s : Result (Statement (List ℕ)) LineFault) → line_of Text text ≡ s → (s >>= resolve [] 0x10000) ≡ Ok r.item → result_err (next_place start text) ≡ None
      by (Err fault) q h = absurd cc
      by (Ok statement) q h = rw (q, r.unlabelled, (one_word_on [] 0x10000 statement r.item h r.takes_word).1) refl

  stand : StandBelow (text ∷ []) (length (text ∷ []))
  stand = below_more (λ k. HasFault (text ∷ []) k None) 0 (λ k below. absurd (omega arith)) (text, refl, stands_first)

  -- its program is the word of the instruction
  pub one_line_gives : (program : ProgramValue) (labels : List Label) → IsAssembly (text ∷ []) program labels → IsPiece (Instruction insn) program.words program.bytes
  one_line_gives program labels a =
      let w = a.is_program.written 0 (omega arith) in
      let line : text ≡ w.line = same_Some text w.line w.is_line in
      let same = sym (r.is_item labels) ∙ ap (λ (x : List ℕ). line_of Text x >>= resolve labels 0x10000) line ∙ w.is_item in
      let item : r.item ≡ w.item = cc in
      let grows = grows_at (text ∷ []) a.stand labels program.words program.bytes 0 (omega arith) w in
      let word_count = a.is_program.word_count ∙ grows.0 in
      let byte_count = a.is_program.byte_count ∙ grows.1 in
      let words : program.words ≡ w.piece_words = sym (take_all (length w.piece_words) program.words (omega (arith, word_count))) ∙ w.words_stand in
      let bytes : program.bytes ≡ w.piece_bytes = sym (take_all (length w.piece_bytes) program.bytes (omega (arith, byte_count))) ∙ w.bytes_stand in
      r.same_word program.words program.bytes (rw (item, words, bytes) w.is_piece)

  -- it has no fault
  pub one_line_stands : (fault : LineFault) (number : ℕ) → IsRefusal (text ∷ []) (At fault number) → ⊥
  one_line_stands fault number h = by h.2
    where
      by : (IsLowestFault (text ∷ []) fault h.0 ⊎ IsTargetFault (text ∷ []) fault h.0) → ⊥
      by (inl f) = all_stand (text ∷ []) fault h.0 f.has_fault stand
      by (inr f) =
          let labels = (behind (text ∷ [])).labels in
          let k : h.0 < 1 = slice_get_within (text ∷ []) h.0 f.has_fault.0 f.has_fault.1 in
          let first : h.0 ≡ 0 = omega arith in
          let none : HasTargetFault (text ∷ []) labels 0 None = (text, refl, ap result_err (r.is_item labels)) in
          none-some fault (one_target_fault (text ∷ []) labels 0 None (Some fault) none (rw first at f.has_fault))

-- The lines of a text and its labels determine the program.
use Rattle.std.proofs.Common.{◌≡◌, ℕ, zero, suc, ◌<◌, ◌≤◌, ◌+◌, List, [], ◌∷◌, ◌++◌, length, take, get_or, Ok, refl, sym, ap, ◌∙◌, arith, take-add, add-one}
use Rattle.std.proofs.lemmas.Option.{get_or_from_slice_get, same_Some}
use Rattle.std.proofs.Math.Seq.{take-length}
use Rattle.rv64_decode.proofs.Laws.{word_spelled}
use Rattle.rv64_asm.specs.declared.statement.Item.{Item}
use Rattle.rv64_asm.specs.declared.statement.Item.TheVariants.{Nothing, Instruction, Word, Number, Zeros}
use Rattle.rv64_asm.specs.ProgramValue.{ProgramValue}
use Rattle.rv64_asm.specs.Label.{Label}
use Rattle.rv64_asm.specs.Statements.{label_of}
use Rattle.rv64_asm.specs.Places.{Layout, behind, next_place, with_label, address, StandBelow}
use Rattle.rv64_asm.specs.Written.{resolve, item_of, IsPiece, StandsAt, IsWritten, WrittenBelow, place_of_line}
use Rattle.rv64_asm.specs.Assembled.{IsProgram}
use Rattle.rv64_asm.proofs.LayoutOfOneMore.{behind_more, stepped}
use Rattle.rv64_asm.proofs.Emitting.{Grows, statement_grows, says, goes}
use Rattle.rv64_asm.proofs.WritingOfOneMore.{ok_of}

-- an item has one piece
one_piece : (item : Item) (words bytes others more : List ℕ) → IsPiece item words bytes → IsPiece item others more → (words ≡ others) × (bytes ≡ more)
one_piece Nothing words bytes others more p q = (p.0 ∙ sym q.0, p.1 ∙ sym q.1)
one_piece (Instruction insn) words bytes others more p q = (p.1 ∙ ap (λ w. w ∷ []) (word_spelled p.0 q.0 insn p.2 q.2 p.3 q.3) ∙ sym q.1, p.4 ∙ sym q.4)
one_piece (Word bits) words bytes others more p q = (p.0 ∙ sym q.0, p.1 ∙ sym q.1)
one_piece (Number width bits) words bytes others more p q = (p.0 ∙ sym q.0, p.1 ∙ sym q.1)
one_piece (Zeros count) words bytes others more p q = (p.0 ∙ sym q.0, p.1 ∙ sym q.1)

-- two lists that agree so far, and have the same piece next
piece_more : (xs ys zs : List ℕ) (n m : ℕ) → m ≡ n + length zs → take n xs ≡ take n ys → StandsAt xs n zs → StandsAt ys n zs → take m xs ≡ take m ys
piece_more xs ys zs n m e h p q =
    let left : take (n + length zs) xs ≡ take n xs ++ zs = take-add n (length zs) xs ∙ ap (λ r. take n xs ++ r) p in
    let right : take (n + length zs) ys ≡ take n ys ++ zs = take-add n (length zs) ys ∙ ap (λ r. take n ys ++ r) q in
    rw e (left ∙ ap (λ r. r ++ zs) h ∙ sym right)

-- two lists of n numbers that agree in the first n
whole : (xs ys : List ℕ) (n : ℕ) → length xs ≡ n → length ys ≡ n → take n xs ≡ take n ys → xs ≡ ys
whole xs ys n e f h =
    let left : take n xs ≡ xs = rw (← e) (take-length xs) in
    let right : take n ys ≡ ys = rw (← f) (take-length ys) in
    sym left ∙ h ∙ right

-- two programs agree up to line k
abbrev Agrees : List (List ℕ) → ℕ → List ℕ → List ℕ → List ℕ → List ℕ → Type 0
Agrees lines k words bytes others more = (take (place_of_line lines k).words words ≡ take (place_of_line lines k).words others) × (take (place_of_line lines k).bytes bytes ≡ take (place_of_line lines k).bytes more)

module _ (lines : List (List ℕ)) (stand : StandBelow lines (length lines)) (labels : List Label) where
  -- the next line goes as far behind a line as its piece is long
  pub grows_at : (words bytes : List ℕ) (k : ℕ) → k < length lines → (w : IsWritten lines labels words bytes k) → Grows (place_of_line lines k) (place_of_line lines (k + 1)) w.piece_words w.piece_bytes
  grows_at words bytes k within w =
      let s : Layout = behind (take k lines) in
      let h = stand k within in
      let same : h.0 ≡ w.line = same_Some h.0 w.line (sym h.1 ∙ w.is_line) in
      let st = ok_of (next_place s w.line) (rw (← same) h.2) in
      let said = says s w.line st.0 st.1 in
      let resolved : resolve labels (address s.place) said.0 ≡ Ok w.item = rw said.1 at w.is_item in
      let went = goes s w.line st.0 said.0 st.1 said.1 in
      let grows = statement_grows labels (address s.place) said.0 w.item s.place st.0 w.piece_words w.piece_bytes resolved went w.is_piece in
      let is : w.line ≡ get_or lines k w.line = sym (get_or_from_slice_get lines k w.line w.line w.is_line) in
      let next : place_of_line lines (k + 1) ≡ st.0 = ap (λ (t : Layout). t.place) (behind_more lines k w.line within is s (record { place = st.0; labels = with_label s.labels (address s.place) (label_of w.line) }) refl (stepped s w.line st.0 _ st.1 refl)) in
      rw next grows

  agree_on : (words bytes others more : List ℕ) (k : ℕ) → k < length lines → IsWritten lines labels words bytes k → IsWritten lines labels others more k → Agrees lines k words bytes others more → Agrees lines (k + 1) words bytes others more
  agree_on words bytes others more k within w v h =
      let line : w.line ≡ v.line = same_Some w.line v.line (sym w.is_line ∙ v.is_line) in
      let same = sym w.is_item ∙ ap (item_of (place_of_line lines k) labels) line ∙ v.is_item in
      let item : w.item ≡ v.item = cc in
      let pieces = one_piece v.item w.piece_words w.piece_bytes v.piece_words v.piece_bytes (rw (← item) w.is_piece) v.is_piece in
      let grows = grows_at words bytes k within w in (
        piece_more words others w.piece_words (place_of_line lines k).words (place_of_line lines (k + 1)).words grows.0 h.0 w.words_stand (rw pieces.0 v.words_stand),
        piece_more bytes more w.piece_bytes (place_of_line lines k).bytes (place_of_line lines (k + 1)).bytes grows.1 h.1 w.bytes_stand (rw pieces.1 v.bytes_stand),
      )

  all_agree : (words bytes others more : List ℕ) → WrittenBelow lines labels words bytes (length lines) → WrittenBelow lines labels others more (length lines) → (k : ℕ) → k ≤ length lines → Agrees lines k words bytes others more
  all_agree words bytes others more w v zero le = (refl, refl)
  all_agree words bytes others more w v (suc k) le =
      rw add-one at (agree_on words bytes others more k (omega arith) (w k (omega arith)) (v k (omega arith)) (all_agree words bytes others more w v k (omega arith)))

  pub one_program : (p q : ProgramValue) → IsProgram lines labels p → IsProgram lines labels q → p ≡ q
  one_program p q a b =
      let h = all_agree p.words p.bytes q.words q.bytes a.written b.written (length lines) (omega arith) in
      let all : place_of_line lines (length lines) ≡ (behind lines).place = ap (λ (x : List (List ℕ)). (behind x).place) (take-length lines) in
      let words : p.words ≡ q.words = whole p.words q.words (behind lines).place.words a.word_count b.word_count (rw all at h.0) in
      let bytes : p.bytes ≡ q.bytes = whole p.bytes q.bytes (behind lines).place.bytes a.byte_count b.byte_count (rw all at h.1) in
      λ i. record { words = words i; bytes = bytes i }

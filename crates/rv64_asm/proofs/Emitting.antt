-- The second pass, one line on.
use Rattle.std.proofs.Common.{◌≡◌, ℕ, ◌≤◌, ◌+◌, ◌-◌, ◌||◌, Bool, true, false, cond, List, [], ◌∷◌, ◌++◌, length, take, drop, Option, Some, None, Result, Ok, Err, refl, ap, ◌∙◌, arith, ltb, ℤ, pos, negsuc}
use Rattle.std.specs.Result.{result_err}
use Rattle.std.specs.Option.{ok_or}
use Rattle.std.specs.Int.{to_le_bytes, w64}
use Rattle.std.proofs.lemmas.List.{drop-append-le, take-append-le, length-take, length-drop, length-replicate}
use Rattle.std.proofs.Math.Seq.{drop-append_seam, take-length}
use Rattle.rv64_decode.specs.declared.insn.Insn.{Insn}
use Rattle.rv64_decode.specs.declared.insn.Insn.TheVariants as insns
use Rattle.rv64_decode.specs.declared.insn.StoreWidth.{StoreWidth}
use Rattle.rv64_decode.specs.declared.insn.StoreWidth.TheVariants as widths
use Rattle.rv64_asm.specs.declared.fault.LineFault.{LineFault}
use Rattle.rv64_asm.specs.declared.fault.LineFault.TheVariants.{TooManyPages, LabelTwice}
use Rattle.rv64_asm.specs.declared.place.Place.{Place}
use Rattle.rv64_asm.specs.declared.statement.Item.{Item}
use Rattle.rv64_asm.specs.declared.statement.Item.TheVariants.{Nothing, Instruction, Word, Number, Zeros}
use Rattle.rv64_asm.specs.declared.statement.Statement.{Statement}
use Rattle.rv64_asm.specs.declared.statement.Statement.TheVariants.{Enter, Give, Branch, Jump}
use Rattle.rv64_asm.specs.Label.{Label}
use Rattle.rv64_asm.specs.Numbers.{◌>>=◌}
use Rattle.rv64_asm.specs.Statements.{line_of, label_of}
use Rattle.rv64_asm.specs.Places.{Layout, next_place, address, after, after_item, further, bytes_in, is_twice}
use Rattle.rv64_asm.specs.Written.{resolve, offset_to, item_of, IsPiece, StandsAt, IsWritten, place_of_line}
use Rattle.rv64_asm.specs.Passes.{emit}

-- what stands keeps standing where more is put behind
pub stands_on : (xs : List ℕ) (i : ℕ) (ys zs : List ℕ) → StandsAt xs i ys → StandsAt (xs ++ zs) i ys
stands_on xs i [] zs h = refl
stands_on xs i (y ∷ ys) zs h =
    let n : length (take (length (y ∷ ys)) (drop i xs)) ≡ length (y ∷ ys) = ap length h in
    let room : length (y ∷ ys) ≤ length xs - i = omega (arith, n, length-take (length (y ∷ ys)) (drop i xs), length-drop i xs) in
    let low : i ≤ length xs = omega (arith, room) in
    let within : length (y ∷ ys) ≤ length (drop i xs) = omega (arith, room, length-drop i xs) in
    rw (drop-append-le i xs zs low, take-append-le (length (y ∷ ys)) (drop i xs) zs within) h

pub stands_new : (xs ys : List ℕ) (i : ℕ) → length xs ≡ i → StandsAt (xs ++ ys) i ys
stands_new xs ys i e = rw (← e, drop-append_seam xs ys) (take-length ys)

pub written_on : (lines : List (List ℕ)) (labels : List Label) (words bytes more_words more_bytes : List ℕ) (k : ℕ) → IsWritten lines labels words bytes k → IsWritten lines labels (words ++ more_words) (bytes ++ more_bytes) k
written_on lines labels words bytes more_words more_bytes k w = record {
  line = w.line;
  is_line = w.is_line;
  item = w.item;
  is_item = w.is_item;
  piece_words = w.piece_words;
  piece_bytes = w.piece_bytes;
  is_piece = w.is_piece;
  words_stand = stands_on words (place_of_line lines k).words w.piece_words more_words w.words_stand;
  bytes_stand = stands_on bytes (place_of_line lines k).bytes w.piece_bytes more_bytes w.bytes_stand;
}

-- what comes further does so by that much
pub moved : (p q : Place) (words bytes : ℕ) → further p words bytes ≡ Some q → (q.words ≡ p.words + words) × (q.bytes ≡ p.bytes + bytes)
moved p q words bytes e = by (ltb 65536 (p.words + words) || ltb 1048576 (p.bytes + bytes)) e
  where
    by : (over : Bool) → cond over None (Some (record { part = p.part; words = p.words + words; bytes = p.bytes + bytes })) ≡ Some q → (q.words ≡ p.words + words) × (q.bytes ≡ p.bytes + bytes)
    by true e = absurd cc
    by false e = let f : q ≡ record { part = p.part; words = p.words + words; bytes = p.bytes + bytes } = cc in (ap (λ (r : Place). r.words) f, ap (λ (r : Place). r.bytes) f)

stayed : (p q : Place) → Some p ≡ Some q → (q.words ≡ p.words + 0) × (q.bytes ≡ p.bytes + 0)
stayed p q e = let f : q ≡ p = cc in (omega (arith, ap (λ (r : Place). r.words) f), omega (arith, ap (λ (r : Place). r.bytes) f))

-- a place moves on by what an item has
abbrev pub Grows : Place → Place → List ℕ → List ℕ → Type 0
Grows p q words bytes = (q.words ≡ p.words + length words) × (q.bytes ≡ p.bytes + length bytes)

grown : (p q : Place) (m n : ℕ) (words bytes : List ℕ) → (q.words ≡ p.words + m) × (q.bytes ≡ p.bytes + n) → length words ≡ m → length bytes ≡ n → Grows p q words bytes
grown p q m n words bytes h e f = (omega (arith, h.0, e), omega (arith, h.1, f))

number_length : (width : StoreWidth) (n : ℕ) → length (take (bytes_in width) (to_le_bytes w64 n)) ≡ bytes_in width
number_length widths.Byte n = refl
number_length widths.Half n = refl
number_length widths.Word n = refl
number_length widths.Double n = refl

item_grows : (p q : Place) (item : Item) (words bytes : List ℕ) → after_item p item ≡ Some q → IsPiece item words bytes → Grows p q words bytes
item_grows p q Nothing words bytes e h = grown p q 0 0 words bytes (stayed p q e) (ap length h.0) (ap length h.1)
item_grows p q (Instruction insn) words bytes e h = grown p q 1 0 words bytes (moved p q 1 0 e) (ap length h.1) (ap length h.4)
item_grows p q (Word bits) words bytes e h = grown p q 1 0 words bytes (moved p q 1 0 e) (ap length h.0) (ap length h.1)
item_grows p q (Number width bits) words bytes e h = grown p q 0 (bytes_in width) words bytes (moved p q 0 (bytes_in width) e) (ap length h.0) (ap length h.1 ∙ number_length width bits)
item_grows p q (Zeros count) words bytes e h = grown p q 0 count words bytes (moved p q 0 count e) (ap length h.0) (ap length h.1 ∙ length-replicate count 0)

-- a target that is found gives an instruction
an_insn : (offset : Result ℤ LineFault) (insn : ℤ → Insn) (item : Item) → (offset >>= λ z. Ok (Instruction (insn z))) ≡ Ok item → (i : Insn) × (item ≡ Instruction i)
an_insn (Err e) insn item h = absurd cc
an_insn (Ok z) insn item h = (insn z, cc)

insn_grows : (p q : Place) (item : Item) (insn : Insn) (words bytes : List ℕ) → item ≡ Instruction insn → further p 1 0 ≡ Some q → IsPiece item words bytes → Grows p q words bytes
insn_grows p q item insn words bytes i e h = item_grows p q (Instruction insn) words bytes e (rw i at h)

-- the place behind a statement is as far on as its item is long
pub statement_grows : (labels : List Label) (pc : ℕ) (statement : Statement (List ℕ)) (item : Item) (p q : Place) (words bytes : List ℕ) → resolve labels pc statement ≡ Ok item → after p statement ≡ Some q → IsPiece item words bytes → Grows p q words bytes
unfolding resolve
statement_grows labels pc (Enter part) item p q words bytes r e h = let f : item ≡ Nothing = cc in item_grows (record p { part = part }) q Nothing words bytes e (rw f at h)
statement_grows labels pc (Give given) item p q words bytes r e h = let f : given ≡ item = cc in item_grows p q item words bytes (rw f at e) h
statement_grows labels pc (Branch condition rs1 rs2 target) item p q words bytes r e h =
    let i = an_insn (offset_to labels pc (negsuc 4095) (pos 4094) target) (λ o. insns.Branch condition rs1 rs2 o) item r in
    insn_grows p q item i.0 words bytes i.1 e h
statement_grows labels pc (Jump rd target) item p q words bytes r e h =
    let i = an_insn (offset_to labels pc (negsuc 1048575) (pos 1048574) target) (λ o. insns.Jal rd o) item r in
    insn_grows p q item i.0 words bytes i.1 e h

-- what a line gave, in its parts
pub record Emitted (place : Place) (labels : List Label) (line : List ℕ) (next : Place) (item : Item) : Type 0 where
  pub statement : Statement (List ℕ)
  pub said : line_of place.part line ≡ Ok statement
  pub resolved : resolve labels (address place) statement ≡ Ok item
  pub went : after place statement ≡ Some next

abbrev paired : Item → Place → Result (Place × Item) LineFault
paired i n = Ok (n, i)

abbrev finish : Option Place → Item → Result (Place × Item) LineFault
finish o i = ok_or o TooManyPages >>= paired i

pub emitted : (place : Place) (labels : List Label) (line : List ℕ) (next : Place) (item : Item) → emit place labels line ≡ Ok (next, item) → Emitted place labels line next item
unfolding emit
emitted place labels line next item e = by (line_of place.part line) refl e
  where
    by : (r : Result (Statement (List ℕ)) LineFault) → line_of place.part line ≡ r
        → (r >>= λ statement. (resolve labels (address place) statement >>= finish (after place statement))) ≡ Ok (next, item) → Emitted place labels line next item
    by (Err f) q h = absurd cc
    by (Ok statement) q h = on (resolve labels (address place) statement) refl (after place statement) refl h
      where
        on : (i : Result Item LineFault) → resolve labels (address place) statement ≡ i → (o : Option Place) → after place statement ≡ o
            → (i >>= finish o) ≡ Ok (next, item) → Emitted place labels line next item
        on (Err f) a o b g = absurd cc
        on (Ok i) a None b g = absurd cc
        on (Ok i) a (Some n) b g =
            let pair : (n, i) ≡ (next, item) = cc in
            record {
              statement = statement;
              said = q;
              resolved = a ∙ ap (λ (x : Place × Item). Ok x.1) pair;
              went = b ∙ ap (λ (x : Place × Item). Some x.0) pair;
            }

-- a line that stands goes where the first pass found
pub goes : (s : Layout) (line : List ℕ) (next : Place) (statement : Statement (List ℕ)) → next_place s line ≡ Ok next → line_of s.place.part line ≡ Ok statement → after s.place statement ≡ Some next
unfolding next_place
goes s line next statement e said = by (is_twice s.labels (label_of line)) (after s.place statement) refl (rw said at e)
  where
    by : (twice : Bool) (o : Option Place) → after s.place statement ≡ o → cond twice (Err LabelTwice) (ok_or o TooManyPages) ≡ Ok next → after s.place statement ≡ Some next
    by true o q h = absurd cc
    by false None q h = absurd cc
    by false (Some n) q h = let f : n ≡ next = cc in q ∙ ap Some f

-- a line that stands says something
pub says : (s : Layout) (line : List ℕ) (next : Place) → next_place s line ≡ Ok next → (statement : Statement (List ℕ)) × (line_of s.place.part line ≡ Ok statement)
unfolding next_place
says s line next e = by (line_of s.place.part line) refl
  where
    by : (r : Result (Statement (List ℕ)) LineFault) → line_of s.place.part line ≡ r → (statement : Statement (List ℕ)) × (line_of s.place.part line ≡ Ok statement)
    by (Err f) q = absurd (let h : Err f ≡ Ok next = rw q at e in cc)
    by (Ok statement) q = (statement, q)

-- where a line stands, what is wrong with it in the second pass is its target
pub target_fault : (s : Layout) (labels : List Label) (line : List ℕ) (next : Place) (fault : LineFault) → next_place s line ≡ Ok next → emit s.place labels line ≡ Err fault → result_err (item_of s.place labels line) ≡ Some fault
unfolding emit
target_fault s labels line next fault e h =
    let st = says s line next e in
    let went = goes s line next st.0 e st.1 in
    by st.0 st.1 (resolve labels (address s.place) st.0) refl (rw (st.1, went) at h)
  where
    by : (statement : Statement (List ℕ)) → line_of s.place.part line ≡ Ok statement → (i : Result Item LineFault) → resolve labels (address s.place) statement ≡ i
        → (i >>= finish (Some next)) ≡ Err fault → result_err (item_of s.place labels line) ≡ Some fault
    by statement said (Err f) q g = let k : f ≡ fault = cc in rw (said, q) (ap Some k)
    by statement said (Ok i) q g = absurd cc

pub item_is : (place : Place) (labels : List Label) (line : List ℕ) (next : Place) (item : Item) → Emitted place labels line next item → item_of place labels line ≡ Ok item
item_is place labels line next item w = rw w.said w.resolved

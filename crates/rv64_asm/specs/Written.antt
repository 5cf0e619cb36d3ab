-- What the lines of a text give once the labels are known.
use Rattle.std.specs.Prelude.{◌≡◌, ℕ, ℤ, pos, negsuc, ◌+◌, ◌-◌, ◌%◌, ◌^◌, ◌<◌, ◌==◌, ◌&&◌, List, [], ◌∷◌, length, take, drop, replicate, int_le, unsigned_abs, if◌then◌else◌, Option, Some, Result, Ok, Err, slice_get}
use Rattle.std.specs.Int.{cast_signed, to_le_bytes, w64}
use Rattle.std.specs.Option.{ok_or}
use Rattle.std.specs.Result.{result_err}
use Rattle.rv64_decode.specs.declared.insn.Insn.TheVariants as insns
use Rattle.rv64_decode.specs.Spelling.{Spells}
use Rattle.rv64_asm.specs.declared.fault.LineFault.{LineFault}
use Rattle.rv64_asm.specs.declared.fault.LineFault.TheVariants.{UnknownLabel, OffsetOutOfRange}
use Rattle.rv64_asm.specs.declared.place.Place.{Place}
use Rattle.rv64_asm.specs.declared.statement.Target.{Target}
use Rattle.rv64_asm.specs.declared.statement.Target.TheVariants as targets
use Rattle.rv64_asm.specs.declared.statement.Item.{Item}
use Rattle.rv64_asm.specs.declared.statement.Item.TheVariants.{Nothing, Instruction, Word, Number, Zeros}
use Rattle.rv64_asm.specs.declared.statement.Statement.{Statement}
use Rattle.rv64_asm.specs.declared.statement.Statement.TheVariants.{Enter, Give, Branch, Jump}
use Rattle.rv64_asm.specs.Label.{Label, address_of}
use Rattle.rv64_asm.specs.Numbers.{◌>>=◌}
use Rattle.rv64_asm.specs.Statements.{line_of}
use Rattle.rv64_asm.specs.Places.{address, bytes_in, behind}

-- how far a target lies from pc, as 64 bits with a sign
abbrev pub distance : ℕ → ℕ → ℤ
distance pc target = cast_signed w64 ((target + (2 ^ 64 - pc)) % 2 ^ 64)

-- an offset that is even and in range
abbrev pub offset_in : ℤ → ℤ → ℤ → Result ℤ LineFault
offset_in low high offset = if int_le low offset && int_le offset high && unsigned_abs offset % 2 == 0 then Ok offset else Err OffsetOutOfRange

-- the address of a target
abbrev pub target_address : List Label → Target (List ℕ) → Result ℕ LineFault
target_address labels (targets.Label name) = ok_or (address_of labels name) UnknownLabel
target_address labels (targets.Address address) = Ok address

-- the offset of a target from pc, even and in range
abbrev pub offset_to : List Label → ℕ → ℤ → ℤ → Target (List ℕ) → Result ℤ LineFault
offset_to labels pc low high target = target_address labels target >>= λ address. offset_in low high (distance pc address)

-- what a statement gives at pc, labels replaced by their addresses: a branch reaches 4 KiB and a jump 1 MiB either way
-- (section 2.5)
unfoldable pub resolve : List Label → ℕ → Statement (List ℕ) → Result Item LineFault
resolve labels pc (Enter part) = Ok Nothing
resolve labels pc (Give item) = Ok item
resolve labels pc (Branch condition rs1 rs2 target) = do
  offset ← offset_to labels pc (negsuc 4095) (pos 4094) target
  Ok (Instruction (insns.Branch condition rs1 rs2 offset))
resolve labels pc (Jump rd target) = do
  offset ← offset_to labels pc (negsuc 1048575) (pos 1048574) target
  Ok (Instruction (insns.Jal rd offset))

-- what a line gives at its place
abbrev pub item_of : Place → List Label → List ℕ → Result Item LineFault
item_of place labels line = line_of place.part line >>= resolve labels (address place)

-- the words and the bytes of an item: of an instruction its one word of 32 bits
abbrev pub IsPiece : Item → List ℕ → List ℕ → Type 0
IsPiece Nothing words bytes = (words ≡ []) × (bytes ≡ [])
IsPiece (Instruction insn) words bytes = (word : ℕ) × (words ≡ word ∷ []) × (word < 2 ^ 32) × Spells word insn × (bytes ≡ [])
IsPiece (Word bits) words bytes = (words ≡ bits ∷ []) × (bytes ≡ [])
IsPiece (Number width bits) words bytes = (words ≡ []) × (bytes ≡ take (bytes_in width) (to_le_bytes w64 bits))
IsPiece (Zeros count) words bytes = (words ≡ []) × (bytes ≡ replicate count 0)

-- ys stands in xs from place i on
abbrev pub StandsAt : List ℕ → ℕ → List ℕ → Type 0
StandsAt xs i ys = take (length ys) (drop i xs) ≡ ys

-- where line k, counted from 0, goes
abbrev pub place_of_line : List (List ℕ) → ℕ → Place
place_of_line lines k = (behind (take k lines)).place

-- what line k gives stands in the program at the line's place
pub record IsWritten (lines : List (List ℕ)) (labels : List Label) (words bytes : List ℕ) (k : ℕ) : Type 0 where
  pub line : List ℕ
  pub is_line : slice_get lines k ≡ Some line
  pub item : Item
  pub is_item : item_of (place_of_line lines k) labels line ≡ Ok item
  pub piece_words : List ℕ
  pub piece_bytes : List ℕ
  pub is_piece : IsPiece item piece_words piece_bytes
  pub words_stand : StandsAt words (place_of_line lines k).words piece_words
  pub bytes_stand : StandsAt bytes (place_of_line lines k).bytes piece_bytes

-- every line below n is written
abbrev pub WrittenBelow : List (List ℕ) → List Label → List ℕ → List ℕ → ℕ → Type 0
WrittenBelow lines labels words bytes n = (k : ℕ) → k < n → IsWritten lines labels words bytes k

-- line k has this fault of its target, or none
abbrev pub HasTargetFault : List (List ℕ) → List Label → ℕ → Option LineFault → Type 0
HasTargetFault lines labels k fault = (line : List ℕ) × (slice_get lines k ≡ Some line) × (result_err (item_of (place_of_line lines k) labels line) ≡ fault)

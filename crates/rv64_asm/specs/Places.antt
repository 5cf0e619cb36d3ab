-- Where the lines of a text go.
use Rattle.std.specs.Prelude.{◌≡◌, ℕ, ◌+◌, ◌*◌, ◌<◌, ◌≤◌, ◌||◌, Bool, false, List, [], ◌∷◌, ◌++◌, take, fold, nat_lt, if◌then◌else◌, Option, Some, None, is_some, Result, Ok, Err, slice_get}
use Rattle.std.specs.Option.{ok_or}
use Rattle.std.specs.Result.{result_unwrap_or, result_err}
use Rattle.paged_memory.specs.Regions.{text_start, data_start, most_words, most_bytes}
use Rattle.rv64_decode.specs.declared.insn.StoreWidth.{StoreWidth}
use Rattle.rv64_decode.specs.declared.insn.StoreWidth.TheVariants as widths
use Rattle.rv64_asm.specs.declared.fault.LineFault.{LineFault}
use Rattle.rv64_asm.specs.declared.fault.LineFault.TheVariants.{LabelTwice, TooManyPages}
use Rattle.rv64_asm.specs.declared.place.Place.{Place}
use Rattle.rv64_asm.specs.declared.statement.Item.{Item}
use Rattle.rv64_asm.specs.declared.statement.Item.TheVariants.{Nothing, Instruction, Word, Number, Zeros}
use Rattle.rv64_asm.specs.declared.statement.Statement.{Statement}
use Rattle.rv64_asm.specs.declared.statement.Statement.TheVariants.{Enter, Give, Branch, Jump}
use Rattle.rv64_asm.specs.declared.words.Part.{Part}
use Rattle.rv64_asm.specs.declared.words.Part.TheVariants.{Text, Data}
use Rattle.rv64_asm.specs.Label.{Label, address_of}
use Rattle.rv64_asm.specs.Numbers.{◌>>=◌}
use Rattle.rv64_asm.specs.Statements.{body_of, split_line, label_of}

-- the address behind so many words of text, or behind so many bytes of data
abbrev pub address_in : Part → ℕ → ℕ → ℕ
address_in Text words bytes = text_start + 4 * words
address_in Data words bytes = data_start + bytes

-- the address of what follows
abbrev pub address : Place → ℕ
address p = address_in p.part p.words p.bytes

-- within 64 pages of text and 256 of data
abbrev pub IsWithinPages : Place → Type 0
IsWithinPages p = (p.words ≤ most_words) × (p.bytes ≤ most_bytes)

-- so many words and bytes more, unless they go over
abbrev pub further : Place → ℕ → ℕ → Option Place
further p words bytes = if nat_lt most_words (p.words + words) || nat_lt most_bytes (p.bytes + bytes) then None else Some (record { part = p.part; words = p.words + words; bytes = p.bytes + bytes })

-- how many bytes a number of this width takes
abbrev pub bytes_in : StoreWidth → ℕ
bytes_in widths.Byte = 1
bytes_in widths.Half = 2
bytes_in widths.Word = 4
bytes_in widths.Double = 8

-- the place behind what a line gives
abbrev pub after_item : Place → Item → Option Place
after_item p Nothing = Some p
after_item p (Instruction insn) = further p 1 0
after_item p (Word bits) = further p 1 0
after_item p (Number width bits) = further p 0 (bytes_in width)
after_item p (Zeros count) = further p 0 count

-- the place behind a statement
abbrev pub after : {N : Type 0} → Place → Statement N → Option Place
after p (Enter part) = Some (record p { part = part })
after p (Give item) = after_item p item
after p (Branch condition rs1 rs2 target) = further p 1 0
after p (Jump rd target) = further p 1 0

-- where the next line goes, and the labels so far in order of line
pub record Layout : Type 0 where
  pub place : Place
  pub labels : List Label

-- a line before has the label
abbrev pub is_twice : List Label → Option (List ℕ) → Bool
is_twice labels None = false
is_twice labels (Some name) = is_some (address_of labels name)

-- the place behind a line of this label and this behind the label, or the first fault that the line has by itself and by
-- those before it
abbrev pub place_after : Layout → Option (List ℕ) → List ℕ → Result Place LineFault
place_after s label body = do
  statement ← body_of s.place.part body
  if is_twice s.labels label then Err LabelTwice else ok_or (after s.place statement) TooManyPages

-- the same of a whole line
unfoldable pub next_place : Layout → List ℕ → Result Place LineFault
next_place s line = place_after s (label_of line) (split_line line).1

-- the labels, and behind them the line's own, where it has one
abbrev pub with_label : List Label → ℕ → Option (List ℕ) → List Label
with_label labels address None = labels
with_label labels address (Some name) = labels ++ (name, address) ∷ []

-- one line more
abbrev pub step : Layout → List ℕ → Result Layout LineFault
step s line = next_place s line >>= λ place. Ok (record { place = place; labels = with_label s.labels (address s.place) (label_of line) })

-- a text starts in the text part
abbrev pub start : Layout
start = record { place = record { part = Text; words = 0; bytes = 0 }; labels = [] }

-- behind these lines; a line with a fault moves nothing
abbrev pub behind : List (List ℕ) → Layout
behind lines = fold (λ s line. result_unwrap_or (step s line) s) start lines

-- line k, counted from 0, has this fault by itself and by the lines before it, or none
abbrev pub HasFault : List (List ℕ) → ℕ → Option LineFault → Type 0
HasFault lines k fault = (line : List ℕ) × (slice_get lines k ≡ Some line) × (result_err (next_place (behind (take k lines)) line) ≡ fault)

-- no line below n has such a fault
abbrev pub StandBelow : List (List ℕ) → ℕ → Type 0
StandBelow lines n = (k : ℕ) → k < n → HasFault lines k None

-- line k is the lowest with such a fault
pub record IsLowestFault (lines : List (List ℕ)) (fault : LineFault) (k : ℕ) : Type 0 where
  pub stand : StandBelow lines k
  pub has_fault : HasFault lines k (Some fault)

-- The lines of checkpoint text version 1. Each ends with a line feed.
use Rattle.std.specs.Prelude.{◌≡◌, ℕ, List, [], ◌∷◌, ◌++◌, length, codes}
use Rattle.std.specs.Fmt.{decimal}
use Rattle.std.specs.Int.{to_be_bytes, w64}
use Rattle.hex.specs.Hex.{IsBytes, encode_lower}
use Rattle.paged_memory.specs.Pages.{PageValue}

-- so many bytes
pub record AreBytes (n : ℕ) (text : List ℕ) : Type 0 where
  pub count : length text ≡ n
  pub bytes : IsBytes text

-- sixteen lower-case hexadecimal digits, the highest first
abbrev pub word_text : ℕ → List ℕ
word_text n = encode_lower (to_be_bytes w64 n)

-- the version
abbrev pub version_line : List ℕ
version_line = codes "smt-lab checkpoint 1\n"

-- a label and the digits of a digest
abbrev pub digest_line : List ℕ → List ℕ → List ℕ
digest_line label digest = label ++ (encode_lower digest ++ (10 ∷ []))

-- the origin's digest
abbrev pub origin_line : List ℕ → List ℕ
origin_line digest = digest_line (codes "origin ") digest

-- the number of a context
abbrev pub context_line : ℕ → List ℕ
context_line n = codes "context " ++ (decimal n ++ (10 ∷ []))

-- its count
abbrev pub count_line : ℕ → List ℕ
count_line n = codes "count " ++ (decimal n ++ (10 ∷ []))

-- a label and sixteen digits
abbrev pub word_line : List ℕ → ℕ → List ℕ
word_line label n = label ++ (word_text n ++ (10 ∷ []))

-- a register
abbrev pub register_line : ℕ → ℕ → List ℕ
register_line number value = codes "x" ++ (decimal number ++ word_line (codes " ") value)

-- a page: its address and the digits of its bytes
abbrev pub page_line : PageValue → List ℕ
page_line page = codes "page " ++ (word_text page.address ++ (32 ∷ (encode_lower page.bytes ++ (10 ∷ []))))

-- the seal
abbrev pub seal_line : List ℕ → List ℕ
seal_line digest = digest_line (codes "seal ") digest

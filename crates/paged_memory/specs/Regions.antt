-- Where the text and the data of a program begin, and how much of each there may be.
use Rattle.std.specs.Prelude.{ℕ, ◌*◌}

-- the address of the first text page
abbrev pub text_start : ℕ
text_start = 0x10000

-- the address of the first data page
abbrev pub data_start : ℕ
data_start = 0x100000

-- the words of 64 pages of text
abbrev pub most_words : ℕ
most_words = 64 * 1024

-- the bytes of 256 pages of data
abbrev pub most_bytes : ℕ
most_bytes = 256 * 4096

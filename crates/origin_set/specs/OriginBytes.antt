-- The bytes that an origin's digest is taken of. Numbers stand least byte first.
use Rattle.std.specs.Prelude.{ℕ, Option, Some, None, List, [], ◌∷◌, ◌++◌, length}
use Rattle.std.specs.Int.{to_le_bytes, w32, w64}
use Rattle.hart_step.specs.State.{environment_number}
use Rattle.origin_set.specs.OriginValue.{OriginValue}
use Rattle.rv64_asm.specs.ProgramValue.{ProgramValue}

-- four bytes a word
abbrev pub words_bytes : List ℕ → List ℕ
words_bytes [] = []
words_bytes (word ∷ words) = to_le_bytes w32 word ++ words_bytes words

-- 0 without a program, else 1, the number of words in 8 bytes, the words, the number of bytes in 8 bytes, the bytes
abbrev pub program_bytes : Option ProgramValue → List ℕ
program_bytes None = 0 ∷ []
program_bytes (Some program) =
    1 ∷ (to_le_bytes w64 (length program.words) ++ (words_bytes program.words ++ (to_le_bytes w64 (length program.bytes) ++ program.bytes)))

-- the environment's number in one byte, then each context's program
abbrev pub origin_bytes : OriginValue → List ℕ
origin_bytes origin =
    environment_number origin.environment
    ∷ (program_bytes origin.programs.c0
    ++ (program_bytes origin.programs.c1
    ++ (program_bytes origin.programs.c2
    ++ (program_bytes origin.programs.c3
    ++ (program_bytes origin.programs.c4
    ++ (program_bytes origin.programs.c5
    ++ (program_bytes origin.programs.c6 ++ program_bytes origin.programs.c7)))))))

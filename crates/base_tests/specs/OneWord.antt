-- Words that are the one word of an instruction.
use Rattle.std.specs.Prelude.{◌≡◌, ℕ, ◌<◌, ◌^◌, List, [], ◌∷◌}
use Rattle.rv64_decode.specs.declared.insn.Insn.{Insn}
use Rattle.rv64_decode.specs.Spelling.{Spells}

-- one word of 32 bits, which spells the instruction
abbrev pub IsOneWord : Insn → List ℕ → Type 0
IsOneWord insn words = (word : ℕ) × (words ≡ word ∷ []) × (word < 2 ^ 32) × Spells word insn

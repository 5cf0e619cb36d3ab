-- What each kind of item puts behind the words and bytes that are there.
use Rattle.std.proofs.Common.{◌≡◌, ℕ, ◌<◌, ◌^◌, List, [], ◌∷◌, ◌++◌, take, replicate, refl, sym, append-nil}
use Rattle.std.specs.Int.{to_le_bytes, w64}
use Rattle.rv64_decode.specs.declared.insn.Insn.{Insn}
use Rattle.rv64_decode.specs.declared.insn.StoreWidth.{StoreWidth}
use Rattle.rv64_decode.specs.Spelling.{Spells}
use Rattle.rv64_asm.specs.declared.statement.Item.{Item}
use Rattle.rv64_asm.specs.declared.statement.Item.TheVariants.{Nothing, Instruction, Word, Number, Zeros}
use Rattle.rv64_asm.specs.Places.{bytes_in}
use Rattle.rv64_asm.specs.Passes.{Appends}

module _ (item : Item) (words new_words bytes new_bytes : List ℕ) where
  pub nothing : item ≡ Nothing → Appends item words words bytes bytes
  nothing e = rw e (record {
    piece_words = [];
    piece_bytes = [];
    is_piece = (refl, refl);
    words_grow = sym (append-nil words);
    bytes_grow = sym (append-nil bytes);
  })

  pub an_instruction : (insn : Insn) (word : ℕ) → item ≡ Instruction insn → word < 2 ^ 32 → Spells word insn → new_words ≡ words ++ word ∷ [] → Appends item words new_words bytes bytes
  an_instruction insn word e fits spells grow = rw e (record {
    piece_words = word ∷ [];
    piece_bytes = [];
    is_piece = (word, refl, fits, spells, refl);
    words_grow = grow;
    bytes_grow = sym (append-nil bytes);
  })

  pub a_word : (bits : ℕ) → item ≡ Word bits → new_words ≡ words ++ bits ∷ [] → Appends item words new_words bytes bytes
  a_word bits e grow = rw e (record {
    piece_words = bits ∷ [];
    piece_bytes = [];
    is_piece = (refl, refl);
    words_grow = grow;
    bytes_grow = sym (append-nil bytes);
  })

  pub a_number : (width : StoreWidth) (bits : ℕ) → item ≡ Number width bits → new_bytes ≡ bytes ++ take (bytes_in width) (to_le_bytes w64 bits) → Appends item words words bytes new_bytes
  a_number width bits e grow = rw e (record {
    piece_words = [];
    piece_bytes = take (bytes_in width) (to_le_bytes w64 bits);
    is_piece = (refl, refl);
    words_grow = sym (append-nil words);
    bytes_grow = grow;
  })

  pub some_zeros : (count : ℕ) → item ≡ Zeros count → new_bytes ≡ bytes ++ replicate count 0 → Appends item words words bytes new_bytes
  some_zeros count e grow = rw e (record {
    piece_words = [];
    piece_bytes = replicate count 0;
    is_piece = (refl, refl);
    words_grow = sym (append-nil words);
    bytes_grow = grow;
  })

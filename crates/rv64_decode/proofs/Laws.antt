-- The laws of instructions and words, for callers to cite.
-- two words of 32 bits that spell one instruction are equal
pub use Rattle.rv64_decode.proofs.SpellingLemmas.{word_spelled}

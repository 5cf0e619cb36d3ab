-- What callers may cite of the bits of a word, and of lists that name its places.
pub use Rattle.word_mask.proofs.Words.{has_zero, has_below, count_listed, eqb_swap}
pub use Rattle.word_mask.proofs.Lists.{filter_agree_on, AllPairs-head, AllPairs-tail}

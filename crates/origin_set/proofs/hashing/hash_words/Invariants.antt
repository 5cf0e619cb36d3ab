use Rattle.std.proofs.Common.{ℕ, List, ◌++◌, take}
use Rattle.sha2.specs.Hashers.{Holds256}
use Rattle.origin_set.specs.OriginBytes.{words_bytes}
use Rattle.origin_set.proofs.hashing.hash_words.Given as goal

-- the words so far were taken
abbrev pub invariant-loop-word : goal.invariant-loop-word
invariant-loop-word l =
    (m : List ℕ) → Holds256 l.fn.hasher m → Holds256 l.hasher (m ++ words_bytes (take l.word-index l.words))

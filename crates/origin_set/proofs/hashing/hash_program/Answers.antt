use Rattle.std.proofs.Common.{subst}
use Rattle.sha2.specs.Hashers.{Holds256}
use Rattle.origin_set.proofs.Joined.{program_pieces}
use Rattle.origin_set.proofs.hashing.hash_program.Goals as goal

pub returns-in-None : goal.returns-in-None
returns-in-None g c m held = rw c.in-None.is (c.update.ensures m held)

pub returns-in-Some : goal.returns-in-Some
returns-in-Some g c m held =
    let taken = c.update-in-Some-4.ensures _ (c.update-in-Some-3.ensures _ (c.hash_words.ensures _ (c.update-in-Some-2.ensures _ (c.update-in-Some.ensures m held)))) in
    subst (Holds256 c.update-in-Some-4.new.self) (program_pieces m _ c.in-Some.program _ _ _ _ c.in-Some.is c.words-words.ensures c.bytes-bytes.ensures c.to_le_bytes.ensures c.to_le_bytes-in-Some.ensures) taken

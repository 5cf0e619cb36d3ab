use Rattle.std.proofs.Common.{◌++◌, take, sym, ap, ◌∙◌, subst, append-nil}
use Rattle.std.proofs.lemmas.List.{take_all}
use Rattle.sha2.specs.Hashers.{Holds256}
use Rattle.origin_set.specs.OriginBytes.{words_bytes}
use Rattle.origin_set.proofs.WordsBytes.{words_bytes-take}
use Rattle.origin_set.proofs.hashing.hash_words.Goals as goal

pub loop-word-init : goal.loop-word-init
loop-word-init c m held = rw append-nil held

pub loop-word-preserved : goal.loop-word-preserved
loop-word-preserved c m held =
    subst (Holds256 c.update.new.self) (ap (λ bytes. (m ++ words_bytes (take c.loop-word.word-index c.args.words.now)) ++ bytes) c.to_le_bytes.ensures ∙ sym (words_bytes-take m c.args.words.now c.loop-word.word-index c.loop-word-test.true)) (c.update.ensures (m ++ words_bytes (take c.loop-word.word-index c.args.words.now)) (c.loop-word.invariant m held))

pub returns : goal.returns
returns c m held =
    rw (take_all c.loop-word.word-index c.args.words.now c.loop-word-test.false) at (c.loop-word.invariant m held)

use Rattle.std.specs.Int.{to_be_bytes, w64}
use Rattle.checkpoint_file.proofs.DigitLemmas.{bytes_of_word}
use Rattle.checkpoint_file.proofs.reading.words.word_at.Goals as goal

pub returns-in-Some-clause-only : goal.returns-in-Some-clause-only
returns-in-Some-clause-only c n rest small e =
    let d = c.in-Some.ensures.only (to_be_bytes w64 n) rest (bytes_of_word n) e in
    (c.word_of.ensures.number n small d.1, d.0)

use Rattle.std.proofs.Common.{rules}
use Rattle.std.proofs.lemmas.Nat.{be_bytes_8}
use Rattle.checkpoint_file.proofs.reading.words.word_of.Goals as goal

pub returns-clause-bytes : goal.returns-clause-bytes
returns-clause-bytes c = be_bytes_8 c.args.value c.from_be_bytes.result (search rules) (search rules) (search rules)

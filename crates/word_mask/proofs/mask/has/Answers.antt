use Rattle.std.proofs.Common.{◌∙◌, sym}
use Rattle.std.proofs.lemmas.Bool.{le-ltb}
use Rattle.word_mask.proofs.Words.{tested, has_none_above}
use Rattle.std.proofs.Math.Facts.{Fits-lt-pow}
use Rattle.word_mask.proofs.mask.has.Goals as goal

pub returns-then-place-lt64 : goal.returns-then-place-lt64
returns-then-place-lt64 c = tested c.args.word c.args.place

pub returns-else-place-lt64 : goal.returns-else-place-lt64
returns-else-place-lt64 c = le-ltb c.args.place 64 c.if-place-lt64.false ∙ sym (has_none_above c.args.word c.args.place (Fits-lt-pow c.ranges.word) c.if-place-lt64.false)

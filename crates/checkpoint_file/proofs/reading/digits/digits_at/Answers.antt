use Rattle.std.proofs.Common.{rules, arith}
use Rattle.hex.specs.Hex.{encode_lower, lower_digits}
use Rattle.hex.proofs.HexLemmas.{length-encode_with}
use Rattle.checkpoint_file.proofs.reading.digits.digits_at.Goals as goal

pub returns-then-is_spelling-clause-only : goal.returns-then-is_spelling-clause-only
returns-then-is_spelling-clause-only c text rest fits e =
    let p = c.in-Some.ensures.only (encode_lower text) rest (omega (arith, length-encode_with lower_digits text, fits.count, c.requires)) e in
    (p.1, (c.is_spelling.ensures.only text fits p.0).1)

pub returns-else-is_spelling-clause-only : goal.returns-else-is_spelling-clause-only
returns-else-is_spelling-clause-only c text rest fits e =
    let p = c.in-Some.ensures.only (encode_lower text) rest (omega (arith, length-encode_with lower_digits text, fits.count, c.requires)) e in
    let yes = (c.is_spelling.ensures.only text fits p.0).0 in
    search rules

pub returns-in-None-clause-only : goal.returns-in-None-clause-only
returns-in-None-clause-only c text rest fits e =
    c.in-None.ensures.only (encode_lower text) rest (omega (arith, length-encode_with lower_digits text, fits.count, c.requires)) e

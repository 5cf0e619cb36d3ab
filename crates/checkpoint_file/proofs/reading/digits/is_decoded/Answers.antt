use Rattle.std.proofs.Common.{rules, length}
use Rattle.checkpoint_file.proofs.DigitLemmas.{decodes}
use Rattle.checkpoint_file.proofs.reading.digits.is_decoded.Goals as goal

pub returns-clause-bytes : goal.returns-clause-bytes
returns-clause-bytes c = record { count = search rules; bytes = search rules }

pub returns-clause-only : goal.returns-clause-only
returns-clause-only c bytes fits e =
    let d = decodes c.args.digits.now bytes c.decode_to_slice.new.out (length c.args.value.now) c.decode_to_slice.result c.decode_to_slice.ensures.value fits e in
    let ok = d.0 in
    (search rules, d.1)

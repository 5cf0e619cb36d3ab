use Rattle.std.proofs.Common.{◌≡◌, ◌∙◌, get_or, rules, sym, true}
use Rattle.checkpoint_file.proofs.VersionLemmas.{read_more, uncons}
use Rattle.checkpoint_file.proofs.reading.version.after_digits.Goals as goal

pub loop-rest-preserved : goal.loop-rest-preserved
loop-rest-preserved c =
    let digit : c.is_ascii_digit.result ≡ true = search rules in
    let rest = c.loop-rest.rest.now in
    read_more c.args.bytes.now rest _ (get_or rest 0 0) c.loop-rest.invariant (uncons rest c.in-len1-up.len_at_least) (sym c.is_ascii_digit.ensures.value ∙ digit)

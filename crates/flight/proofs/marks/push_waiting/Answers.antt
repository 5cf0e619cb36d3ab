use Rattle.std.proofs.Common.{[], ◌∷◌, ◌++◌, set, get_or, ap, ◌∙◌}
use Rattle.flight.specs.Marked.{kinds_of, is_waiting}
use Rattle.flight.proofs.Words.{word-push}
use Rattle.flight.proofs.marks.push_waiting.Goals as goal

pub returns : goal.returns
returns c es fs e more is at waits =
    ap (λ ws. set ws 6 c.push.result) is
    ∙ ap (λ n. kinds_of fs ++ n ∷ more ∷ []) (word-push is_waiting es e _ _ _ _ (ap (λ ws. get_or ws 6 0) is) at waits c.push.ensures)

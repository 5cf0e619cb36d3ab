use Rattle.std.proofs.Common.{◌∷◌, [], ◌+◌, refl, arith}
use Rattle.checkpoint_file.proofs.ContextLemmas.{contexts_from, four_found, no_page}
use Rattle.checkpoint_file.proofs.reading.contexts.four_contexts_at.Goals as goal

pub returns-in_err-a-clause-only : goal.returns-in_err-a-clause-only
returns-in_err-a-clause-only k p q r s rest stop h =
    absurd (k.in_err-a.ensures.only p q h.2.0 (no_page _ _ _ _ h.2.2.1) (h.0, h.1, (h.2.0, h.2.1, refl)))

pub returns-in_err-c-clause-only : goal.returns-in_err-c-clause-only
returns-in_err-c-clause-only k p q r s rest stop h =
    let one = k.in_ok-a.ensures.only p q h.2.0 (no_page _ _ _ _ h.2.2.1) (h.0, h.1, (h.2.0, h.2.1, refl)) in
    absurd (k.in_err-c.ensures.only r s rest stop (contexts_from (k.args.number + 2) (k.args.number + 1 + 1) (r ∷ s ∷ []) k.in_ok-a.next.now h.2.0 rest (omega arith) one.2 h.2.2))

pub returns-clause-found : goal.returns-clause-found
returns-clause-found k = four_found k.args.number _ _ _ _ k.args.bytes.now k.in_ok-a.next.now k.in_ok-c.rest.now k.in_ok-a.ensures.found k.in_ok-c.ensures.found

pub returns-clause-only : goal.returns-clause-only
returns-clause-only k p q r s rest stop h =
    let one = k.in_ok-a.ensures.only p q h.2.0 (no_page _ _ _ _ h.2.2.1) (h.0, h.1, (h.2.0, h.2.1, refl)) in
    let two = k.in_ok-c.ensures.only r s rest stop (contexts_from (k.args.number + 2) (k.args.number + 1 + 1) (r ∷ s ∷ []) k.in_ok-a.next.now h.2.0 rest (omega arith) one.2 h.2.2) in
    (one.0, one.1, two.0, two.1, two.2)

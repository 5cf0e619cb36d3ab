use Rattle.checkpoint_file.proofs.ContextLemmas.{context_between, no_page}
use Rattle.checkpoint_file.proofs.reading.contexts.two_contexts_at.Goals as goal

pub returns-in_err-first-clause-only : goal.returns-in_err-first-clause-only
returns-in_err-first-clause-only c a b rest stop h = absurd (c.in_err-first.ensures.only a h.0 (no_page _ _ _ _ h.2.1) h.1)

pub returns-in_err-second-clause-only : goal.returns-in_err-second-clause-only
returns-in_err-second-clause-only c a b rest stop h =
    let one = c.in_ok-first.ensures.only a h.0 (no_page _ _ _ _ h.2.1) h.1 in
    absurd (c.in_err-second.ensures.only b rest stop (context_between _ _ _ _ _ _ one.1 h.2.2 h.2.1))

pub returns-clause-only : goal.returns-clause-only
returns-clause-only c a b rest stop h =
    let one = c.in_ok-first.ensures.only a h.0 (no_page _ _ _ _ h.2.1) h.1 in
    let two = c.in_ok-second.ensures.only b rest stop (context_between _ _ _ _ _ _ one.1 h.2.2 h.2.1) in
    (one.0, two.0, two.1)

use Rattle.std.proofs.Common.{◌∷◌, [], refl, sym, ◌∙◌}
use Rattle.checkpoint_file.proofs.ContextLemmas.{contexts_from, eight_counts, eight_found, eight_parts, no_page}
use Rattle.checkpoint_file.proofs.reading.contexts.contexts_at.Goals as goal

pub returns-in_err-a-clause-only : goal.returns-in_err-a-clause-only
returns-in_err-a-clause-only k counts rest stop e =
    let x = e.contexts in
    let h = eight_parts counts k.args.bytes.now rest e in
    let four = h.2.2.2 in
    absurd (k.in_err-a.ensures.only x.c0.count x.c1.count x.c2.count x.c3.count four.0 (no_page _ _ _ _ four.2.1) (h.0, h.1, (h.2.0, h.2.1, (h.2.2.0, h.2.2.1, (four.0, four.1, refl)))))

pub returns-in_err-e-clause-only : goal.returns-in_err-e-clause-only
returns-in_err-e-clause-only k counts rest stop e =
    let x = e.contexts in
    let h = eight_parts counts k.args.bytes.now rest e in
    let four = h.2.2.2 in
    let one = k.in_ok-a.ensures.only x.c0.count x.c1.count x.c2.count x.c3.count four.0 (no_page _ _ _ _ four.2.1) (h.0, h.1, (h.2.0, h.2.1, (h.2.2.0, h.2.2.1, (four.0, four.1, refl)))) in
    absurd (k.in_err-e.ensures.only x.c4.count x.c5.count x.c6.count x.c7.count rest stop (contexts_from 4 4 (x.c4.count ∷ x.c5.count ∷ x.c6.count ∷ x.c7.count ∷ []) k.in_ok-a.next.now four.0 rest refl one.4 four.2))

pub returns-clause-found : goal.returns-clause-found
returns-clause-found k =
    eight_found _ _ _ _ _ _ _ _ k.args.bytes.now k.in_ok-a.next.now k.in_ok-e.rest.now k.in_ok-a.ensures.found k.in_ok-e.ensures.found

pub returns-clause-only : goal.returns-clause-only
returns-clause-only k counts rest stop e =
    let x = e.contexts in
    let h = eight_parts counts k.args.bytes.now rest e in
    let four = h.2.2.2 in
    let one = k.in_ok-a.ensures.only x.c0.count x.c1.count x.c2.count x.c3.count four.0 (no_page _ _ _ _ four.2.1) (h.0, h.1, (h.2.0, h.2.1, (h.2.2.0, h.2.2.1, (four.0, four.1, refl)))) in
    let two = k.in_ok-e.ensures.only x.c4.count x.c5.count x.c6.count x.c7.count rest stop (contexts_from 4 4 (x.c4.count ∷ x.c5.count ∷ x.c6.count ∷ x.c7.count ∷ []) k.in_ok-a.next.now four.0 rest refl one.4 four.2) in
    (eight_counts _ _ _ _ _ _ _ _ _ _ _ _ _ _ _ _ one.0 one.1 one.2 one.3 two.0 two.1 two.2 two.3 ∙ sym e.counted, two.4)

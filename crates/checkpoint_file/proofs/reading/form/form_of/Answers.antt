use Rattle.std.proofs.Common.{◌≡◌, ◌++◌, [], ap, arith, length, refl, ◌∙◌}
use Rattle.std.proofs.lemmas.Grind.{common_steps}
use Rattle.checkpoint_file.specs.ContextLines.{counts_of}
use Rattle.checkpoint_file.specs.Lines.{origin_line, seal_line}
use Rattle.checkpoint_file.specs.Texts.{contexts_text}
use Rattle.checkpoint_file.proofs.FormLemmas.{form_found, form_parts, nil_of, no_page_seal}
use Rattle.checkpoint_file.proofs.reading.form.form_of.Goals as goal

pub returns-in_err-origin-clause-only : goal.returns-in_err-origin-clause-only
returns-in_err-origin-clause-only c value h = absurd (c.in_err-origin.ensures.only _ (h.text ∙ form_parts value))

pub returns-in_err-digest-clause-only : goal.returns-in_err-digest-clause-only
returns-in_err-digest-clause-only c value h =
    let v = value in
    let end = seal_line v.seal ++ [] in
    let contexts = contexts_text v.contexts ++ end in
    let e1 = c.in_ok-origin.ensures.only (origin_line v.digest ++ contexts) (h.text ∙ form_parts v) in
    absurd (c.in_err-digest.ensures.only v.digest contexts h.digest e1)

pub returns-in_err-counts-clause-only : goal.returns-in_err-counts-clause-only
returns-in_err-counts-clause-only c value h =
    let v = value in
    let end = seal_line v.seal ++ [] in
    let contexts = contexts_text v.contexts ++ end in
    let e1 = c.in_ok-origin.ensures.only (origin_line v.digest ++ contexts) (h.text ∙ form_parts v) in
    let e2 = c.in_ok-digest.ensures.only v.digest contexts h.digest e1 in
    absurd (c.in_err-counts.ensures.only (counts_of v.contexts) end (no_page_seal v.seal []) (record { contexts = v.contexts; fits = h.contexts; counted = refl; parts = e2.1 }))

pub returns-in_err-seal-clause-only : goal.returns-in_err-seal-clause-only
returns-in_err-seal-clause-only c value h =
    let v = value in
    let end = seal_line v.seal ++ [] in
    let contexts = contexts_text v.contexts ++ end in
    let e1 = c.in_ok-origin.ensures.only (origin_line v.digest ++ contexts) (h.text ∙ form_parts v) in
    let e2 = c.in_ok-digest.ensures.only v.digest contexts h.digest e1 in
    let e3 = c.in_ok-counts.ensures.only (counts_of v.contexts) end (no_page_seal v.seal []) (record { contexts = v.contexts; fits = h.contexts; counted = refl; parts = e2.1 }) in
    absurd (c.in_err-seal.ensures.only v.seal [] h.seal e3.1)

pub returns-then-is_empty-clause-found : goal.returns-then-is_empty-clause-found
returns-then-is_empty-clause-found c =
    let short : length c.in_ok-seal.rest.now ≡ 0 = grind (arith, common_steps) in
    let none = nil_of c.in_ok-seal.rest.now short in
    form_found c.args.text.now c.in_ok-origin.origin.now c.in_ok-digest.contexts.now c.in_ok-counts.end.now c.in_ok-seal.rest.now
    c.in_ok-digest.digest c.in_ok-counts.counts c.in_ok-seal.seal c.in_ok-origin.ensures.found c.in_ok-digest.ensures.found c.in_ok-digest.ensures.fits
    c.in_ok-counts.ensures.found c.in_ok-seal.ensures.found c.in_ok-seal.ensures.fits none

pub returns-then-is_empty-clause-only : goal.returns-then-is_empty-clause-only
returns-then-is_empty-clause-only c value h =
    let v = value in
    let end = seal_line v.seal ++ [] in
    let contexts = contexts_text v.contexts ++ end in
    let e1 = c.in_ok-origin.ensures.only (origin_line v.digest ++ contexts) (h.text ∙ form_parts v) in
    let e2 = c.in_ok-digest.ensures.only v.digest contexts h.digest e1 in
    let e3 = c.in_ok-counts.ensures.only (counts_of v.contexts) end (no_page_seal v.seal []) (record { contexts = v.contexts; fits = h.contexts; counted = refl; parts = e2.1 }) in
    let e4 = c.in_ok-seal.ensures.only v.seal [] h.seal e3.1 in
    record { digest = e2.0; counts = e3.0; seal = e4.0 }

pub returns-else-is_empty-clause-only : goal.returns-else-is_empty-clause-only
returns-else-is_empty-clause-only c value h =
    let v = value in
    let end = seal_line v.seal ++ [] in
    let contexts = contexts_text v.contexts ++ end in
    let e1 = c.in_ok-origin.ensures.only (origin_line v.digest ++ contexts) (h.text ∙ form_parts v) in
    let e2 = c.in_ok-digest.ensures.only v.digest contexts h.digest e1 in
    let e3 = c.in_ok-counts.ensures.only (counts_of v.contexts) end (no_page_seal v.seal []) (record { contexts = v.contexts; fits = h.contexts; counted = refl; parts = e2.1 }) in
    let e4 = c.in_ok-seal.ensures.only v.seal [] h.seal e3.1 in
    let short : length c.in_ok-seal.rest.now ≡ 0 = ap length e4.1 in
    grind (arith, common_steps, short)

use Rattle.std.proofs.Common.{◌++◌, ◌∷◌, rules, ◌∙◌}
use Rattle.std.specs.Fmt.{decimal}
use Rattle.std.specs.Prelude.{codes}
use Rattle.checkpoint_file.specs.Contexts.{page_lines, register_lines}
use Rattle.checkpoint_file.specs.Lines.{word_line}
use Rattle.checkpoint_file.proofs.ContextLemmas.{after_heading, context_found, context_parts}
use Rattle.checkpoint_file.proofs.reading.contexts.context_at.Goals as goal

pub returns-in_err-pages-clause-only : goal.returns-in_err-pages-clause-only
returns-in_err-pages-clause-only c count rest stop h =
    let v = h.context in
    let pages = page_lines v.pages ++ rest in
    let registers = register_lines 1 v.registers ++ pages in
    let place = word_line (codes "pc ") v.pc ++ registers in
    let e1 = c.in_ok-heading.ensures.only (decimal c.args.number ++ (10 ∷ after_heading v rest)) (h.parts ∙ context_parts c.args.number v rest) in
    let e2 = c.in_ok-counted.ensures.only (after_heading v rest) e1 in
    let e3 = c.in_ok-count.ensures.only v.count place h.fits.count e2 in
    let e4 = c.in_ok-registers.ensures.only v.pc registers h.fits.pc e3.1 in
    absurd (c.in_err-pages.ensures.only pages (record { values = v.registers; registers = h.fits.registers; parts = e4.1 }))

pub returns-in_err-rest-clause-only : goal.returns-in_err-rest-clause-only
returns-in_err-rest-clause-only c count rest stop h =
    let v = h.context in
    let pages = page_lines v.pages ++ rest in
    let registers = register_lines 1 v.registers ++ pages in
    let place = word_line (codes "pc ") v.pc ++ registers in
    let e1 = c.in_ok-heading.ensures.only (decimal c.args.number ++ (10 ∷ after_heading v rest)) (h.parts ∙ context_parts c.args.number v rest) in
    let e2 = c.in_ok-counted.ensures.only (after_heading v rest) e1 in
    let e3 = c.in_ok-count.ensures.only v.count place h.fits.count e2 in
    let e4 = c.in_ok-registers.ensures.only v.pc registers h.fits.pc e3.1 in
    let e5 = c.in_ok-pages.ensures.only pages (record { values = v.registers; registers = h.fits.registers; parts = e4.1 }) in
    absurd (c.in_err-rest.ensures.only rest stop (record { pages = v.pages; in_order = h.fits.pages; parts = e5 }))

pub returns-clause-found : goal.returns-clause-found
returns-clause-found c =
    context_found c.args.number c.in_ok-count.count c.in_ok-registers.field-0-0 c.args.bytes.now c.in_ok-heading.heading.now c.in_ok-counted.counted.now
    c.in_ok-count.place.now c.in_ok-registers.registers.now c.in_ok-pages.pages.now c.in_ok-rest.rest.now c.in_ok-count.ensures.bound (search rules)
    c.in_ok-heading.ensures.found c.in_ok-counted.ensures.found c.in_ok-count.ensures.found c.in_ok-registers.ensures.found c.in_ok-pages.ensures.found
    c.in_ok-rest.ensures.found

pub returns-clause-only : goal.returns-clause-only
returns-clause-only c count rest stop h =
    let v = h.context in
    let pages = page_lines v.pages ++ rest in
    let registers = register_lines 1 v.registers ++ pages in
    let place = word_line (codes "pc ") v.pc ++ registers in
    let e1 = c.in_ok-heading.ensures.only (decimal c.args.number ++ (10 ∷ after_heading v rest)) (h.parts ∙ context_parts c.args.number v rest) in
    let e2 = c.in_ok-counted.ensures.only (after_heading v rest) e1 in
    let e3 = c.in_ok-count.ensures.only v.count place h.fits.count e2 in
    let e4 = c.in_ok-registers.ensures.only v.pc registers h.fits.pc e3.1 in
    let e5 = c.in_ok-pages.ensures.only pages (record { values = v.registers; registers = h.fits.registers; parts = e4.1 }) in
    (e3.0 ∙ h.counted, c.in_ok-rest.ensures.only rest stop (record { pages = v.pages; in_order = h.fits.pages; parts = e5 }))

use Rattle.std.proofs.Common.{◌++◌, ◌∙◌, List, ℕ, ap, drop, refl, sym}
use Rattle.std.specs.Prelude.{codes}
use Rattle.checkpoint_file.proofs.LineLemmas.{context_text_at}
use Rattle.checkpoint_file.proofs.SkipLemmas.{five_found, five_parts}
use Rattle.checkpoint_file.specs.Contexts.{page_lines, register_lines}
use Rattle.checkpoint_file.specs.Lines.{context_line, count_line, word_line}
use Rattle.checkpoint_file.specs.Texts.{data_pages}
use Rattle.paged_memory.specs.Pages.{pages_of}
use Rattle.checkpoint_file.proofs.matching.after_context.Goals as goal

pub returns-in_err-heading-clause-only : goal.returns-in_err-heading-clause-only
returns-in_err-heading-clause-only g c rest e =
    let e0 = e ∙ ap (λ (t : List ℕ). t ++ rest) (sym (context_text_at c.args.number c.args.count c.args.hart.now.pc c.args.hart.now.registers (pages_of c.args.hart.now.memory) c.args.hart.now refl refl refl)) ∙ five_parts (context_line c.args.number) (count_line c.args.count) (word_line (codes "pc ") c.args.hart.now.pc) (register_lines 1 (drop 1 c.args.hart.now.registers)) (page_lines (data_pages (pages_of c.args.hart.now.memory))) rest in
    absurd (c.in_err-heading.ensures.only _ e0)

pub returns-in_err-place-clause-only : goal.returns-in_err-place-clause-only
returns-in_err-place-clause-only g c rest e =
    let e0 = e ∙ ap (λ (t : List ℕ). t ++ rest) (sym (context_text_at c.args.number c.args.count c.args.hart.now.pc c.args.hart.now.registers (pages_of c.args.hart.now.memory) c.args.hart.now refl refl refl)) ∙ five_parts (context_line c.args.number) (count_line c.args.count) (word_line (codes "pc ") c.args.hart.now.pc) (register_lines 1 (drop 1 c.args.hart.now.registers)) (page_lines (data_pages (pages_of c.args.hart.now.memory))) rest in
    let e1 = c.in_ok-heading.ensures.only _ e0 in
    absurd (c.in_err-place.ensures.only _ e1)

pub returns-in_err-registers-clause-only : goal.returns-in_err-registers-clause-only
returns-in_err-registers-clause-only g c rest e =
    let e0 = e ∙ ap (λ (t : List ℕ). t ++ rest) (sym (context_text_at c.args.number c.args.count c.pc.result c.args.hart.now.registers (pages_of c.args.hart.now.memory) c.args.hart.now c.pc.ensures.same refl refl)) ∙ five_parts (context_line c.args.number) (count_line c.args.count) (word_line (codes "pc ") c.pc.result) (register_lines 1 (drop 1 c.args.hart.now.registers)) (page_lines (data_pages (pages_of c.args.hart.now.memory))) rest in
    let e1 = c.in_ok-heading.ensures.only _ e0 in
    let e2 = c.in_ok-place.ensures.only _ e1 in
    absurd (c.in_err-registers.ensures.only _ e2)

pub returns-in_err-pages-clause-only : goal.returns-in_err-pages-clause-only
returns-in_err-pages-clause-only g c rest e =
    let e0 = e ∙ ap (λ (t : List ℕ). t ++ rest) (sym (context_text_at c.args.number c.args.count c.pc.result c.regs.result.now (pages_of c.args.hart.now.memory) c.args.hart.now c.pc.ensures.same c.regs.ensures.same refl)) ∙ five_parts (context_line c.args.number) (count_line c.args.count) (word_line (codes "pc ") c.pc.result) (register_lines 1 (drop 1 c.regs.result.now)) (page_lines (data_pages (pages_of c.args.hart.now.memory))) rest in
    let e1 = c.in_ok-heading.ensures.only _ e0 in
    let e2 = c.in_ok-place.ensures.only _ e1 in
    let e3 = c.in_ok-registers.ensures.only _ e2 in
    absurd (c.in_err-pages.ensures.only _ e3)

pub returns-in_err-rest-clause-only : goal.returns-in_err-rest-clause-only
returns-in_err-rest-clause-only g c rest e =
    let e0 = e ∙ ap (λ (t : List ℕ). t ++ rest) (sym (context_text_at c.args.number c.args.count c.pc.result c.regs.result.now c.pages.result.now c.args.hart.now c.pc.ensures.same c.regs.ensures.same (c.pages.ensures ∙ ap pages_of c.memory.ensures))) ∙ five_parts (context_line c.args.number) (count_line c.args.count) (word_line (codes "pc ") c.pc.result) (register_lines 1 (drop 1 c.regs.result.now)) (page_lines (data_pages c.pages.result.now)) rest in
    let e1 = c.in_ok-heading.ensures.only _ e0 in
    let e2 = c.in_ok-place.ensures.only _ e1 in
    let e3 = c.in_ok-registers.ensures.only _ e2 in
    let e4 = c.in_ok-pages.ensures.only _ e3 in
    absurd (c.in_err-rest.ensures.only _ e4)

pub returns-clause-found : goal.returns-clause-found
returns-clause-found g c =
    five_found (context_line c.args.number) (count_line c.args.count) (word_line (codes "pc ") c.pc.result) (register_lines 1 (drop 1 c.regs.result.now)) (page_lines (data_pages c.pages.result.now))
    c.args.bytes.now c.in_ok-heading.heading.now c.in_ok-place.place.now c.in_ok-registers.registers.now c.in_ok-pages.pages.now c.in_ok-rest.rest.now
    c.in_ok-heading.ensures.found c.in_ok-place.ensures.found c.in_ok-registers.ensures.found c.in_ok-pages.ensures.found c.in_ok-rest.ensures.found
    ∙ ap (λ (t : List ℕ). t ++ c.in_ok-rest.rest.now) (context_text_at c.args.number c.args.count c.pc.result c.regs.result.now c.pages.result.now c.args.hart.now c.pc.ensures.same c.regs.ensures.same (c.pages.ensures ∙ ap pages_of c.memory.ensures))

pub returns-clause-only : goal.returns-clause-only
returns-clause-only g c rest e =
    let e0 = e ∙ ap (λ (t : List ℕ). t ++ rest) (sym (context_text_at c.args.number c.args.count c.pc.result c.regs.result.now c.pages.result.now c.args.hart.now c.pc.ensures.same c.regs.ensures.same (c.pages.ensures ∙ ap pages_of c.memory.ensures))) ∙ five_parts (context_line c.args.number) (count_line c.args.count) (word_line (codes "pc ") c.pc.result) (register_lines 1 (drop 1 c.regs.result.now)) (page_lines (data_pages c.pages.result.now)) rest in
    let e1 = c.in_ok-heading.ensures.only _ e0 in
    let e2 = c.in_ok-place.ensures.only _ e1 in
    let e3 = c.in_ok-registers.ensures.only _ e2 in
    let e4 = c.in_ok-pages.ensures.only _ e3 in
    c.in_ok-rest.ensures.only _ e4

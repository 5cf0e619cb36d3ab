use Rattle.std.proofs.Common.{◌≡◌, [], ◌∷◌, ◌++◌, ◌+◌, arith, drop}
use Rattle.checkpoint_file.specs.Contexts.{page_lines}
use Rattle.checkpoint_file.specs.Texts.{data_pages}
use Rattle.std.proofs.lemmas.Grind.{common_steps}
use Rattle.checkpoint_file.proofs.LineLemmas.{page_step, pages_end}
use Rattle.checkpoint_file.proofs.SkipLemmas.{next_line, skip_all, skip_end, skip_more, skip_none}
use Rattle.checkpoint_file.proofs.matching.after_pages.Goals as goal

pub loop-page-init : goal.loop-page-init
loop-page-init c = skip_none _ _

pub returns-in_err-rest-clause-only : goal.returns-in_err-rest-clause-only
returns-in_err-rest-clause-only c rest e =
    let next : drop c.loop-page.page-index c.args.pages.now ≡ c.page-item.result ∷ drop (c.loop-page.page-index + 1) c.args.pages.now = grind (arith, common_steps) in
    let i = c.loop-page.page-index in
    let pages = c.args.pages.now in
    absurd (c.in_err-rest.ensures.only ((page_lines (data_pages (drop (i + 1) pages))) ++ rest) (next_line c.args.bytes.now c.loop-page.rest.now (page_lines (data_pages (c.page-item.result ∷ []))) (page_lines (data_pages (drop i pages))) (page_lines (data_pages (drop (i + 1) pages))) (page_lines (data_pages pages)) rest (page_step c.page-item.result (drop c.loop-page.page-index c.args.pages.now) _ next) c.loop-page.invariant e))

pub loop-page-preserved : goal.loop-page-preserved
loop-page-preserved c =
    let next : drop c.loop-page.page-index c.args.pages.now ≡ c.page-item.result ∷ drop (c.loop-page.page-index + 1) c.args.pages.now = grind (arith, common_steps) in
    let i = c.loop-page.page-index in
    let pages = c.args.pages.now in
    skip_more c.args.bytes.now c.loop-page.rest.now c.in_ok-rest.rest.now (page_lines (data_pages (c.page-item.result ∷ []))) (page_lines (data_pages (drop i pages))) (page_lines (data_pages (drop (i + 1) pages))) (page_lines (data_pages pages)) (page_step c.page-item.result (drop c.loop-page.page-index c.args.pages.now) _ next) c.loop-page.invariant c.in_ok-rest.ensures.found

pub returns-clause-found : goal.returns-clause-found
returns-clause-found c = skip_all c.args.bytes.now c.loop-page.rest.now _ _ (pages_end c.args.pages.now c.loop-page.page-index (omega arith)) c.loop-page.invariant

pub returns-clause-only : goal.returns-clause-only
returns-clause-only c rest e = skip_end c.args.bytes.now c.loop-page.rest.now _ _ rest (pages_end c.args.pages.now c.loop-page.page-index (omega arith)) c.loop-page.invariant e

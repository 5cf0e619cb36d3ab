use Rattle.std.proofs.Common.{drop}
use Rattle.checkpoint_file.proofs.SkipLemmas.{Skips}
use Rattle.checkpoint_file.specs.Contexts.{page_lines}
use Rattle.checkpoint_file.specs.Texts.{data_pages}
use Rattle.checkpoint_file.proofs.matching.after_pages.Given as goal

abbrev pub invariant-loop-page : goal.invariant-loop-page
invariant-loop-page l = Skips l.bytes l.rest (page_lines (data_pages (drop l.page-index l.pages))) (page_lines (data_pages l.pages))

use Rattle.std.proofs.Common.{◌≡◌, drop}
use Rattle.checkpoint_file.proofs.WrittenLemmas.{WroteFront}
use Rattle.checkpoint_file.specs.Contexts.{page_lines}
use Rattle.checkpoint_file.specs.Texts.{data_pages}
use Rattle.checkpoint_file.proofs.writing.contexts.put_pages.Given as goal

abbrev pub invariant-loop-page : goal.invariant-loop-page
invariant-loop-page g l =
    record {
      wrote : WroteFront (g.W.Sink.contents l.fn.device) (g.W.Sink.contents l.device) (g.W.Sink.has_failed l.device) l.fn.hasher l.hasher
          (page_lines (data_pages (drop l.page-index l.pages))) (page_lines (data_pages l.pages));
      name : g.W.Sink.name_of l.device ≡ g.W.Sink.name_of l.fn.device;
    }

use Rattle.std.proofs.Common.{sym, ◌∙◌}
use Rattle.checkpoint_file.proofs.LineLemmas.{mark_text_at}
use Rattle.checkpoint_file.proofs.WrittenLemmas.{retext}
use Rattle.checkpoint_file.proofs.writing.contexts.put_mark.Goals as goal

pub returns-clause-written : goal.returns-clause-written
returns-clause-written g c =
    retext (g.W.Sink.contents c.args.device.now) (g.W.Sink.contents c.put_context.new.device) (g.W.Sink.has_failed c.put_context.new.device) c.args.hasher.now c.put_context.new.hasher _ _
    c.put_context.result (sym (mark_text_at c.args.mark.now _ _ _ c.state.ensures (c.index-number.ensures.value ∙ c.context.ensures) c.count.ensures.value)) c.put_context.ensures.written

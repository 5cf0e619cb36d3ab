use Rattle.std.proofs.Common.{ap, ◌∙◌}
use Rattle.checkpoint_file.proofs.WrittenLemmas.{retext}
use Rattle.checkpoint_file.specs.Lines.{origin_line}
use Rattle.checkpoint_file.specs.Texts.{digest_of}
use Rattle.checkpoint_file.proofs.writing.contexts.put_origin.Goals as goal

pub returns-clause-written : goal.returns-clause-written
returns-clause-written g c =
    retext (g.W.Sink.contents c.args.device.now) (g.W.Sink.contents c.put_digest_line.new.device) (g.W.Sink.has_failed c.put_digest_line.new.device) c.args.hasher.now c.put_digest_line.new.hasher _ _
    c.put_digest_line.result (ap origin_line (c.digest.ensures ∙ ap digest_of (c.deref.ensures ∙ c.origin.ensures))) c.put_digest_line.ensures.written

use Rattle.checkpoint_file.proofs.WrittenLemmas.{failed_put, first_fails, seal_fails}
use Rattle.checkpoint_file.proofs.output.put_text.Goals as goal

pub returns-in_err-put_body-clause-written : goal.returns-in_err-put_body-clause-written
returns-in_err-put_body-clause-written g c =
    failed_put (g.W.Sink.contents c.args.device.now) (g.W.Sink.contents c.put_body.new.device) (g.W.Sink.has_failed c.put_body.new.device) _
    c.from_residual.result c.from_residual.ensures.0 (first_fails _ _ _ _ _ c.in_err-put_body.ensures.written)

pub returns-in_err-put_seal-clause-written : goal.returns-in_err-put_seal-clause-written
returns-in_err-put_seal-clause-written g c =
    failed_put (g.W.Sink.contents c.args.device.now) (g.W.Sink.contents c.put_seal.new.device) (g.W.Sink.has_failed c.put_seal.new.device) _
    c.from_residual-in_err-put_seal.result c.from_residual-in_err-put_seal.ensures.0
    (seal_fails _ _ _ _ _ _ _ _ c.new-hasher.ensures c.in_ok-put_body.ensures.written c.in_err-put_seal.ensures.written)

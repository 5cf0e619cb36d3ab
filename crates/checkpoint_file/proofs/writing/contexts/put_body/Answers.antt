use Rattle.checkpoint_file.proofs.WrittenLemmas.{both, failed, first_fails, second_fails}
use Rattle.checkpoint_file.proofs.writing.contexts.put_body.Goals as goal

pub returns-in_err-put_bytes-clause-written : goal.returns-in_err-put_bytes-clause-written
returns-in_err-put_bytes-clause-written g c =
    failed (g.W.Sink.contents c.args.device.now) (g.W.Sink.contents c.put_bytes.new.device) (g.W.Sink.has_failed c.put_bytes.new.device) c.args.hasher.now c.put_bytes.new.hasher _ c.from_residual.result c.from_residual.ensures.0
    (first_fails _ _ _ _ _ c.in_err-put_bytes.ensures.written)

pub returns-in_err-put_origin-clause-written : goal.returns-in_err-put_origin-clause-written
returns-in_err-put_origin-clause-written g c =
    failed (g.W.Sink.contents c.args.device.now) (g.W.Sink.contents c.put_origin.new.device) (g.W.Sink.has_failed c.put_origin.new.device) c.args.hasher.now c.put_origin.new.hasher _ c.from_residual-in_err-put_origin.result c.from_residual-in_err-put_origin.ensures.0
    (second_fails _ _ _ _ _ _ _ _ _ c.in_ok-put_bytes.ensures.written (first_fails _ _ _ _ _ c.in_err-put_origin.ensures.written))

pub returns-in_err-put_marks-clause-written : goal.returns-in_err-put_marks-clause-written
returns-in_err-put_marks-clause-written g c =
    failed (g.W.Sink.contents c.args.device.now) (g.W.Sink.contents c.put_marks.new.device) (g.W.Sink.has_failed c.put_marks.new.device) c.args.hasher.now c.put_marks.new.hasher _ c.from_residual-in_err-put_marks.result c.from_residual-in_err-put_marks.ensures.0
    (second_fails _ _ _ _ _ _ _ _ _ c.in_ok-put_bytes.ensures.written (second_fails _ _ _ _ _ _ _ _ _ c.in_ok-put_origin.ensures.written c.in_err-put_marks.ensures.written))

pub returns-clause-written : goal.returns-clause-written
returns-clause-written g c = (both _ _ _ _ _ _ _ _ _ _ c.in_ok-put_bytes.ensures.written (both _ _ _ _ _ _ _ _ _ _ c.in_ok-put_origin.ensures.written c.in_ok-put_marks.ensures.written))

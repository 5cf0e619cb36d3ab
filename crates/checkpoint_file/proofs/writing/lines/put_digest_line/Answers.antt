use Rattle.checkpoint_file.proofs.WrittenLemmas.{both, failed, first_fails, second_fails}
use Rattle.checkpoint_file.proofs.writing.lines.put_digest_line.Goals as goal

pub returns-in_err-put_bytes-clause-written : goal.returns-in_err-put_bytes-clause-written
returns-in_err-put_bytes-clause-written g c =
    failed (g.W.Sink.contents c.args.device.now) (g.W.Sink.contents c.put_bytes.new.device) (g.W.Sink.has_failed c.put_bytes.new.device) c.args.hasher.now c.put_bytes.new.hasher _ c.from_residual.result c.from_residual.ensures.0
    (first_fails _ _ _ _ _ c.in_err-put_bytes.ensures.written)

pub returns-in_err-put_digits-clause-written : goal.returns-in_err-put_digits-clause-written
returns-in_err-put_digits-clause-written g c =
    failed (g.W.Sink.contents c.args.device.now) (g.W.Sink.contents c.put_digits.new.device) (g.W.Sink.has_failed c.put_digits.new.device) c.args.hasher.now c.put_digits.new.hasher _ c.from_residual-in_err-put_digits.result c.from_residual-in_err-put_digits.ensures.0
    (second_fails _ _ _ _ _ _ _ _ _ c.in_ok-put_bytes.ensures.written (first_fails _ _ _ _ _ c.in_err-put_digits.ensures.written))

pub returns-in_err-put_bytes-2-clause-written : goal.returns-in_err-put_bytes-2-clause-written
returns-in_err-put_bytes-2-clause-written g c =
    failed (g.W.Sink.contents c.args.device.now) (g.W.Sink.contents c.put_bytes-2.new.device) (g.W.Sink.has_failed c.put_bytes-2.new.device) c.args.hasher.now c.put_bytes-2.new.hasher _ c.from_residual-in_err-put_bytes-2.result c.from_residual-in_err-put_bytes-2.ensures.0
    (second_fails _ _ _ _ _ _ _ _ _ c.in_ok-put_bytes.ensures.written (second_fails _ _ _ _ _ _ _ _ _ c.in_ok-put_digits.ensures.written c.in_err-put_bytes-2.ensures.written))

pub returns-clause-written : goal.returns-clause-written
returns-clause-written g c = (both _ _ _ _ _ _ _ _ _ _ c.in_ok-put_bytes.ensures.written (both _ _ _ _ _ _ _ _ _ _ c.in_ok-put_digits.ensures.written c.in_ok-put_bytes-2.ensures.written))

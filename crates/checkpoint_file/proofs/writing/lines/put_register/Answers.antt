use Rattle.checkpoint_file.proofs.WrittenLemmas.{both, failed, first_fails, second_fails}
use Rattle.checkpoint_file.proofs.writing.lines.put_register.Goals as goal

pub returns-in_err-put_bytes-clause-written : goal.returns-in_err-put_bytes-clause-written
returns-in_err-put_bytes-clause-written g c =
    failed (g.W.Sink.contents c.args.device.now) (g.W.Sink.contents c.put_bytes.new.device) (g.W.Sink.has_failed c.put_bytes.new.device) c.args.hasher.now c.put_bytes.new.hasher _ c.from_residual.result c.from_residual.ensures.0
    (first_fails _ _ _ _ _ c.in_err-put_bytes.ensures.written)

pub returns-in_err-put_number-clause-written : goal.returns-in_err-put_number-clause-written
returns-in_err-put_number-clause-written g c =
    failed (g.W.Sink.contents c.args.device.now) (g.W.Sink.contents c.put_number.new.device) (g.W.Sink.has_failed c.put_number.new.device) c.args.hasher.now c.put_number.new.hasher _ c.from_residual-in_err-put_number.result c.from_residual-in_err-put_number.ensures.0
    (second_fails _ _ _ _ _ _ _ _ _ c.in_ok-put_bytes.ensures.written (first_fails _ _ _ _ _ c.in_err-put_number.ensures.written))

pub returns-in_err-put_word_line-clause-written : goal.returns-in_err-put_word_line-clause-written
returns-in_err-put_word_line-clause-written g c =
    failed (g.W.Sink.contents c.args.device.now) (g.W.Sink.contents c.put_word_line.new.device) (g.W.Sink.has_failed c.put_word_line.new.device) c.args.hasher.now c.put_word_line.new.hasher _ c.from_residual-in_err-put_word_line.result c.from_residual-in_err-put_word_line.ensures.0
    (second_fails _ _ _ _ _ _ _ _ _ c.in_ok-put_bytes.ensures.written (second_fails _ _ _ _ _ _ _ _ _ c.in_ok-put_number.ensures.written c.in_err-put_word_line.ensures.written))

pub returns-clause-written : goal.returns-clause-written
returns-clause-written g c = (both _ _ _ _ _ _ _ _ _ _ c.in_ok-put_bytes.ensures.written (both _ _ _ _ _ _ _ _ _ _ c.in_ok-put_number.ensures.written c.in_ok-put_word_line.ensures.written))

use Rattle.checkpoint_file.proofs.WrittenLemmas.{both, failed, first_fails, second_fails}
use Rattle.checkpoint_file.proofs.writing.lines.put_page.Goals as goal

pub returns-in_err-put_bytes-clause-written : goal.returns-in_err-put_bytes-clause-written
returns-in_err-put_bytes-clause-written g c =
    failed (g.W.Sink.contents c.args.device.now) (g.W.Sink.contents c.put_bytes.new.device) (g.W.Sink.has_failed c.put_bytes.new.device) c.args.hasher.now c.put_bytes.new.hasher _ c.from_residual.result c.from_residual.ensures.0
    (first_fails _ _ _ _ _ c.in_err-put_bytes.ensures.written)

pub returns-in_err-put_address-clause-written : goal.returns-in_err-put_address-clause-written
returns-in_err-put_address-clause-written g c =
    failed (g.W.Sink.contents c.args.device.now) (g.W.Sink.contents c.put_address.new.device) (g.W.Sink.has_failed c.put_address.new.device) c.args.hasher.now c.put_address.new.hasher _ c.from_residual-in_err-put_address.result c.from_residual-in_err-put_address.ensures.0
    (second_fails _ _ _ _ _ _ _ _ _ c.in_ok-put_bytes.ensures.written (first_fails _ _ _ _ _ c.in_err-put_address.ensures.written))

pub returns-in_err-put_bytes-2-clause-written : goal.returns-in_err-put_bytes-2-clause-written
returns-in_err-put_bytes-2-clause-written g c =
    failed (g.W.Sink.contents c.args.device.now) (g.W.Sink.contents c.put_bytes-2.new.device) (g.W.Sink.has_failed c.put_bytes-2.new.device) c.args.hasher.now c.put_bytes-2.new.hasher _ c.from_residual-in_err-put_bytes-2.result c.from_residual-in_err-put_bytes-2.ensures.0
    (second_fails _ _ _ _ _ _ _ _ _ c.in_ok-put_bytes.ensures.written (second_fails _ _ _ _ _ _ _ _ _ c.in_ok-put_address.ensures.written (first_fails _ _ _ _ _ c.in_err-put_bytes-2.ensures.written)))

pub returns-in_err-put_content-clause-written : goal.returns-in_err-put_content-clause-written
returns-in_err-put_content-clause-written g c =
    failed (g.W.Sink.contents c.args.device.now) (g.W.Sink.contents c.put_content.new.device) (g.W.Sink.has_failed c.put_content.new.device) c.args.hasher.now c.put_content.new.hasher _ c.from_residual-in_err-put_content.result c.from_residual-in_err-put_content.ensures.0
    (second_fails _ _ _ _ _ _ _ _ _ c.in_ok-put_bytes.ensures.written (second_fails _ _ _ _ _ _ _ _ _ c.in_ok-put_address.ensures.written (second_fails _ _ _ _ _ _ _ _ _ c.in_ok-put_bytes-2.ensures.written (first_fails _ _ _ _ _ c.in_err-put_content.ensures.written))))

pub returns-in_err-put_bytes-3-clause-written : goal.returns-in_err-put_bytes-3-clause-written
returns-in_err-put_bytes-3-clause-written g c =
    failed (g.W.Sink.contents c.args.device.now) (g.W.Sink.contents c.put_bytes-3.new.device) (g.W.Sink.has_failed c.put_bytes-3.new.device) c.args.hasher.now c.put_bytes-3.new.hasher _ c.from_residual-in_err-put_bytes-3.result c.from_residual-in_err-put_bytes-3.ensures.0
    (second_fails _ _ _ _ _ _ _ _ _ c.in_ok-put_bytes.ensures.written (second_fails _ _ _ _ _ _ _ _ _ c.in_ok-put_address.ensures.written (second_fails _ _ _ _ _ _ _ _ _ c.in_ok-put_bytes-2.ensures.written (second_fails _ _ _ _ _ _ _ _ _ c.in_ok-put_content.ensures.written c.in_err-put_bytes-3.ensures.written))))

pub returns-clause-written : goal.returns-clause-written
returns-clause-written g c = (both _ _ _ _ _ _ _ _ _ _ c.in_ok-put_bytes.ensures.written (both _ _ _ _ _ _ _ _ _ _ c.in_ok-put_address.ensures.written (both _ _ _ _ _ _ _ _ _ _ c.in_ok-put_bytes-2.ensures.written (both _ _ _ _ _ _ _ _ _ _ c.in_ok-put_content.ensures.written c.in_ok-put_bytes-3.ensures.written))))

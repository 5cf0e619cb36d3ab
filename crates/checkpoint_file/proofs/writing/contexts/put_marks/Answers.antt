use Rattle.checkpoint_file.proofs.WrittenLemmas.{both, failed, first_fails, second_fails}
use Rattle.checkpoint_file.proofs.writing.contexts.put_marks.Goals as goal

pub returns-in_err-put_mark-clause-written : goal.returns-in_err-put_mark-clause-written
returns-in_err-put_mark-clause-written g c =
    failed (g.W.Sink.contents c.args.device.now) (g.W.Sink.contents c.put_mark.new.device) (g.W.Sink.has_failed c.put_mark.new.device) c.args.hasher.now c.put_mark.new.hasher _ c.from_residual.result c.from_residual.ensures.0
    (first_fails _ _ _ _ _ c.in_err-put_mark.ensures.written)

pub returns-in_err-put_mark-2-clause-written : goal.returns-in_err-put_mark-2-clause-written
returns-in_err-put_mark-2-clause-written g c =
    failed (g.W.Sink.contents c.args.device.now) (g.W.Sink.contents c.put_mark-2.new.device) (g.W.Sink.has_failed c.put_mark-2.new.device) c.args.hasher.now c.put_mark-2.new.hasher _ c.from_residual-in_err-put_mark-2.result c.from_residual-in_err-put_mark-2.ensures.0
    (second_fails _ _ _ _ _ _ _ _ _ c.in_ok-put_mark.ensures.written (first_fails _ _ _ _ _ c.in_err-put_mark-2.ensures.written))

pub returns-in_err-put_mark-3-clause-written : goal.returns-in_err-put_mark-3-clause-written
returns-in_err-put_mark-3-clause-written g c =
    failed (g.W.Sink.contents c.args.device.now) (g.W.Sink.contents c.put_mark-3.new.device) (g.W.Sink.has_failed c.put_mark-3.new.device) c.args.hasher.now c.put_mark-3.new.hasher _ c.from_residual-in_err-put_mark-3.result c.from_residual-in_err-put_mark-3.ensures.0
    (second_fails _ _ _ _ _ _ _ _ _ c.in_ok-put_mark.ensures.written (second_fails _ _ _ _ _ _ _ _ _ c.in_ok-put_mark-2.ensures.written (first_fails _ _ _ _ _ c.in_err-put_mark-3.ensures.written)))

pub returns-in_err-put_mark-4-clause-written : goal.returns-in_err-put_mark-4-clause-written
returns-in_err-put_mark-4-clause-written g c =
    failed (g.W.Sink.contents c.args.device.now) (g.W.Sink.contents c.put_mark-4.new.device) (g.W.Sink.has_failed c.put_mark-4.new.device) c.args.hasher.now c.put_mark-4.new.hasher _ c.from_residual-in_err-put_mark-4.result c.from_residual-in_err-put_mark-4.ensures.0
    (second_fails _ _ _ _ _ _ _ _ _ c.in_ok-put_mark.ensures.written (second_fails _ _ _ _ _ _ _ _ _ c.in_ok-put_mark-2.ensures.written (second_fails _ _ _ _ _ _ _ _ _ c.in_ok-put_mark-3.ensures.written (first_fails _ _ _ _ _ c.in_err-put_mark-4.ensures.written))))

pub returns-in_err-put_mark-5-clause-written : goal.returns-in_err-put_mark-5-clause-written
returns-in_err-put_mark-5-clause-written g c =
    failed (g.W.Sink.contents c.args.device.now) (g.W.Sink.contents c.put_mark-5.new.device) (g.W.Sink.has_failed c.put_mark-5.new.device) c.args.hasher.now c.put_mark-5.new.hasher _ c.from_residual-in_err-put_mark-5.result c.from_residual-in_err-put_mark-5.ensures.0
    (second_fails _ _ _ _ _ _ _ _ _ c.in_ok-put_mark.ensures.written (second_fails _ _ _ _ _ _ _ _ _ c.in_ok-put_mark-2.ensures.written (second_fails _ _ _ _ _ _ _ _ _ c.in_ok-put_mark-3.ensures.written (second_fails _ _ _ _ _ _ _ _ _ c.in_ok-put_mark-4.ensures.written (first_fails _ _ _ _ _ c.in_err-put_mark-5.ensures.written)))))

pub returns-in_err-put_mark-6-clause-written : goal.returns-in_err-put_mark-6-clause-written
returns-in_err-put_mark-6-clause-written g c =
    failed (g.W.Sink.contents c.args.device.now) (g.W.Sink.contents c.put_mark-6.new.device) (g.W.Sink.has_failed c.put_mark-6.new.device) c.args.hasher.now c.put_mark-6.new.hasher _ c.from_residual-in_err-put_mark-6.result c.from_residual-in_err-put_mark-6.ensures.0
    (second_fails _ _ _ _ _ _ _ _ _ c.in_ok-put_mark.ensures.written (second_fails _ _ _ _ _ _ _ _ _ c.in_ok-put_mark-2.ensures.written (second_fails _ _ _ _ _ _ _ _ _ c.in_ok-put_mark-3.ensures.written (second_fails _ _ _ _ _ _ _ _ _ c.in_ok-put_mark-4.ensures.written (second_fails _ _ _ _ _ _ _ _ _ c.in_ok-put_mark-5.ensures.written (first_fails _ _ _ _ _ c.in_err-put_mark-6.ensures.written))))))

pub returns-in_err-put_mark-7-clause-written : goal.returns-in_err-put_mark-7-clause-written
returns-in_err-put_mark-7-clause-written g c =
    failed (g.W.Sink.contents c.args.device.now) (g.W.Sink.contents c.put_mark-7.new.device) (g.W.Sink.has_failed c.put_mark-7.new.device) c.args.hasher.now c.put_mark-7.new.hasher _ c.from_residual-in_err-put_mark-7.result c.from_residual-in_err-put_mark-7.ensures.0
    (second_fails _ _ _ _ _ _ _ _ _ c.in_ok-put_mark.ensures.written (second_fails _ _ _ _ _ _ _ _ _ c.in_ok-put_mark-2.ensures.written (second_fails _ _ _ _ _ _ _ _ _ c.in_ok-put_mark-3.ensures.written (second_fails _ _ _ _ _ _ _ _ _ c.in_ok-put_mark-4.ensures.written (second_fails _ _ _ _ _ _ _ _ _ c.in_ok-put_mark-5.ensures.written (second_fails _ _ _ _ _ _ _ _ _ c.in_ok-put_mark-6.ensures.written (first_fails _ _ _ _ _ c.in_err-put_mark-7.ensures.written)))))))

pub returns-in_err-put_mark-8-clause-written : goal.returns-in_err-put_mark-8-clause-written
returns-in_err-put_mark-8-clause-written g c =
    failed (g.W.Sink.contents c.args.device.now) (g.W.Sink.contents c.put_mark-8.new.device) (g.W.Sink.has_failed c.put_mark-8.new.device) c.args.hasher.now c.put_mark-8.new.hasher _ c.from_residual-in_err-put_mark-8.result c.from_residual-in_err-put_mark-8.ensures.0
    (second_fails _ _ _ _ _ _ _ _ _ c.in_ok-put_mark.ensures.written (second_fails _ _ _ _ _ _ _ _ _ c.in_ok-put_mark-2.ensures.written (second_fails _ _ _ _ _ _ _ _ _ c.in_ok-put_mark-3.ensures.written (second_fails _ _ _ _ _ _ _ _ _ c.in_ok-put_mark-4.ensures.written (second_fails _ _ _ _ _ _ _ _ _ c.in_ok-put_mark-5.ensures.written (second_fails _ _ _ _ _ _ _ _ _ c.in_ok-put_mark-6.ensures.written (second_fails _ _ _ _ _ _ _ _ _ c.in_ok-put_mark-7.ensures.written c.in_err-put_mark-8.ensures.written)))))))

pub returns-clause-written : goal.returns-clause-written
returns-clause-written g c = (both _ _ _ _ _ _ _ _ _ _ c.in_ok-put_mark.ensures.written (both _ _ _ _ _ _ _ _ _ _ c.in_ok-put_mark-2.ensures.written (both _ _ _ _ _ _ _ _ _ _ c.in_ok-put_mark-3.ensures.written (both _ _ _ _ _ _ _ _ _ _ c.in_ok-put_mark-4.ensures.written (both _ _ _ _ _ _ _ _ _ _ c.in_ok-put_mark-5.ensures.written (both _ _ _ _ _ _ _ _ _ _ c.in_ok-put_mark-6.ensures.written (both _ _ _ _ _ _ _ _ _ _ c.in_ok-put_mark-7.ensures.written c.in_ok-put_mark-8.ensures.written)))))))

use Rattle.std.proofs.Common.{arith, refl}
use Rattle.checkpoint_file.proofs.LineLemmas.{register_step, registers_end}
use Rattle.checkpoint_file.proofs.WrittenLemmas.{failed, front_all, front_fails, front_more, front_none}
use Rattle.checkpoint_file.proofs.writing.contexts.put_registers.Goals as goal

pub loop-number-init : goal.loop-number-init
loop-number-init g c = record { wrote = front_none _ _ _ _ c.requires; name = refl }

pub returns-in_err-put_register-clause-written : goal.returns-in_err-put_register-clause-written
returns-in_err-put_register-clause-written g c =
    failed (g.W.Sink.contents c.args.device.now) (g.W.Sink.contents c.put_register.new.device) (g.W.Sink.has_failed c.put_register.new.device) c.args.hasher.now c.put_register.new.hasher _
    c.from_residual.result c.from_residual.ensures.0
    (front_fails _ _ _ _ _ _ _ _ _ _ _ (register_step c.args.registers.now c.loop-number.number (omega arith)) c.loop-number.invariant.wrote c.in_err-put_register.ensures.written)

pub loop-number-preserved : goal.loop-number-preserved
loop-number-preserved g c = record {
  wrote = front_more _ _ _ _ _ _ _ _ _ _ _ _ (register_step c.args.registers.now c.loop-number.number (omega arith)) c.loop-number.invariant.wrote c.in_ok-put_register.ensures.written;
  name = cc;
}

pub returns-clause-written : goal.returns-clause-written
returns-clause-written g c = front_all _ _ _ _ _ _ _ (registers_end c.args.registers.now c.loop-number.number (omega arith)) c.loop-number.invariant.wrote

use Rattle.std.proofs.Common.{arith}
use Rattle.std.proofs.lemmas.Grind.{common_steps}
use Rattle.checkpoint_file.proofs.PutOneMore.{has_put_more}
use Rattle.checkpoint_file.proofs.device.sink.put_all.Goals as goal

pub loop-rest-preserved : goal.loop-rest-preserved
loop-rest-preserved g c =
    let told = c.in-Ok.ensures in
    record {
      put = has_put_more (g.W.Sink.contents c.args.device.now) (g.W.Sink.contents c.loop-rest.device) (g.W.Sink.contents c.put.new.self) c.args.bytes.now c.loop-rest.rest.now _ c.in-Ok.taken told.bound (grind (arith, common_steps)) told.bytes c.loop-rest.invariant.put;
      works = grind (arith, common_steps, told.failed, c.loop-rest.invariant.works);
      name = grind (arith, common_steps, told.name, c.loop-rest.invariant.name);
    }

pub returns-in-Ok-eq0-clause-ok : goal.returns-in-Ok-eq0-clause-ok
returns-in-Ok-eq0-clause-ok g c = tt

pub returns-in-Ok-eq0-clause-works : goal.returns-in-Ok-eq0-clause-works
returns-in-Ok-eq0-clause-works g c = tt

pub returns-in-Ok-eq0-2-clause-ok : goal.returns-in-Ok-eq0-2-clause-ok
returns-in-Ok-eq0-2-clause-ok g c = tt

pub returns-in-Ok-eq0-2-clause-works : goal.returns-in-Ok-eq0-2-clause-works
returns-in-Ok-eq0-2-clause-works g c = tt

use Rattle.std.proofs.Common.{arith}
use Rattle.worker_pool.proofs.worker.run_kit.Goals as goal

pub loop-preserved : goal.loop-preserved
loop-preserved g c = record {
  did = c.run_next-next.ensures.did c.args.kit c.loop.invariant.did;
  few = (let a = c.run_next-next.ensures.few in let b = c.loop.invariant.few in omega arith);
}

pub returns-then-not-more : goal.returns-then-not-more
returns-then-not-more g c = c.run_next-next.ensures.did c.args.kit c.loop.invariant.did

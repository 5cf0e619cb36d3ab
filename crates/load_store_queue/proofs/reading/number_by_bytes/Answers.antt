use Rattle.std.proofs.Common.{◌+◌, ◌∙◌, arith}
use Rattle.load_store_queue.proofs.Numbers.{number_none, number_more}
use Rattle.load_store_queue.proofs.reading.number_by_bytes.Goals as goal

pub loop-offset-init : goal.loop-offset-init
loop-offset-init g c = record {
  within = omega arith;
  read = number_none c.args.memory.now (c.args.span.address + c.args.span.size) c.args.span.size;
}

pub loop-offset-preserved : goal.loop-offset-preserved
loop-offset-preserved g c = record {
  within = omega (arith, c.loop-offset.invariant.within);
  read = number_more c.args.memory.now c.args.span.address c.args.span.size c.loop-offset.offset c.from.result c.loop-offset.number c.byte_past-byte.ensures.bytes c.loop-offset-test.true c.loop-offset.invariant.within c.requires (c.from.ensures ∙ c.byte_past-byte.ensures.value) (c.loop-offset.invariant.read);
}

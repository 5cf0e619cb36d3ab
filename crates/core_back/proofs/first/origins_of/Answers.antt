use Rattle.std.specs.Arc.{arc_value}
use Rattle.core_back.proofs.FirstMachine.{origins_at}
use Rattle.core_back.proofs.first.origins_of.Goals as goal

pub returns : goal.returns
returns g c = origins_at arc_value _ c.args.marks.now c.in_ok-origin_of.ensures c.in_ok-origin_of-2.ensures c.in_ok-origin_of-3.ensures c.in_ok-origin_of-4.ensures c.in_ok-origin_of-5.ensures c.in_ok-origin_of-6.ensures c.in_ok-origin_of-7.ensures c.in_ok-origin_of-8.ensures

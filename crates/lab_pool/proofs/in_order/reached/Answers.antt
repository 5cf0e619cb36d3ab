use Rattle.lab_pool.proofs.ClosedPlans.{each_reached}
use Rattle.lab_pool.proofs.in_order.reached.Goals as goal

pub returns : goal.returns
returns c =
    each_reached c.args.marks.now (_, c.state-c0.ensures) (_, c.state-c1.ensures) (_, c.state-c2.ensures) (_, c.state-c3.ensures)
    (_, c.state-c4.ensures) (_, c.state-c5.ensures) (_, c.state-c6.ensures) (_, c.state-c7.ensures)

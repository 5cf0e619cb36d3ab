use Rattle.data_flow.proofs.Starts.{starts}
use Rattle.data_flow.proofs.data_flow.DataFlow.new.Goals as goal

pub invariant_of-result : goal.invariant_of-result
invariant_of-result g c =
    let k = starts c.in-Ok.registers c.first_lists.result c.new-2.result c.args.extra c.args.room c.args.places c.in-Ok.ensures.made c.first_lists.ensures c.new-2.ensures in
    record { file = c.in-Ok.ensures.made.file; tied = k.tied; waiting = k.waiting }

pub returns : goal.returns
returns g c = (starts c.in-Ok.registers c.first_lists.result c.new-2.result c.args.extra c.args.room c.args.places c.in-Ok.ensures.made c.first_lists.ensures c.new-2.ensures).shows

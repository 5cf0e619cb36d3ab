use Rattle.lab_plan.proofs.Items.{item_found}
use Rattle.lab_plan.proofs.lookups.item_at.Goals as goal

pub returns : goal.returns
returns c = item_found c.get.result c.args.values.now c.args.place c.get.ensures.lookup.3 c.get.ensures.lookup.1

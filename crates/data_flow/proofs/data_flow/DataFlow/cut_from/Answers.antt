use Rattle.std.proofs.Common.{arith}
use Rattle.data_flow.proofs.Cuts.{drops, dropped, cut_shows}
use Rattle.data_flow.proofs.data_flow.DataFlow.cut_from.Goals as goal

pub invariant_of-self : goal.invariant_of-self
invariant_of-self g c = record {
  file = c.self.invariant.file;
  tied = c.self.invariant.tied;
  waiting = (drops c.self.inside c.args.context c.args.stamp c.drop_from.new.self c.self.invariant c.drop_from.ensures).waiting;
}

pub keep_oldest-requires-clause-within : goal.keep_oldest-requires-clause-within
keep_oldest-requires-clause-within g c = (dropped c.self.inside c.args.self.now c.args.context c.args.stamp c.args.left c.drop_from.new.self c.self.view_is c.self.invariant (omega arith) c.requires c.drop_from.ensures).within

pub keep_oldest-requires-clause-idle : goal.keep_oldest-requires-clause-idle
keep_oldest-requires-clause-idle g c = (dropped c.self.inside c.args.self.now c.args.context c.args.stamp c.args.left c.drop_from.new.self c.self.view_is c.self.invariant (omega arith) c.requires c.drop_from.ensures).idle

pub returns : goal.returns
returns g c = cut_shows c.self.inside c.args.self.now c.keep_oldest.new.self c.args.context c.args.stamp c.args.left c.drop_from.new.self c.self.view_is c.self.invariant (omega arith) c.requires c.drop_from.ensures c.keep_oldest.ensures

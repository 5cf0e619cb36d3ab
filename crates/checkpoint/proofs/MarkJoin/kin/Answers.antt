use Rattle.checkpoint.proofs.MarkLemmas.{kin_along, tested}
use Rattle.checkpoint.proofs.MarkJoin.kin.Goals as goal

pub returns-then-same_origin : goal.returns-then-same_origin
returns-then-same_origin g c = kin_along c.args.self.now c.args.other.now (tested c.if-same_origin.ensures) c.same_context.ensures

use Rattle.std.proofs.Common.{ap, ◌∙◌}
use Rattle.std.proofs.lemmas.Result.{IfOk-weaker}
use Rattle.checkpoint.specs.MarkValue.{state_of}
use Rattle.checkpoint.proofs.Mark.try_clone.Goals as goal

pub sharing-requires-clause-reached : goal.sharing-requires-clause-reached
sharing-requires-clause-reached g c = ap state_of c.self.view_is ∙ c.in_ok-hart.ensures.ok

pub returns-clause-ok : goal.returns-clause-ok
returns-clause-ok g c = IfOk-weaker c.sharing.result _ _ (λ mark e. e ∙ c.self.view_is) c.sharing.ensures.ok

use Rattle.join_law.proofs.context.Ctx.index.Goals as goal

pub returns-clause-value : goal.returns-clause-value
returns-clause-value c = c.self.view_is

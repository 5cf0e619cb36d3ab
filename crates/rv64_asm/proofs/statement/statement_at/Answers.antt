use Rattle.rv64_asm.proofs.statement.statement_at.Goals as goal

pub returns : goal.returns
returns c = rw (← c.split_line.ensures) c.body_of.ensures

use Rattle.core_back.proofs.completing.may_have_more.Goals as goal

pub returns-then-completed-ne0-clause-none : goal.returns-then-completed-ne0-clause-none
returns-then-completed-ne0-clause-none g c none some = c.may_be_due.ensures none

use Rattle.core_context.proofs.events.issue.Goals as goal

pub issue_searched-requires-clause-issuable : goal.issue_searched-requires-clause-issuable
issue_searched-requires-clause-issuable g c = c.waits_searched.ensures.issuable c.if-waits_searched.false

pub returns-in_default-clause-issued : goal.returns-in_default-clause-issued
returns-in_default-clause-issued g c = c.issue_searched.ensures

pub returns-then-waits_searched-clause-waits : goal.returns-then-waits_searched-clause-waits
returns-then-waits_searched-clause-waits g c none = c.waits_searched.ensures.waits c.if-waits_searched.true

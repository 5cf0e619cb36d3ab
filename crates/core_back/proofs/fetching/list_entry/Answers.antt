use Rattle.core_back.proofs.fetching.list_entry.Goals as goal

pub returns-clause-listed : goal.returns-clause-listed
returns-clause-listed g c = c.push.ensures.items

pub returns-clause-long : goal.returns-clause-long
returns-clause-long g c = c.push.ensures.len

use Rattle.core_back.proofs.fetching.fetch_listed.Goals as goal

pub fetch-requires-clause-pc : goal.fetch-requires-clause-pc
fetch-requires-clause-pc g c = c.requires.pc

pub returns-clause-listed : goal.returns-clause-listed
returns-clause-listed g c = c.list_entry.ensures.listed

use Rattle.paged_memory.proofs.Accesses.{fetch_ok, fetch_refused}
use Rattle.paged_memory.proofs.reading.fetch.Goals as goal

pub returns-in_default : goal.returns-in_default
returns-in_default c = fetch_refused c.args.text c.args.pages.now c.args.address c.requires.sized c.in_default.ensures.missing

pub returns : goal.returns
returns c =
    fetch_ok c.args.text c.args.pages.now c.args.address c.in-Some.place c.word.result c.index-pages-place.result c.requires.sized c.in-Some.ensures.found.0 c.in-Some.ensures.found.1 c.index-pages-place.is c.requires.aligned c.word.ensures

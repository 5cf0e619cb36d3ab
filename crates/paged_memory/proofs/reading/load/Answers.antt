use Rattle.std.proofs.Common.{rules, sym}
use Rattle.paged_memory.proofs.Accesses.{load_ok, load_unmapped}
use Rattle.paged_memory.proofs.reading.load.Goals as goal

pub returns-in_default : goal.returns-in_default
returns-in_default c =
    load_unmapped c.args.text c.args.pages.now c.args.address c.args.width c.requires (sym c.in_default.ensures.place) (search rules)

pub returns : goal.returns
returns c =
    load_ok c.args.text c.args.pages.now c.args.address c.in-Some.place c.number.result c.index-pages-place.result c.args.width c.requires (sym c.in-Some.ensures.place) c.in-Some.ensures.listed c.index-pages-place.is (search rules) c.number.ensures

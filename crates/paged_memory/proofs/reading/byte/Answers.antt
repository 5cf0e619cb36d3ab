use Rattle.std.proofs.Common.{sym}
use Rattle.paged_memory.proofs.Bytes.{byte_ok, byte_unmapped}
use Rattle.paged_memory.proofs.reading.byte.Goals as goal

pub returns-in-None : goal.returns-in-None
returns-in-None c = byte_unmapped c.args.text c.args.pages.now c.args.address c.requires (sym c.in-None.ensures.place)

pub returns-in-Some : goal.returns-in-Some
returns-in-Some c =
    byte_ok c.args.text c.args.pages.now c.args.address c.in-Some.place c.byte.result c.index-pages-place.result c.requires (sym c.in-Some.ensures.place) c.in-Some.ensures.listed c.index-pages-place.is c.byte.ensures

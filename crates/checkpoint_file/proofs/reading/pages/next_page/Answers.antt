use Rattle.std.proofs.Common.{rules, arith}
use Rattle.paged_memory.specs.Pages.{PageValue}
use Rattle.checkpoint_file.specs.Contexts.{FitsPage}
use Rattle.checkpoint_file.proofs.PageLemmas.{first_page, one_more, carried, is_shorter}
use Rattle.checkpoint_file.proofs.reading.pages.next_page.Goals as goal

pub returns-then-from-least : goal.returns-then-from-least
returns-then-from-least c rest stop h =
    let b = first_page c.args.least c.args.bytes.now rest c.in-Some.place.now c.in-Some.ensures.found stop h in
    let read = c.in-Some-page_line_at.ensures.only b.page.address b.page.bytes b.next b.fits.address b.fits.bytes b.parts in
    omega (arith, read.0, b.fits.from_least, c.if-from-least.true, c.from.ensures)

pub returns-else-from-least : goal.returns-else-from-least
returns-else-from-least c =
    let address = c.in-Some-page_line_at.address in
    let next = c.in-Some-page_line_at.rest.now in
    let page : PageValue = record { address = address; bytes = c.page_line_at.new.room.bytes } in
    let fits : FitsPage c.args.least page = record { from_least = omega (arith, c.if-from-least.false, c.from.ensures); address = search rules; bytes = c.in-Some-page_line_at.ensures.fits } in
    record {
      back = λ rest h. one_more c.args.least page c.args.bytes.now next rest
          fits c.in-Some-page_line_at.ensures.found h;
      on = λ rest stop h.
          let b = first_page c.args.least c.args.bytes.now rest c.in-Some.place.now c.in-Some.ensures.found stop h in
          let read = c.in-Some-page_line_at.ensures.only b.page.address b.page.bytes b.next b.fits.address b.fits.bytes b.parts in
          carried address b.page.address next b.next rest read.0 read.2 b.others;
      shorter = is_shorter page c.args.bytes.now next c.in-Some-page_line_at.ensures.found;
    }

pub returns-in-None-page_line_at : goal.returns-in-None-page_line_at
returns-in-None-page_line_at c rest stop h =
    let b = first_page c.args.least c.args.bytes.now rest c.in-Some.place.now c.in-Some.ensures.found stop h in
    c.in-None-page_line_at.ensures.only b.page.address b.page.bytes b.next b.fits.address b.fits.bytes b.parts

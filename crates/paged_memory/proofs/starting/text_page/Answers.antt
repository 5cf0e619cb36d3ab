use Rattle.std.proofs.Common.{◌+◌, ◌*◌, rules, arith, refl}
use Rattle.paged_memory.specs.Regions.{text_start}
use Rattle.paged_memory.specs.Start.{text_byte}
use Rattle.paged_memory.proofs.Filled.{filled_blank, filled_more, filled_page, word_bytes, no_word}
use Rattle.paged_memory.proofs.starting.text_page.Goals as goal

pub loop-i-init : goal.loop-i-init
loop-i-init c = filled_blank text_start (text_byte c.args.words.now) c.args.p 4096 _ c.blank-page.ensures.address c.blank-page.ensures.bytes refl

pub loop-i-preserved : goal.loop-i-preserved
loop-i-preserved c =
    filled_more text_start (text_byte c.args.words.now) c.args.p (4 * c.loop-i.i) 4 (4 * (c.loop-i.i + 1)) c.loop-i.page _ c.from.result c.loop-i.invariant (omega arith) (omega arith) (word_bytes c.args.words.now c.args.p c.loop-i.i c.from.result (search rules)) c.put.ensures

pub returns : goal.returns
returns c =
    filled_page text_start (text_byte c.args.words.now) c.args.p (4 * c.loop-i.i) c.loop-i.page c.loop-i.invariant (λ j from under. no_word c.args.words.now c.args.p c.loop-i.i (omega arith) j from)

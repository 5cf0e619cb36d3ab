use Rattle.std.proofs.Common.{◌+◌, ◌*◌, rules, arith, refl}
use Rattle.paged_memory.specs.Regions.{data_start}
use Rattle.paged_memory.specs.Start.{data_byte}
use Rattle.paged_memory.proofs.Filled.{filled_blank, filled_more, filled_page, data_bytes, no_data}
use Rattle.paged_memory.proofs.starting.data_page.Goals as goal

pub loop-i-init : goal.loop-i-init
loop-i-init c = filled_blank data_start (data_byte c.args.bytes.now) c.args.p 4096 _ c.blank-page.ensures.address c.blank-page.ensures.bytes refl

pub loop-i-preserved : goal.loop-i-preserved
loop-i-preserved c =
    filled_more data_start (data_byte c.args.bytes.now) c.args.p (c.loop-i.i) 1 (c.loop-i.i + 1) c.loop-i.page _ c.from.result c.loop-i.invariant (omega arith) (omega arith) (data_bytes c.args.bytes.now c.args.p c.loop-i.i c.from.result (search rules) (omega (arith, c.type_inv.bytes (4096 * c.args.p + c.loop-i.i)))) c.put.ensures

pub returns : goal.returns
returns c =
    filled_page data_start (data_byte c.args.bytes.now) c.args.p (c.loop-i.i) c.loop-i.page c.loop-i.invariant (λ j from under. no_data c.args.bytes.now c.args.p c.loop-i.i (omega arith) j from)

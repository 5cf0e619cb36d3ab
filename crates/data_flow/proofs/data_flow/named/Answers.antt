use Rattle.std.proofs.Common.{refl, ap, ◌∙◌}
use Rattle.rename_file.specs.File.{bank, mapped}
use Rattle.data_flow.proofs.data_flow.named.Goals as goal

pub returns-clause-new : goal.returns-clause-new
returns-clause-new g c = record {
  operands = refl;
  first = c.source-first.ensures.source ∙ ap (mapped (bank c.args.registers.now c.args.context)) c.index.ensures.same;
  second = c.source-second.ensures.source ∙ ap (mapped (bank c.args.registers.now c.args.context)) c.index-2.ensures.same;
  first_cell = c.source-first.ensures.bound;
  second_cell = c.source-second.ensures.bound;
  first_narrow = rw (← c.index.ensures.same) c.index.ensures.in_range;
  second_narrow = rw (← c.index-2.ensures.same) c.index-2.ensures.in_range;
  destination_narrow = c.rename_in-destination.ensures.narrow;
}

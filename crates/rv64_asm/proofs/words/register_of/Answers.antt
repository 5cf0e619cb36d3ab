use Rattle.std.proofs.Common.{Some, sym, ap, ◌∙◌}
use Rattle.rv64_asm.proofs.Tables.{register_below}
use Rattle.rv64_asm.proofs.words.register_of.Goals as goal

pub returns-in_err-index : goal.returns-in_err-index
returns-in_err-index c = c.from_residual.ensures ∙ sym c.in_err-index.was ∙ c.register_number.ensures

pub new-requires : goal.new-requires
new-requires c = register_below c.args.word.now c.in_ok-index.index (sym c.register_number.ensures ∙ c.in_ok-index.was)

pub returns : goal.returns
returns c = ap Some c.new.ensures ∙ sym c.in_ok-index.was ∙ c.register_number.ensures

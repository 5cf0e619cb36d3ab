use Rattle.std.specs.Str.Lines.{lines}
use Rattle.rv64_asm.specs.Assembled.{IsRefusal}
use Rattle.rv64_asm.proofs.Passed.{holds_of_passed}
use Rattle.rv64_asm.proofs.Refusals.{own, target}
use Rattle.rv64_asm.proofs.assembly.assemble.Goals as goal

pub returns-in_err-labels-clause-refused : goal.returns-in_err-labels-clause-refused
returns-in_err-labels-clause-refused g c = holds_of_passed (IsRefusal (lines c.args.text.now)) c.from_residual.result c.in_err-labels.field-0.0 c.from_residual.ensures (own (lines c.args.text.now) c.in_err-labels.field-0.0 c.in_err-labels.ensures.refused)

pub returns-in_err-program-clause-refused : goal.returns-in_err-program-clause-refused
returns-in_err-program-clause-refused g c = holds_of_passed (IsRefusal (lines c.args.text.now)) c.from_residual-in_err-program.result c.in_err-program.field-0.0 c.from_residual-in_err-program.ensures (target (lines c.args.text.now) c.in_err-program.field-0.0 c.in_err-program.ensures.refused)

pub returns-clause-refused : goal.returns-clause-refused
returns-clause-refused g c = tt

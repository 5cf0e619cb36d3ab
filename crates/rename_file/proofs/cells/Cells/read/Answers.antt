use Rattle.std.proofs.Common.{Some, refl, ap, arith}
use Rattle.std.proofs.lemmas.List.{get_or_read}
use Rattle.rename_file.proofs.Valued.{in_values, is_cell}
use Rattle.rename_file.proofs.cells.Cells.read.Goals as goal

pub bounds-self-inside-number : goal.bounds-self-inside-number
bounds-self-inside-number g c = omega (arith, in_values c.self.inside.values.items c.self.inside.busy c.args.self.now c.self.view_is c.self.invariant.0 c.self.invariant.1 c.args.number c.requires, c.self.invariant.0)

pub index-requires : goal.index-requires
index-requires g c = omega (arith, in_values c.self.inside.values.items c.self.inside.busy c.args.self.now c.self.view_is c.self.invariant.0 c.self.invariant.1 c.args.number c.requires, c.self.inside.values.ok.0)

pub returns-else-self-number : goal.returns-else-self-number
returns-else-self-number g c = rw (← is_cell c.self.inside.values.items c.self.inside.busy c.args.self.now c.self.view_is c.self.invariant.0 c.self.invariant.1 c.args.number c.requires, c.if-self-number.false) (ap Some (get_or_read c.self.inside.values.items c.args.number c.index.result.now (in_values c.self.inside.values.items c.self.inside.busy c.args.self.now c.self.view_is c.self.invariant.0 c.self.invariant.1 c.args.number c.requires) c.index.ensures 0))

pub returns-then-self-number : goal.returns-then-self-number
returns-then-self-number g c = rw (← is_cell c.self.inside.values.items c.self.inside.busy c.args.self.now c.self.view_is c.self.invariant.0 c.self.invariant.1 c.args.number c.requires, c.if-self-number.true) refl

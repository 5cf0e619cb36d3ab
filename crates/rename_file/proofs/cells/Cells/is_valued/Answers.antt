use Rattle.std.proofs.Common.{arith}
use Rattle.rename_file.proofs.Valued.{in_values, is_valued}
use Rattle.rename_file.proofs.cells.Cells.is_valued.Goals as goal

pub bounds-self-inside-number : goal.bounds-self-inside-number
bounds-self-inside-number g c = omega (arith, in_values c.self.inside.values.items c.self.inside.busy c.args.self.now c.self.view_is c.self.invariant.0 c.self.invariant.1 c.args.number c.requires, c.self.invariant.0)

pub returns : goal.returns
returns g c = is_valued c.self.inside.values.items c.self.inside.busy c.args.self.now c.self.view_is c.self.invariant.0 c.self.invariant.1 c.args.number c.requires

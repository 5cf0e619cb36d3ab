use Rattle.std.proofs.Common.{arith}
use Rattle.rename_file.proofs.Valued.{in_values, written}
use Rattle.rename_file.proofs.cells.Cells.write.Goals as goal

pub bounds-self-inside-number : goal.bounds-self-inside-number
bounds-self-inside-number g c = omega (arith, in_values c.self.inside.values.items c.self.inside.busy c.args.self.now c.self.view_is c.self.invariant.0 c.self.invariant.1 c.args.number c.requires, c.self.invariant.0)

pub index_mut-requires : goal.index_mut-requires
index_mut-requires g c = omega (arith, in_values c.self.inside.values.items c.self.inside.busy c.args.self.now c.self.view_is c.self.invariant.0 c.self.invariant.1 c.args.number c.requires, c.self.inside.values.ok.0)

pub returns : goal.returns
returns g c = written c.self.inside.values.items c.self.inside.busy c.args.self.now c.self.view_is c.self.invariant.0 c.self.invariant.1 c.args.number c.args.value

use Rattle.std.proofs.Common.{arith}
use Rattle.rename_file.proofs.Valued.{in_values, cleared, kept}
use Rattle.rename_file.proofs.cells.Cells.mark.Goals as goal

pub bounds-self-inside-number : goal.bounds-self-inside-number
bounds-self-inside-number g c = omega (arith, in_values c.self.inside.values.items c.self.inside.busy c.args.self.now c.self.view_is c.self.invariant.0 c.self.invariant.1 c.args.number c.requires.known, c.self.invariant.0)

pub returns-clause-busy : goal.returns-clause-busy
returns-clause-busy g c = λ busy. rw busy (cleared c.self.inside.values.items c.self.inside.busy c.args.self.now c.self.view_is c.self.invariant.0 c.self.invariant.1 c.args.number)

pub returns-clause-valued : goal.returns-clause-valued
returns-clause-valued g c = λ valued. rw valued (kept c.self.inside.values.items c.self.inside.busy c.args.self.now c.self.view_is c.self.invariant.0 c.self.invariant.1 c.args.number c.requires.known (c.requires.valued valued))

use Rattle.std.proofs.Common.{Some, ap, ◌∙◌, arith}
use Rattle.std.proofs.lemmas.List.{get_or_read}
use Rattle.rename_file.proofs.Valued.{in_values, is_value}
use Rattle.rename_file.proofs.cells.Cells.at.Goals as goal

pub index-requires : goal.index-requires
index-requires g c = omega (arith, in_values c.self.inside.values.items c.self.inside.busy c.args.self.now c.self.view_is c.self.invariant.0 c.self.invariant.1 c.args.number c.requires.known, c.self.inside.values.ok.0)

pub returns : goal.returns
returns g c =
    let within = in_values c.self.inside.values.items c.self.inside.busy c.args.self.now c.self.view_is c.self.invariant.0 c.self.invariant.1 c.args.number c.requires.known in
    ap Some (get_or_read c.self.inside.values.items c.args.number c.index.result.now within c.index.ensures 0) ∙ is_value c.self.inside.values.items c.self.inside.busy c.args.self.now c.self.view_is c.self.invariant.0 c.self.invariant.1 c.args.number c.requires.known c.requires.valued

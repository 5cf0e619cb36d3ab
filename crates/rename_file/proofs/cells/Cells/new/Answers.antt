use Rattle.std.proofs.Common.{◌≡◌, replicate, rules, arith}
use Rattle.rename_file.proofs.Valued.{cells_of_zeros}
use Rattle.rename_file.proofs.cells.Cells.new.Goals as goal

pub returns : goal.returns
returns g c =
    let zeros : c.in_ok-vec.field-0.items ≡ replicate c.args.count 0 = search rules in
    rw zeros (cells_of_zeros c.args.count 480 (omega (arith, c.requires)))

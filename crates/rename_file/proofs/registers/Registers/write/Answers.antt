use Rattle.std.proofs.Common.{ap}
use Rattle.rename_file.specs.File.{File}
use Rattle.rename_file.specs.Shown.{shown}
use Rattle.rename_file.proofs.registers.Registers.write.Goals as goal

pub returns-clause-written : goal.returns-clause-written
returns-clause-written g c =
    let f : File = shown c.self.inside in
    let written = rw c.index.ensures.value at c.write.ensures in
    rw (← c.self.view_is) (ap (λ cells. let r : File = record f { cells = cells } in r) written)

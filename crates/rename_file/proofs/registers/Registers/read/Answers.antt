use Rattle.rename_file.proofs.registers.Registers.read.Goals as goal

pub returns : goal.returns
returns g c = rw (← c.self.view_is) (rw c.index.ensures.value at c.at.ensures)

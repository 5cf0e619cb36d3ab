use Rattle.rename_file.proofs.registers.Registers.ready.Goals as goal

pub returns : goal.returns
returns g c = rw (← c.self.view_is) (rw c.index.ensures.value at c.is_valued.ensures)

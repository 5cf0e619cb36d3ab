use Rattle.rename_file.proofs.registers.Registers.free_count.Goals as goal

pub returns : goal.returns
returns g c = rw (← c.self.view_is) c.len.ensures

use Rattle.rv64_asm.proofs.resolving.target_address.Goals as goal

pub returns-in-Label : goal.returns-in-Label
returns-in-Label g c = rw (c.in-Label.is, ← c.address_of.ensures) c.ok_or.ensures.value

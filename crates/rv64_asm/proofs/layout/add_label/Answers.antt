use Rattle.rv64_asm.proofs.layout.add_label.Goals as goal

pub returns-in_ok-insert : goal.returns-in_ok-insert
returns-in_ok-insert g c = rw (c.in-Some.is, ← c.address.ensures) c.in_ok-insert.ensures.added

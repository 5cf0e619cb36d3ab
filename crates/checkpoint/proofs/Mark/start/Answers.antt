use Rattle.std.proofs.Common.{Some, ap, sym}
use Rattle.checkpoint.proofs.Mark.start.Goals as goal

pub sharing-requires-clause-reached : goal.sharing-requires-clause-reached
sharing-requires-clause-reached g c = ap Some (rw (← c.deref.ensures) (sym c.in_ok-hart.ensures.ok))

pub returns-clause-ok : goal.returns-clause-ok
returns-clause-ok g c = c.sharing.ensures.ok

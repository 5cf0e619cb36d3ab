use Rattle.std.proofs.Common.{ap, sym, inl, inr}
use Rattle.lawful_cycle.specs.Delays.{address_of}
use Rattle.entry_stages.proofs.lags.address_of.Goals as goal

pub returns-in-Loads : goal.returns-in-Loads
returns-in-Loads c = elim c.in-Loads.is [ inl load ↦ ap address_of (sym load.1) | inr store ↦ ap address_of (sym store.2) ]

use Rattle.std.proofs.Common.{◌≡◌}
use Rattle.toml.specs.View.{members_view}
use Rattle.core_profile.proofs.FirstFault.{first_met}
use Rattle.core_profile.proofs.table.find_fault.Given as goal

abbrev pub invariant-loop-name : goal.invariant-loop-name
invariant-loop-name g l = first_met (members_view l.name-iterator) ≡ first_met (members_view l.table.entries)

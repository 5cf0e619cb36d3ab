-- Contexts and views are finite data: how they are told by lists and numbers, which the toolchain asks of a value that holds a map.
use Rattle.std.specs.Prelude.{ℕ, List, refl}
use Rattle.std.specs.Coded.{Coded, code_by, coded×, coded_ℕ, coded_list}
use Rattle.hart_step.specs.State.{State}
use Rattle.hart_step.specs.StateCode.{coded_state}
use Rattle.core_profile.specs.declared.profile.Profile.{Profile}
use Rattle.core_profile.specs.contracts.profile.Profile.{the_row as profile_row}
use Rattle.core_view.specs.declared.entry.Entry.{Entry}
use Rattle.core_view.specs.declared.status.Status.{Status}
use Rattle.core_view.specs.contracts.entry.Entry.{the_row as entry_row}
use Rattle.core_view.specs.contracts.status.Status.{the_row as status_row}
use Rattle.core_view.specs.View.{Context, View}

-- a context is told by the tuple of its fields
abbrev pub coded_context : Coded Context
coded_context =
    code_by (Status × (ℕ × (ℕ × (State × List Entry)))) (coded× status_row.coded (coded× coded_ℕ (coded× coded_ℕ (coded× coded_state (coded_list entry_row.coded)))))
    (λ c. (c.status, (c.count, (c.target, (c.state, c.flight))))) (λ p. record { status = p.0; count = p.1.0; target = p.1.1.0; state = p.1.1.1.0; flight = p.1.1.1.1 }) (λ _. refl)

-- so is a view
abbrev pub coded_view : Coded View
coded_view =
    code_by (Profile × (ℕ × (ℕ × List Context))) (coded× profile_row.coded (coded× coded_ℕ (coded× coded_ℕ (coded_list coded_context))))
    (λ v. (v.profile, (v.cycle, (v.stamp, v.contexts)))) (λ p. record { profile = p.0; cycle = p.1.0; stamp = p.1.1.0; contexts = p.1.1.1 }) (λ _. refl)

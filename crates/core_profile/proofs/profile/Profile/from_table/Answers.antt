use Rattle.std.proofs.Common.{◌≡◌, None, Some, ap, sym, ◌∙◌}
use Rattle.toml.specs.View.{table_view}
use Rattle.core_profile.specs.Fields as spec
use Rattle.core_profile.proofs.InRange.{none_outside}
use Rattle.core_profile.proofs.profile.Profile.from_table.Goals as goal

pub returns-in-Err : goal.returns-in-Err
returns-in-Err g c =
    let out : spec.first_outside (spec.fields_at (table_view c.args.table.now)) ≡ None = none_outside (table_view c.args.table.now) c.in_ok-find_fault.ensures in
    let here : spec.first_outside c.fields_at.result ≡ Some c.in-Err.key = c.in-Err.ensures.err in
    let both : None ≡ Some c.in-Err.key = sym out ∙ ap spec.first_outside (sym c.fields_at.ensures) ∙ here in
    absurd cc

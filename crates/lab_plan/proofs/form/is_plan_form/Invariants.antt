use Rattle.std.proofs.Common.{◌≡◌}
use Rattle.toml.specs.View.{members_view}
use Rattle.lab_plan.specs.Form.{all_members, is_plan_member}
use Rattle.lab_plan.proofs.form.is_plan_form.Given as goal

abbrev pub invariant-loop-key : goal.invariant-loop-key
invariant-loop-key l = all_members is_plan_member (members_view l.key-iterator) ≡ all_members is_plan_member (members_view l.table.entries)

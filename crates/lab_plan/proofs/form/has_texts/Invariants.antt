use Rattle.std.proofs.Common.{◌≡◌}
use Rattle.toml.specs.View.{members_view}
use Rattle.lab_plan.specs.Form.{all_members, is_text}
use Rattle.lab_plan.proofs.form.has_texts.Given as goal

abbrev pub invariant-loop-name : goal.invariant-loop-name
invariant-loop-name l = all_members (λ name text. is_text text) (members_view l._name-iterator) ≡ all_members (λ name text. is_text text) (members_view l.table.entries)

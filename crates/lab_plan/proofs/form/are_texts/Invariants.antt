use Rattle.std.proofs.Common.{◌≡◌, drop}
use Rattle.toml.specs.View.{items_view}
use Rattle.lab_plan.specs.Form.{all_items, is_text}
use Rattle.lab_plan.proofs.form.are_texts.Given as goal

abbrev pub invariant-loop-value : goal.invariant-loop-value
invariant-loop-value l = all_items is_text (items_view (drop l.value-index l.values)) ≡ all_items is_text (items_view l.values)

use Rattle.std.proofs.Common.{◌≡◌, drop, not}
use Rattle.std.specs.List.{find}
use Rattle.toml.specs.View.{table_view}
use Rattle.lab_plan.specs.Contexts.{contexts_at, first_unknown, is_known, name_at}
use Rattle.lab_plan.specs.Programs.{programs_at}
use Rattle.lab_plan.proofs.origins.first_unknown.Given as goal

abbrev pub invariant-loop-context : goal.invariant-loop-context
invariant-loop-context l =
    find (λ i. not (is_known (programs_at (table_view l.plan)) (name_at (contexts_at (table_view l.plan)) i))) (drop l.context-index l.context-items) ≡ first_unknown (table_view l.plan)

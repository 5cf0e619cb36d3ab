-- How many entries of a flight complete in a cycle.
use Rattle.std.specs.Prelude.{ℕ, zero, suc, List, [], ◌∷◌, length, take, count_by, is_some}
use Rattle.core_view.specs.declared.entry.Entry.{Entry}
use Rattle.core_view.specs.Events.{due_at, completed_at}
use Rattle.core_view.specs.View.{Context}
use Rattle.lawful_cycle.specs.Complete.{completed_in}

-- of the entries from a place on
abbrev pub to_come : ℕ → ℕ → List Entry → ℕ
to_come cycle zero es = count_by (λ e. is_some (due_at cycle e.stage)) (take (length (completed_at cycle es)) es)
to_come cycle (suc i) [] = 0
to_come cycle (suc i) (e ∷ es) = to_come cycle i es

-- of a context
abbrev pub number_of : ℕ → Context → ℕ
number_of cycle x = completed_in cycle (length (completed_at cycle x.flight)) x

-- How many instructions the first contexts are to retire.
use Rattle.std.proofs.Common.{◌≡◌, ℕ, zero, suc, ◌+◌, ◌-◌, List, refl}
use Rattle.std.specs.Prelude.{slice_index}
use Rattle.core_run.specs.Needed.{left_between}

abbrev pub left_before : ℕ → List ℕ → List ℕ → ℕ
left_before zero starts targets = 0
left_before (suc n) starts targets = left_before n starts targets + (slice_index targets n - slice_index starts n)

pub all_before : (starts targets : List ℕ) → left_before 8 starts targets ≡ left_between starts targets
all_before starts targets = refl

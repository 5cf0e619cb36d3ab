-- The rule of a deque, and what each step does to a pass.
use Rattle.std.specs.Prelude.{◌≡◌, ℕ, ◌+◌, ◌-◌, List, [], ◌++◌}
use Rattle.std.specs.List.{sum_by}
use mathlib.Core.Option.{some}
use lib.ListN.{get_elem?}
use Rattle.worker_pool.specs.declared.hand.Hand.{Hand}

-- into how many parts the right to know the whole is cut. A pass with all of them is the only one that has dealt or taken
abbrev pub whole : ℕ
whole = 128

abbrev pub hand : ℕ → List ℕ → List ℕ → Hand
hand parts dealt taken = record { parts = parts; dealt = dealt; taken = taken }

-- a pass with no part has dealt and taken nothing
abbrev pub IdleIsEmpty : List Hand → Type 0
IdleIsEmpty views = (port : ℕ) (v : Hand) → get_elem? views port ≡ some v → v.parts ≡ 0 → (v.dealt ≡ []) × (v.taken ≡ [])

-- what was dealt weighs as much as what was taken and what the deque holds, whatever the jobs weigh
pub record Balanced (items : List ℕ) (views : List Hand) : Type 0 where
  pub parts : sum_by (λ v. v.parts) views ≡ whole
  pub jobs : (h : ℕ → ℕ) → sum_by (λ v. sum_by h v.dealt) views ≡ sum_by (λ v. sum_by h v.taken) views + sum_by h items
  pub idle : IdleIsEmpty views

-- the pass took jobs
abbrev pub Drawn : Hand → List ℕ → Hand → Type 0
Drawn v xs w = w ≡ hand v.parts v.dealt (v.taken ++ xs)

-- with every part, all that was dealt was taken
abbrev pub AllTaken : Hand → Type 0
AllTaken v = v.parts ≡ whole → (h : ℕ → ℕ) → sum_by h v.taken ≡ sum_by h v.dealt

-- the pass dealt jobs
abbrev pub Put : Hand → List ℕ → Hand → Type 0
Put v xs w = w ≡ hand v.parts (v.dealt ++ xs) v.taken

-- a pass of which one part was cut off
abbrev pub keeps_rest : Hand → Hand
keeps_rest v = hand (v.parts - 1) v.dealt v.taken

-- what was cut off
abbrev pub one_part : Hand → Hand
one_part v = hand 1 [] []

-- two passes in one
abbrev pub both : Hand → Hand → Hand
both v w = hand (v.parts + w.parts) (v.dealt ++ w.dealt) (v.taken ++ w.taken)

-- What the contexts of a new core are to retire.
use Rattle.std.proofs.Common.{◌≡◌, ℕ, ◌+◌, ◌-◌, ◌<◌, ◌≤◌, List, refl, arith}
use Rattle.std.specs.Prelude.{slice_index}
use Rattle.join_law.specs.Eight.{place_of}
use Rattle.join_law.specs.declared.places.Eight.{Eight}
use Rattle.checkpoint.specs.MarkValue.{MarkValue}
use Rattle.core_profile.specs.declared.profile.Profile.{Profile}
use Rattle.lawful_cycle.specs.Views.{context_in}
use Rattle.lawful_cycle.specs.Distance.{left_to_retire}
use Rattle.core_back.specs.Machine.{Machine}
use Rattle.core_back.specs.First.{IsFirst}
use Rattle.core_cycle.proofs.NewCores.{new_count, new_target}
use Rattle.core_run.specs.Needed.{left_between}

module _ (profile : Profile) (marks : Eight MarkValue) (targets : List ℕ) (m : Machine) (first : IsFirst profile marks targets m) where
  abbrev left_in : ℕ → ℕ
  left_in c = (context_in m.view c).target - (context_in m.view c).count

  -- no more than between other starts and targets of which each context is to retire no less
  pub new_left : (starts wanted : List ℕ) → ((c : ℕ) → c < 8 → slice_index targets c - (place_of marks c).count ≤ slice_index wanted c - slice_index starts c) → left_to_retire m.view ≤ left_between starts wanted
  new_left starts wanted le =
      let is : left_to_retire m.view ≡ 0 + left_in 0 + left_in 1 + left_in 2 + left_in 3 + left_in 4 + left_in 5 + left_in 6 + left_in 7 = refl in
      let to : left_between starts wanted ≡ 0 + (slice_index wanted 0 - slice_index starts 0) + (slice_index wanted 1 - slice_index starts 1) + (slice_index wanted 2 - slice_index starts 2) + (slice_index wanted 3 - slice_index starts 3)
      + (slice_index wanted 4 - slice_index starts 4) + (slice_index wanted 5 - slice_index starts 5) + (slice_index wanted 6 - slice_index starts 6) + (slice_index wanted 7 - slice_index starts 7) = refl in
      let l0 = at 0 (omega arith) in
      let l1 = at 1 (omega arith) in
      let l2 = at 2 (omega arith) in
      let l3 = at 3 (omega arith) in
      let l4 = at 4 (omega arith) in
      let l5 = at 5 (omega arith) in
      let l6 = at 6 (omega arith) in
      let l7 = at 7 (omega arith) in
      omega (arith, is, to, l0, l1, l2, l3, l4, l5, l6, l7)
    where
      at : (c : ℕ) → c < 8 → (context_in m.view c).target - (context_in m.view c).count ≤ slice_index wanted c - slice_index starts c
      at c lc = let here = le c lc in let count = new_count profile marks targets m first c lc in let target = new_target profile marks targets m first c lc in omega (arith, here, count, target)

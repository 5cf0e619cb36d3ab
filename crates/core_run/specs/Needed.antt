-- How many cycles suffice for a run.
use Rattle.std.specs.Prelude.{ℕ, ◌+◌, ◌-◌, ◌*◌, List, slice_index, sum_by, Option, Some, None}
use Rattle.core_profile.specs.declared.profile.Profile.{Profile}
use Rattle.core_profile.specs.declared.policy.IssuePolicy.{IssuePolicy}
use Rattle.core_profile.specs.declared.policy.IssuePolicy.TheVariants.{OldestFirst, SpecLast, BranchFirst}
use Rattle.lawful_cycle.specs.Views.{eight}
use Rattle.lawful_cycle.specs.Distance.{stall_bound}

-- the sum of the targets less the starts; a target below its start counts as equal to it
abbrev pub left_between : List ℕ → List ℕ → ℕ
left_between starts targets = sum_by (λ c. slice_index targets c - slice_index starts c) eight

-- no number of cycles suffices for sure under BRANCH_FIRST
abbrev pub unless_branch_first : IssuePolicy → ℕ → Option ℕ
unless_branch_first OldestFirst cycles = Some cycles
unless_branch_first SpecLast cycles = Some cycles
unless_branch_first BranchFirst cycles = None

-- the stall bound, times eight more than there are instructions to retire from these starts to these targets
abbrev pub cycles_needed : Profile → ℕ → List ℕ → List ℕ → Option ℕ
cycles_needed p greatest starts targets = unless_branch_first p.issue (stall_bound p greatest * (left_between starts targets + 8))

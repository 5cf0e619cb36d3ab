-- The names of policies in a profile's text.
use Rattle.std.specs.Prelude.{ℕ, List, [], ◌∷◌, Option, codes, find}
use Rattle.std.specs.Str.{bytes_eq}
use Rattle.core_profile.specs.declared.policy.FetchPolicy.{FetchPolicy}
use Rattle.core_profile.specs.declared.policy.FetchPolicy.TheVariants.{RoundRobin, Icount, Brcount, Misscount, Iqposn}
use Rattle.core_profile.specs.declared.policy.IssuePolicy.{IssuePolicy}
use Rattle.core_profile.specs.declared.policy.IssuePolicy.TheVariants.{OldestFirst, SpecLast, BranchFirst}

-- the name of a fetch policy
abbrev pub fetch_name : FetchPolicy → List ℕ
fetch_name RoundRobin = codes "RR"
fetch_name Icount = codes "ICOUNT"
fetch_name Brcount = codes "BRCOUNT"
fetch_name Misscount = codes "MISSCOUNT"
fetch_name Iqposn = codes "IQPOSN"

-- the fetch policies
abbrev pub fetch_policies : List FetchPolicy
fetch_policies = RoundRobin ∷ Icount ∷ Brcount ∷ Misscount ∷ Iqposn ∷ []

-- the fetch policy of a name
abbrev pub fetch_named : List ℕ → Option FetchPolicy
fetch_named name = find (λ p. bytes_eq (fetch_name p) name) fetch_policies

-- the name of an issue policy
abbrev pub issue_name : IssuePolicy → List ℕ
issue_name OldestFirst = codes "OLDEST_FIRST"
issue_name SpecLast = codes "SPEC_LAST"
issue_name BranchFirst = codes "BRANCH_FIRST"

-- the issue policies
abbrev pub issue_policies : List IssuePolicy
issue_policies = OldestFirst ∷ SpecLast ∷ BranchFirst ∷ []

-- the issue policy of a name
abbrev pub issue_named : List ℕ → Option IssuePolicy
issue_named name = find (λ p. bytes_eq (issue_name p) name) issue_policies

-- The keys of the fetch policies.
use Rattle.std.specs.Prelude.{ℕ, ◌-◌}
use Rattle.std.specs.Option.{option_map_or}
use Rattle.join_law.specs.Eight.{place_of}
use Rattle.core_profile.specs.declared.policy.FetchPolicy.{FetchPolicy}
use Rattle.core_profile.specs.declared.policy.FetchPolicy.TheVariants as profile
use Rattle.fetch_policy.specs.declared.view.FetchView.{FetchView}
use Rattle.fetch_policy.specs.declared.named.NamedPick.{NamedPick}
use Rattle.fetch_policy.specs.declared.named.NamedPick.TheVariants.{RoundRobin, Icount, Brcount, Misscount, Iqposn}

-- RR: all keys are equal
abbrev pub round_robin_key : FetchView → ℕ → ℕ
round_robin_key v c = 0

-- ICOUNT: the context's entries in its front list and in the issue queue
abbrev pub icount_key : FetchView → ℕ → ℕ
icount_key v c = (place_of v.contexts c).entries

-- BRCOUNT: the guessed entries among these
abbrev pub brcount_key : FetchView → ℕ → ℕ
brcount_key v c = (place_of v.contexts c).guessed

-- MISSCOUNT: its issued, uncompleted loads whose delay was a miss
abbrev pub misscount_key : FetchView → ℕ → ℕ
misscount_key v c = (place_of v.contexts c).missed_loads

-- IQPOSN: 0 without an entry in the issue queue, else 64 less the place of its oldest one
abbrev pub iqposn_key : FetchView → ℕ → ℕ
iqposn_key v c = option_map_or (λ place. 64 - place) (place_of v.contexts c).oldest_place 0

-- the key of a named policy
abbrev pub named_key : NamedPick → FetchView → ℕ → ℕ
named_key RoundRobin = round_robin_key
named_key Icount = icount_key
named_key Brcount = brcount_key
named_key Misscount = misscount_key
named_key Iqposn = iqposn_key

-- the policy of a profile's name
abbrev pub named_as : FetchPolicy → NamedPick
named_as profile.RoundRobin = RoundRobin
named_as profile.Icount = Icount
named_as profile.Brcount = Brcount
named_as profile.Misscount = Misscount
named_as profile.Iqposn = Iqposn

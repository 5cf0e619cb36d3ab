-- A legal history at one context, with whose merges are whose: no job starts past the most that is wanted.
use Rattle.std.proofs.Common.{◌≡◌, ℕ, zero, suc, ◌<◌, ◌≤◌, List, [], ◌∷◌, length, get_or, arith, inl, inr}
use Rattle.std.specs.Prelude.{◌⊎◌, max, Contains}
use Rattle.hart_step.specs.State.{State}
use Rattle.lawful_cycle.specs.Plain.{ComesTo}
use Rattle.lawful_cycle.proofs.PlainOutcome.{Reaching, most_wanted, furthest_of, AllReach, NoneStartsPast, best_comes}

-- an event: a job merged where it came to, or a count was read
pub data Event : Type 0 where
  merges : Reaching → Event
  reads : ℕ → Event

abbrev pub merged_in : List Event → List Reaching
merged_in [] = []
merged_in (merges r ∷ es) = r ∷ merged_in es
merged_in (reads n ∷ es) = merged_in es

-- a reading gives the greatest count so far; a job started at the opening, or at a reading before its merge
abbrev pub IsLegal : ℕ → ℕ → List ℕ → List Event → Type 0
IsLegal opening best seen [] = Unit {0}
IsLegal opening best seen (merges r ∷ es) = ((r.start ≡ opening) ⊎ Contains seen r.start) × IsLegal opening (max r.count best) seen es
IsLegal opening best seen (reads n ∷ es) = (n ≡ best) × IsLegal opening best (n ∷ seen) es

abbrev AllBelow : ℕ → List ℕ → Type 0
AllBelow bound ns = (n : ℕ) → Contains ns n → n ≤ bound

more_below : (bound n : ℕ) (ns : List ℕ) → n ≤ bound → AllBelow bound ns → AllBelow bound (n ∷ ns)
more_below bound n ns le h m has = at has.0 has.1 has.2
  where
    at : (k : ℕ) → k < length (n ∷ ns) → get_or (n ∷ ns) k m ≡ m → m ≤ bound
    at zero lt is = let same : n ≡ m = is in omega (arith, le, same)
    at (suc k) lt is = h m (k, omega (arith, lt), is)

none_past : (s : State) (opening bound best : ℕ) (seen : List ℕ) (es : List Event) → opening ≤ bound → best ≤ bound → AllBelow bound seen → most_wanted opening (merged_in es) ≤ bound
    → AllReach s (merged_in es) → IsLegal opening best seen es → NoneStartsPast bound (merged_in es)
none_past s opening bound best seen [] first le below wanted reach legal = tt
none_past s opening bound best seen (reads n ∷ es) first le below wanted reach (is, rest) =
    none_past s opening bound best (n ∷ seen) es first le (more_below bound n seen (omega (arith, le, is)) below) wanted reach rest
none_past s opening bound best seen (merges r ∷ es) first le below wanted (here, others) (from, rest) =
    let start : r.start ≤ bound = elim from [ inl same ↦ omega (arith, same, first) | inr has ↦ below r.start has ] in
    let within = here.within in
    (start, none_past s opening bound (max r.count best) seen es first (omega (arith, le, start, within, wanted)) below (omega (arith, wanted)) others rest)

-- so, whatever the order of the events, the best is as far as plain RV64I comes in the most that is wanted
pub history_comes : (s : State) (opening : ℕ) (es : List Event) → ComesTo s opening opening → AllReach s (merged_in es) → IsLegal opening opening [] es → ComesTo s (most_wanted opening (merged_in es)) (furthest_of opening (merged_in es))
history_comes s opening es first reach legal =
    let low = opening_below opening (merged_in es) in
    best_comes s opening (merged_in es) first reach
    (none_past s opening (most_wanted opening (merged_in es)) opening [] es low low (λ n has. let lt = has.1 in absurd (omega (arith, lt))) (omega arith) reach legal)
  where
    opening_below : (n : ℕ) (rs : List Reaching) → n ≤ most_wanted n rs
    opening_below n [] = omega arith
    opening_below n (r ∷ rs) = let rest = opening_below n rs in omega (arith, rest)

-- A run of lawful cycles from a steady view takes few cycles for what it retires, and ends with a limit for all that is left.
use Rattle.std.proofs.Common.{◌≡◌, ℕ, zero, suc, ◌+◌, ◌-◌, ◌*◌, ◌<◌, ◌≤◌, Bool, true, List, [], ◌∷◌, length, Some, refl, ap, ◌∙◌, arith, inl, inr}
use Rattle.std.specs.Prelude.{◌⊎◌, if◌then◌else◌}
use Rattle.std.proofs.lemmas.Bool.{cases_lt, cases_Bool}
use Rattle.std.proofs.lemmas.List.{nil_from_length}
use Rattle.core_profile.specs.declared.profile.Profile.{Profile}
use Rattle.core_view.specs.declared.entry.Stage.{Stage}
use Rattle.core_view.specs.declared.entry.Stage.TheVariants.{Fetched, Queued, Issued, Done}
use Rattle.core_view.specs.declared.entry.Entry.{Entry}
use Rattle.core_view.specs.declared.note.CycleNote.{CycleNote}
use Rattle.core_view.specs.declared.status.Status.{Status}
use Rattle.core_view.specs.declared.status.Status.TheVariants.{Running, Parked, Stopped}
use Rattle.core_view.specs.View.{Context, View}
use Rattle.lawful_cycle.specs.Views.{context_in, number_in}
use Rattle.lawful_cycle.specs.Retire.{RetiresBy}
use Rattle.lawful_cycle.specs.Fetch.{is_running}
use Rattle.lawful_cycle.specs.Rename.{renamed_context}
use Rattle.lawful_cycle.specs.Cycle.{Laws, IsLawfulCycle}
use Rattle.lawful_cycle.specs.Runs.{Figures, SomeRuns, IsRun, IsRunTo}
use Rattle.lawful_cycle.specs.Stamps.{flight_in}
use Rattle.lawful_cycle.specs.Distance.{stage_wait, front_wait, distance, stall_bound, PutsSureFirst, AreLagsWithin, IsStill, IsSteady, left_to_retire, AreWithinTargets, IsBoundedRun}
use Rattle.lawful_cycle.proofs.SameViews.{renamed_in}
use Rattle.lawful_cycle.proofs.ListsInTurns.{all_of, length_by_context, sums_le, all_less}
use Rattle.lawful_cycle.proofs.Distances.{IsDistance, of_front, of_renamed, of_fetched, of_nothing, distance_is, always_bounds}
use Rattle.lawful_cycle.proofs.Nearer.{cycle_nearer}
use Rattle.lawful_cycle.proofs.KeptSteady.{cycle_steady}

-- ---- a distance is at least 1

wait_some : (cycle : ℕ) (s : Stage) (k : ℕ) → stage_wait cycle s ≡ Some k → 1 ≤ k
wait_some cycle Fetched k is = absurd cc
wait_some cycle Queued k is = absurd cc
wait_some cycle (Issued x) k is = let same : x.due - cycle + 2 ≡ k = cc in omega (arith, same)
wait_some cycle (Done x) k is = let same : ◌≡◌ {A = ℕ} 1 k = cc in omega (arith, same)

front_some : (cycle : ℕ) (es : List Entry) (k : ℕ) → front_wait cycle es ≡ Some k → 1 ≤ k
front_some cycle [] k is = absurd cc
front_some cycle (e ∷ es) k is = wait_some cycle e.stage k is

pub distance_some : (greatest : ℕ) (v : View) → 1 ≤ distance greatest v
distance_some greatest v = go (distance_is greatest v)
  where
    go : IsDistance greatest v → 1 ≤ distance greatest v
    go (of_front c k lc waits is) = let some = front_some v.cycle (flight_in v c) k waits in omega (arith, some, is)
    go (of_renamed none some is) = omega (arith, is)
    go (of_fetched c e none lc oldest is) = omega (arith, is)
    go (of_nothing none nothing is) = omega (arith, is)

-- ---- contexts that don't run

abbrev rest_of : Status → ℕ
rest_of s = if is_running s then 0 else 1

abbrev rests_in : View → ℕ → ℕ
rests_in v c = rest_of (context_in v c).status

abbrev resting : View → ℕ
resting v = all_of (rests_in v)

one_rests : (s : Status) → rest_of s ≤ 1
one_rests Running = omega arith
one_rests Parked = omega arith
one_rests (Stopped why) = omega arith

-- where a context runs, at most seven rest
some_runs_rest : (v : View) → SomeRuns v → resting v ≤ 7
some_runs_rest v (c, lc, runs) =
    let none : rests_in v c ≡ 0 = ap rest_of runs in
    let less = all_less (rests_in v) (λ d. 1) c (λ d ld. one_rests (context_in v d).status) lc (omega (arith, none)) in
    omega (arith, less)

-- ---- one cycle

module _ (laws : Laws) (v w : View) (note : CycleNote) (h : IsLawfulCycle laws v w note) where
  last_is : (c : ℕ) → c < 8 → ((context_in w c).status ≡ (context_in h.retired c).status) × ((context_in w c).count ≡ (context_in h.retired c).count) × ((context_in w c).target ≡ (context_in h.retired c).target)
  last_is c lc =
      let a : context_in w c ≡ context_in h.fetched c = ap (λ (u : View). context_in u c) h.next in
      let b = (h.fetch.contexts.each c lc).older in
      let d : context_in h.renamed c ≡ renamed_context h.issued.cycle note.renamed.items c (context_in h.issued c) = ap (λ (u : View). context_in u c) h.rename.is ∙ renamed_in h.issued note.renamed.items c lc in
      let e = h.issue.contexts.contexts.each c lc in
      let f = (h.complete.contexts.contexts.each c lc).is in (
        ap (λ (x : Context). x.status) a ∙ ap (λ (x : Context). x.status) b ∙ ap (λ (x : Context). x.status) d ∙ ap (λ (x : Context). x.status) e ∙ ap (λ (x : Context). x.status) f,
        ap (λ (x : Context). x.count) a ∙ ap (λ (x : Context). x.count) b ∙ ap (λ (x : Context). x.count) d ∙ ap (λ (x : Context). x.count) e ∙ ap (λ (x : Context). x.count) f,
        ap (λ (x : Context). x.target) a ∙ ap (λ (x : Context). x.target) b ∙ ap (λ (x : Context). x.target) d ∙ ap (λ (x : Context). x.target) e ∙ ap (λ (x : Context). x.target) f,
      )

  pub profile_last : w.profile ≡ v.profile
  profile_last = ap (λ (u : View). u.profile) h.next ∙ h.fetch.profile ∙ ap (λ (u : View). u.profile) h.rename.is ∙ h.issue.contexts.profile ∙ h.complete.contexts.profile ∙ h.retire.contexts.profile

  -- what rests goes on resting
  retired_rest : (n : ℕ) (x y : Context) (s : Status) → x.status ≡ s → RetiresBy n x y s → rest_of s ≤ rest_of y.status
  retired_rest n x y Running at a = omega arith
  retired_rest n x y Parked at a = let same : rest_of y.status ≡ 1 = ap rest_of (ap (λ (u : Context). u.status) a.1 ∙ at) in omega (arith, same)
  retired_rest n x y (Stopped why) at a = let same : rest_of y.status ≡ 1 = ap rest_of (ap (λ (u : Context). u.status) a.1 ∙ at) in omega (arith, same)

  rests_on : (c : ℕ) → c < 8 → rests_in v c ≤ rests_in w c
  rests_on c lc =
      let le = retired_rest (number_in c note.retired.items) (context_in v c) (context_in h.retired c) (context_in v c).status refl (h.retire.contexts.contexts.each c lc) in
      let same : rests_in w c ≡ rests_in h.retired c = ap rest_of (last_is c lc).0 in
      omega (arith, le, same)

  all_rest_on : resting v ≤ resting w
  all_rest_on = let sum = sums_le (rests_in v) (λ c. 0) (rests_in w) (λ c lc. let le = rests_on c lc in omega (arith, le)) in omega (arith, sum)

  -- something retires, a context begins to rest, or the cycle is still
  rests_where : (s : Status) → rest_of s ≡ 0 → s ≡ Running
  rests_where Running is = refl
  rests_where Parked is = absurd (omega (arith, is))
  rests_where (Stopped why) is = absurd (omega (arith, is))

  still_or_not : IsStill v w note ⊎ (resting v < length note.retired.items + resting w)
  still_or_not =
      let on = all_rest_on in
      elim (cases_lt 0 (length note.retired.items)) [
        | inl some ↦ inr (omega (arith, some, on))
        | inr le ↦ elim (cases_lt (resting v) (resting w)) [
          | inl more ↦ inr (omega (arith, more))
          | inr same ↦ inl (record { retired = nil_from_length note.retired.items (omega (arith, le)); running = runs_on same })
        ]
      ]
    where
      runs_on : resting w ≤ resting v → (c : ℕ) → c < 8 → (context_in v c).status ≡ Running → (context_in w c).status ≡ Running
      runs_on same c lc runs =
          let none : rests_in v c ≡ 0 = ap rest_of runs in
          elim (cases_lt (rests_in v c) (rests_in w c)) [
            | inr le ↦ rests_where (context_in w c).status (omega (arith, le, none))
            | inl less ↦ let more = all_less (rests_in v) (rests_in w) c rests_on lc less in absurd (omega (arith, more, same))
          ]

  -- ---- counts

  retired_count : (n : ℕ) (x y : Context) (s : Status) → RetiresBy n x y s → (y.count ≡ x.count + n) × (y.target ≡ x.target) × (x.count ≤ x.target → y.count ≤ y.target)
  retired_count n x y Running a =
      let count = ap (λ (u : Context). u.count) a.is in
      let target = ap (λ (u : Context). u.target) a.is in
      let within = a.within in
      (count, target, λ le. omega (arith, count, target, within))
  retired_count n x y Parked a = kept n x y a.0 a.1
    where
      kept : (n : ℕ) (x y : Context) → n ≡ 0 → y ≡ x → (y.count ≡ x.count + n) × (y.target ≡ x.target) × (x.count ≤ x.target → y.count ≤ y.target)
      kept n x y none is = let count : y.count ≡ x.count = ap (λ (u : Context). u.count) is in let target : y.target ≡ x.target = ap (λ (u : Context). u.target) is in (omega (arith, count, none), target, λ le. omega (arith, le, count, target))
  retired_count n x y (Stopped why) a = kept n x y a.0 a.1
    where
      kept : (n : ℕ) (x y : Context) → n ≡ 0 → y ≡ x → (y.count ≡ x.count + n) × (y.target ≡ x.target) × (x.count ≤ x.target → y.count ≤ y.target)
      kept n x y none is = let count : y.count ≡ x.count = ap (λ (u : Context). u.count) is in let target : y.target ≡ x.target = ap (λ (u : Context). u.target) is in (omega (arith, count, none), target, λ le. omega (arith, le, count, target))

  cycle_count : (c : ℕ) → c < 8 → ((context_in w c).count ≡ (context_in v c).count + number_in c note.retired.items) × ((context_in w c).target ≡ (context_in v c).target) × ((context_in v c).count ≤ (context_in v c).target → (context_in w c).count ≤ (context_in w c).target)
  cycle_count c lc =
      let a = retired_count (number_in c note.retired.items) (context_in v c) (context_in h.retired c) (context_in v c).status (h.retire.contexts.contexts.each c lc) in
      let last = last_is c lc in
      let count = last.1 in
      let target = last.2 in
      (count ∙ a.0, target ∙ a.1, λ le. let within = a.2 le in omega (arith, count, target, within))

  -- what is left falls by what retires
  pub cycle_left : AreWithinTargets v → AreWithinTargets w × (left_to_retire w + length note.retired.items ≤ left_to_retire v)
  cycle_left within =
      let sum = sums_le (λ c. (context_in w c).target - (context_in w c).count) (λ c. number_in c note.retired.items) (λ c. (context_in v c).target - (context_in v c).count)
      (λ c lc. let a = cycle_count c lc in let count = a.0 in let target = a.1 in let le = a.2 (within c lc) in omega (arith, count, target, le)) in
      let before : left_to_retire v ≡ 0 + all_of (λ c. (context_in v c).target - (context_in v c).count) = all_from v in
      let after : left_to_retire w ≡ 0 + all_of (λ c. (context_in w c).target - (context_in w c).count) = all_from w in
      let listed = length_by_context note.retired.items h.retire.turns.within in
      ((λ c lc. (cycle_count c lc).2 (within c lc)), omega (arith, sum, before, after, listed))
    where
      all_from : (u : View) → left_to_retire u ≡ 0 + all_of (λ c. (context_in u c).target - (context_in u c).count)
      all_from u =
          let is : left_to_retire u ≡ 0 + ((context_in u 0).target - (context_in u 0).count) + ((context_in u 1).target - (context_in u 1).count) + ((context_in u 2).target - (context_in u 2).count) + ((context_in u 3).target - (context_in u 3).count)
          + ((context_in u 4).target - (context_in u 4).count) + ((context_in u 5).target - (context_in u 5).count) + ((context_in u 6).target - (context_in u 6).count) + ((context_in u 7).target - (context_in u 7).count) = refl in
          omega (arith, is)

-- ---- products

times_more : (b m n : ℕ) → m < n → b * m + b ≤ b * n
times_more b m n lt = grind (arith, lt)

pub times_le : (b m n : ℕ) → m ≤ n → b * m ≤ b * n
times_le b m n le = grind (arith, le)

-- ---- runs

abbrev sharp : Profile → ℕ → ℕ
sharp p greatest = p.front_delay + greatest + 3

module _ (laws : Laws) (greatest : ℕ) (sure : PutsSureFirst laws.order) (lags : AreLagsWithin laws greatest) where
  pub record IsOnWay (v : View) (n : ℕ) (w : View) (f : Figures) : Type 0 where
    pub steady : IsSteady greatest w
    pub profile : w.profile ≡ v.profile
    pub within : AreWithinTargets w
    pub left : left_to_retire w + f.retired ≤ left_to_retire v
    pub few : n + distance greatest w ≤ sharp v.profile greatest * (f.retired + resting w + 1)

  on_way : (n : ℕ) (v w : View) (f : Figures) → IsSteady greatest v → AreWithinTargets v → IsRun laws n v w f → IsOnWay v n w f
  on_way zero v w f steady within run = rw (run.0, run.1) (record {
    steady = steady;
    profile = refl;
    within = within;
    left = omega arith;
    few = (let most = always_bounds greatest v in let more = times_more (sharp v.profile greatest) 0 (0 + resting v + 1) (omega arith) in omega (arith, most, more));
  })
  on_way (suc n) v w f steady within (u, g, note, run, runs, cycle, is) =
      let way = on_way n v u g steady within run in
      let retired : f.retired ≡ g.retired + length note.retired.items = ap (λ (k : Figures). k.retired) is in
      let next = cycle_left laws u w note cycle way.within in
      let falls = next.1 in
      let left = way.left in
      record {
        steady = cycle_steady laws greatest u w note lags cycle way.steady;
        profile = profile_last laws u w note cycle ∙ way.profile;
        within = next.0;
        left = omega (arith, falls, left, retired);
        few = step way retired;
      }
    where
      step : IsOnWay v n u g → f.retired ≡ g.retired + length note.retired.items → suc n + distance greatest w ≤ sharp v.profile greatest * (f.retired + resting w + 1)
      step way retired =
          let before = way.few in
          let on = all_rest_on laws u w note cycle in
          elim (still_or_not laws u w note cycle) [
            | inl still ↦
                let nearer = cycle_nearer laws greatest u w note sure lags way.steady runs cycle still in
                let more = times_le (sharp v.profile greatest) (g.retired + resting u + 1) (f.retired + resting w + 1) (omega (arith, on, retired)) in
                omega (arith, before, nearer, more)
            | inr moves ↦
                let some = distance_some greatest u in
                let most = always_bounds greatest w in
                let same : w.profile.front_delay ≡ v.profile.front_delay = ap (λ p. p.front_delay) (profile_last laws u w note cycle ∙ way.profile) in
                let more = times_more (sharp v.profile greatest) (g.retired + resting u + 1) (f.retired + resting w + 1) (omega (arith, moves, retired)) in
                omega (arith, before, some, most, same, more)
          ]

  -- a run takes few cycles
  pub few_cycles : (n : ℕ) (v w : View) (f : Figures) → IsSteady greatest v → AreWithinTargets v → IsRun laws n v w f → n ≤ sharp v.profile greatest * (f.retired + 8)
  few_cycles zero v w f steady within run = omega arith
  few_cycles (suc n) v w f steady within (u, g, note, run, runs, cycle, is) =
      let before = (on_way n v u g steady within run).few in
      let some = distance_some greatest u in
      let rest = some_runs_rest u runs in
      let retired : f.retired ≡ g.retired + length note.retired.items = ap (λ (k : Figures). k.retired) is in
      let more = times_le (sharp v.profile greatest) (g.retired + resting u + 1) (f.retired + 8) (omega (arith, rest, retired)) in
      omega (arith, before, some, more)

  pub bounded_run : (limit : ℕ) (v w : View) (f : Figures) (reached : Bool) → IsSteady greatest v → AreWithinTargets v → IsRunTo laws limit v w f reached → IsBoundedRun greatest limit v f reached
  bounded_run limit v w f reached steady within h = record { few = few; ends = ends }
    where
      wider : (m : ℕ) → sharp v.profile greatest * m ≤ stall_bound v.profile greatest * m
      wider m = grind arith

      few : f.cycles ≤ stall_bound v.profile greatest * (f.retired + 8)
      few = let le = few_cycles f.cycles v w f steady within h.run in let more = wider (f.retired + 8) in omega (arith, le, more)

      ends : stall_bound v.profile greatest * (left_to_retire v + 8) ≤ limit → reached ≡ true
      ends ample =
          elim (cases_Bool reached) [
            | inl is ↦ is
            | inr no_end ↦
                let at = h.limited no_end in
                let way = on_way f.cycles v w f steady within h.run in
                let before = way.few in
                let some = distance_some greatest w in
                let rest = some_runs_rest w at.0 in
                let left = way.left in
                let more = times_le (sharp v.profile greatest) (f.retired + resting w + 1) (left_to_retire v + 8) (omega (arith, rest, left)) in
                let most = wider (left_to_retire v + 8) in
                let used = at.1 in
                absurd (omega (arith, before, some, more, most, used, ample))
          ]

-- The outcome of a closed plan.
use Rattle.std.proofs.Common.{◌≡◌, ℕ, zero, suc, ◌+◌, ◌*◌, ◌<◌, ◌≤◌, Bool, true, false, List, [], ◌∷◌, ◌++◌, refl, sym, ap, ◌∙◌, subst, arith, inl, inr, IsTrue}
use Rattle.std.specs.Prelude.{max, nat_le, ◌&&◌, slice_index, Some}
use Rattle.std.proofs.lemmas.Bool.Decides.{nat_tests}
use Rattle.std.proofs.lemmas.List.{append_assoc, append-nil}
use Rattle.join_law.specs.Eight.{place_of}
use Rattle.join_law.specs.EightLaws.{place_of-eight_from}
use Rattle.join_law.specs.declared.places.Eight.{Eight}
use Rattle.hart_step.specs.State.{State}
use Rattle.hart_step.specs.Next.{after}
use Rattle.origin_set.specs.Start.{start}
use Rattle.checkpoint.specs.MarkValue.{MarkValue, state_of}
use Rattle.checkpoint.specs.Aligned.{IsAligned}
use Rattle.core_profile.specs.declared.profile.Profile.{Profile}
use Rattle.core_profile.specs.declared.policy.IssuePolicy.{IssuePolicy}
use Rattle.core_profile.specs.declared.policy.IssuePolicy.TheVariants.{OldestFirst, SpecLast, BranchFirst}
use Rattle.issue_queue.specs.Keys.{named_key, order_of}
use Rattle.data_tags.specs.declared.delay.Kind.{Kind}
use Rattle.data_tags.specs.declared.delay.Lag.{Lag}
use Rattle.data_tags.specs.declared.latencies.Latencies.{Latencies}
use Rattle.data_tags.specs.Latency.{HasLatenciesOf, IsWithin, greatest_latency}
use Rattle.data_tags.specs.LatencyLaws.{same_lag_within}
use Rattle.core_view.specs.declared.status.Status.{Status}
use Rattle.core_view.specs.declared.status.Status.TheVariants.{Running, Parked, Stopped}
use Rattle.core_view.specs.View.{Context, StatusHolds}
use Rattle.lawful_cycle.specs.Distance.{stall_bound, PutsSureFirst, NeverStalls, IsBoundedRun, left_to_retire}
use Rattle.lawful_cycle.specs.Plain.{ComesTo}
use Rattle.lawful_cycle.proofs.Laws.{run_goes_on, oldest_first_sure, spec_last_sure, join_two, times_le}
use Rattle.core_back.specs.Machine.{context_at}
use Rattle.core_run.specs.declared.run.Outcome.{Outcome}
use Rattle.core_run.specs.declared.run.Outcome.TheVariants.{Reached, CycleLimit}
use Rattle.core_run.specs.Told.{figures_of}
use Rattle.core_run.specs.Ended.{is_reached, IsRunFrom}
use Rattle.core_run.specs.Needed.{left_between, unless_branch_first}
use Rattle.core_run.proofs.Laws.{reached_ends}
use Rattle.core_cycle.proofs.NewCores.{new_never_stalls}
use Rattle.core_run.proofs.LeftOfNew.{new_left}
use Rattle.lab_plan.specs.declared.job.Job.{Job}
use Rattle.lab_plan.specs.declared.start.JobStart.{JobStart}
use Rattle.lab_plan.specs.declared.start.JobStart.TheVariants.{Opening, Furthest}
use Rattle.lab_pool.specs.declared.result.JobRun.{JobRun}
use Rattle.lab_pool.specs.declared.result.JobEnd.{JobEnd}
use Rattle.lab_pool.specs.declared.result.JobEnd.TheVariants.{Refused, Ran}
use Rattle.lab_pool.specs.declared.result.JobResult.{JobResult}
use Rattle.lab_pool.specs.Counts.{counts_in}
use Rattle.lab_pool.specs.Book.{merge_at, merges_at, greatest_of, book_after}
use Rattle.lab_pool.specs.Allowed.{job_laws, IsJobRun, IsJobEnd, AreJobResults, started_from}
use Rattle.lab_pool.specs.Closed.{greatest_lag_of, is_met, is_closed_job, are_closed, HasRun, NoneRefused, most_wanted, AreReached}
use Rattle.lab_pool.proofs.Jobs.{count_at, start_known}
use Rattle.lab_pool.proofs.Books.{book_more, book_known}

-- ---- a closed job

sure_of : (p : IssuePolicy) (n limit : ℕ) → is_met (unless_branch_first p n) limit ≡ true → PutsSureFirst (named_key (order_of p))
sure_of OldestFirst n limit met = oldest_first_sure
sure_of SpecLast n limit met = spec_last_sure
sure_of BranchFirst n limit met = absurd (let f : false ≡ true = met in cc)

enough_of : (p : IssuePolicy) (n limit : ℕ) → is_met (unless_branch_first p n) limit ≡ true → n ≤ limit
enough_of OldestFirst n limit met = let t : nat_le n limit ≡ true = met in grind (arith, nat_tests, t)
enough_of SpecLast n limit met = let t : nat_le n limit ≡ true = met in grind (arith, nat_tests, t)
enough_of BranchFirst n limit met = absurd (let f : false ≡ true = met in cc)

same_greatest : (p : Profile) (l : Latencies) → HasLatenciesOf p l → greatest_latency l ≡ greatest_lag_of p
same_greatest p l h =
    let a = h.alu_is in
    let b = h.branch_is in
    let c = h.store_is in
    let d = h.hit_is in
    let e = h.miss_is in
    omega (arith, a, b, c, d, e)

reached_of : (o : Outcome) → is_reached o ≡ true → o ≡ Reached
reached_of Reached is = refl
reached_of CycleLimit is = absurd (let f : false ≡ true = is in cc)

count_within : (x : Context) (s : Status) → StatusHolds s x → x.count ≤ x.target
count_within x Running h = omega (arith, h)
count_within x Parked h = let same = h.0 in omega (arith, same)
count_within x (Stopped why) h = let less = h.0 in omega (arith, less)

module _ (opening from : Eight MarkValue) (job : Job) (run : JobRun) (h : IsJobRun job from run) (met : is_closed_job (counts_in opening) job ≡ true)
    (ahead : (c : ℕ) → c < 8 → (place_of opening c).count ≤ (place_of from c).count) where
  greatest : ℕ
  greatest = greatest_lag_of job.profile

  never : NeverStalls (job_laws job.profile h.latencies).order (greatest_lag_of job.profile) h.first.view
  never =
      let range = job.profile.alu_latency_in_range.0 in
      new_never_stalls job.profile from h.targets h.first h.begins (named_key (order_of job.profile.issue)) (greatest_lag_of job.profile)
      (sure_of job.profile.issue (stall_bound job.profile (greatest_lag_of job.profile) * (left_between (counts_in opening) job.targets + 8)) job.limit met)
      (omega (arith, range))
      (λ c lc. let is = h.are_targets c lc in omega (arith, is))

  lags : (c : ℕ) (k : Kind) (a : ℕ) (lag : Lag) → IsTrue ((job_laws job.profile h.latencies).delays c k a lag) → IsWithin (greatest_lag_of job.profile) lag
  lags c k a lag may = subst (λ n. IsWithin n lag) (same_greatest job.profile h.latencies h.are_latencies) (same_lag_within h.latencies k lag.miss lag may)

  bounded : IsBoundedRun (greatest_lag_of job.profile) job.limit h.first.view (figures_of run.figures) (is_reached run.outcome)
  bounded = run_goes_on (job_laws job.profile h.latencies) (greatest_lag_of job.profile) job.limit h.first.view h.last.view (figures_of run.figures) (is_reached run.outcome) lags h.runs.lawful never

  pub reached : run.outcome ≡ Reached
  reached =
      let left = new_left job.profile from h.targets h.first h.begins (counts_in opening) job.targets
      (λ c lc. let is = h.are_targets c lc in let le = ahead c lc in let at = count_at opening c lc in omega (arith, is, le, at)) in
      let enough = enough_of job.profile.issue (stall_bound job.profile (greatest_lag_of job.profile) * (left_between (counts_in opening) job.targets + 8)) job.limit met in
      let more = times_le (stall_bound job.profile (greatest_lag_of job.profile)) (left_to_retire h.first.view + 8) (left_between (counts_in opening) job.targets + 8) (omega (arith, left)) in
      let profile : stall_bound h.first.view.profile (greatest_lag_of job.profile) * (left_to_retire h.first.view + 8) ≡ stall_bound job.profile (greatest_lag_of job.profile) * (left_to_retire h.first.view + 8) =
      ap (λ p. stall_bound p (greatest_lag_of job.profile) * (left_to_retire h.first.view + 8)) h.begins.profile_is in
      reached_of run.outcome (bounded.ends (omega (arith, enough, more, profile)))

  -- it comes as far as it can in the greater of its target and where it starts
  pub job_comes : (c : ℕ) → c < 8 → ComesTo (start from.c0.origin c) (max (slice_index job.targets c) (place_of from c).count) (slice_index run.counts c)
  job_comes c lc =
      let x : Context = context_at h.last c in
      let live = h.runs.live c lc in
      let origin : h.last.origin ≡ from.c0.origin = h.runs.origin ∙ h.begins.origin in
      let target : x.target ≡ max (slice_index job.targets c) (place_of from c).count = h.runs.targets c lc ∙ ap (λ (y : Context). y.target) (h.begins.contexts c lc).first ∙ h.are_targets c lc in
      let within = count_within x x.status live.status in
      let ended = reached_ends (job_laws job.profile h.latencies) h.first h.last job.limit (figures_of run.figures)
      (subst (λ o. IsRunFrom (job_laws job.profile h.latencies) h.first h.last job.limit o (figures_of run.figures)) reached h.runs) c lc in
      subst (ComesTo (start from.c0.origin c) (max (slice_index job.targets c) (place_of from c).count)) (sym (h.ends c lc)) (record {
        within = omega (arith, within, target);
        state = x.state;
        reached = ap (λ o. after x.count (start o c)) (sym origin) ∙ live.reached;
        ended = elim ended [ inl all ↦ inl (all ∙ target) | inr stops ↦ inr stops ];
      })

-- ---- the jobs in order

module _ (opening : Eight MarkValue) (aligned : IsAligned opening) (c : ℕ) (lc : c < 8) where
  abbrev book : List JobResult → ℕ
  book rs = (place_of (book_after opening rs) c).count

  abbrev s : State
  s = start opening.c0.origin c

  book_count : (rs : List JobResult) (d : ℕ) → d < 8 → (place_of (book_after opening rs) d).count ≡ greatest_of (place_of opening d).count (merges_at d rs)
  book_count rs d ld = ap (λ (m : MarkValue). m.count) (place_of-eight_from (λ i. record (place_of opening i) { count = greatest_of (place_of opening i).count (merges_at i rs) }) d ld)

  greatest_least : (n : ℕ) (ms : List ℕ) → n ≤ greatest_of n ms
  greatest_least n [] = omega arith
  greatest_least n (m ∷ ms) = let rest = greatest_least n ms in omega (arith, rest)

  start_ahead : (t : JobStart) (rs : List JobResult) (d : ℕ) → d < 8 → (place_of opening d).count ≤ (place_of (started_from t opening (book_after opening rs)) d).count
  start_ahead Opening rs d ld = omega arith
  start_ahead Furthest rs d ld = let is = book_count rs d ld in let le = greatest_least (place_of opening d).count (merges_at d rs) in omega (arith, is, le)

  start_within : (t : JobStart) (rs : List JobResult) (p : ℕ) → (place_of opening c).count ≤ p → book rs ≤ p → (place_of (started_from t opening (book_after opening rs)) c).count ≤ p
  start_within Opening rs p a b = a
  start_within Furthest rs p a b = b

  merged_count : (rs : List JobResult) (r : JobResult) → book (rs ++ r ∷ []) ≡ greatest_of (book rs) (merge_at c r.end)
  merged_count rs r =
      ap (λ (e : Eight MarkValue). (place_of e c).count) (book_more opening rs r)
      ∙ ap (λ (m : MarkValue). m.count) (place_of-eight_from (λ i. record (place_of (book_after opening rs) i) { count = greatest_of (place_of (book_after opening rs) i).count (merge_at i r.end) }) c lc)

  one_job : (t : JobStart) (before : List JobResult) (job : Job) (e : JobEnd) (p : ℕ) → IsJobEnd job (started_from t opening (book_after opening before)) e → HasRun e → is_closed_job (counts_in opening) job ≡ true
      → (place_of opening c).count ≤ p → ComesTo s p (book before) → ComesTo s (max (slice_index job.targets c) p) (greatest_of (book before) (merge_at c e))
  one_job t before job Refused p h ran met low so_far = absurd ran
  one_job t before job (Ran run) p h ran met low so_far =
      let from : Eight MarkValue = started_from t opening (book_after opening before) in
      let origin = start_known t opening (book_after opening before) from aligned (book_known opening before aligned) refl in
      let comes : ComesTo (start opening.c0.origin c) (max (slice_index job.targets c) (place_of from c).count) (slice_index run.counts c) = subst (λ o. ComesTo (start o c) (max (slice_index job.targets c) (place_of from c).count) (slice_index run.counts c)) origin (job_comes opening from job run h met (start_ahead t before) c lc) in
      let within = start_within t before p low so_far.within in
      let most : max (max (slice_index job.targets c) (place_of from c).count) p ≡ max (slice_index job.targets c) p = omega (arith, within) in
      subst (λ n. ComesTo (start opening.c0.origin c) n (max (slice_index run.counts c) (book before))) most (join_two (start opening.c0.origin c) (max (slice_index job.targets c) (place_of from c).count) p (slice_index run.counts c) (book before) comes so_far)

  both : (a b : Bool) → (a && b) ≡ true → (a ≡ true) × (b ≡ true)
  both true b is = (refl, is)
  both false b is = absurd (let f : false ≡ true = is in cc)

  outcome_from : (before : List JobResult) (js : List Job) (rs : List JobResult) (p : ℕ) → AreJobResults opening before js rs → NoneRefused rs → are_closed (counts_in opening) js ≡ true → (place_of opening c).count ≤ p → ComesTo s p (book before)
      → ComesTo s (most_wanted c p js) (book (before ++ rs))
  outcome_from before [] [] p h ran met low so_far = subst (λ rs. ComesTo s p (book rs)) (sym (append-nil before)) so_far
  outcome_from before [] (r ∷ rs) p h ran met low so_far = absurd h
  outcome_from before (j ∷ js) [] p h ran met low so_far = absurd h
  outcome_from before (j ∷ js) (r ∷ rs) p (one, rest) (this, others) met low so_far =
      let parts = both (is_closed_job (counts_in opening) j) (are_closed (counts_in opening) js) met in
      let next : ComesTo s (max (slice_index j.targets c) p) (book (before ++ r ∷ [])) = subst (ComesTo s (max (slice_index j.targets c) p)) (sym (merged_count before r)) (one_job j.start before j r.end p one.end this parts.0 low so_far) in
      subst (λ xs. ComesTo s (most_wanted c (max (slice_index j.targets c) p) js) (book xs)) (append_assoc before (r ∷ []) rs)
      (outcome_from (before ++ r ∷ []) js rs (max (slice_index j.targets c) p) rest others parts.1 (omega (arith, low)) next)

  -- the book of a closed plan none of whose jobs was refused is as far as plain RV64I comes in the most that is wanted
  pub closed_comes : (js : List Job) (rs : List JobResult) → (t : State) → state_of (place_of opening c) ≡ Some t → AreJobResults opening [] js rs → NoneRefused rs → are_closed (counts_in opening) js ≡ true
      → ComesTo s (most_wanted c (place_of opening c).count js) (book rs)
  closed_comes js rs t at h ran met =
      let mark : MarkValue = place_of opening c in
      let known = aligned c lc in
      let same : (place_of (book_after opening []) c).count ≡ mark.count = book_count [] c lc in
      let reached : after mark.count s ≡ Some t = ap (λ o. after mark.count (start o c)) (sym known.of_origin) ∙ ap (λ d. after mark.count (start mark.origin d)) (sym known.of_context) ∙ at in
      outcome_from [] js rs mark.count h ran met (omega arith) (record { within = omega (arith, same); state = t; reached = ap (λ n. after n s) same ∙ reached; ended = inl same })

-- each of eight marks, from one at a time
abbrev IsReached : MarkValue → Type 0
IsReached mark = (s : State) × (state_of mark ≡ Some s)

pub each_reached : (e : Eight MarkValue) → IsReached e.c0 → IsReached e.c1 → IsReached e.c2 → IsReached e.c3 → IsReached e.c4 → IsReached e.c5 → IsReached e.c6 → IsReached e.c7 → AreReached e
each_reached e r0 r1 r2 r3 r4 r5 r6 r7 zero lt = r0
each_reached e r0 r1 r2 r3 r4 r5 r6 r7 (suc zero) lt = r1
each_reached e r0 r1 r2 r3 r4 r5 r6 r7 (suc (suc zero)) lt = r2
each_reached e r0 r1 r2 r3 r4 r5 r6 r7 (suc (suc (suc zero))) lt = r3
each_reached e r0 r1 r2 r3 r4 r5 r6 r7 (suc (suc (suc (suc zero)))) lt = r4
each_reached e r0 r1 r2 r3 r4 r5 r6 r7 (suc (suc (suc (suc (suc zero))))) lt = r5
each_reached e r0 r1 r2 r3 r4 r5 r6 r7 (suc (suc (suc (suc (suc (suc zero)))))) lt = r6
each_reached e r0 r1 r2 r3 r4 r5 r6 r7 (suc (suc (suc (suc (suc (suc (suc zero))))))) lt = r7
each_reached e r0 r1 r2 r3 r4 r5 r6 r7 (suc (suc (suc (suc (suc (suc (suc (suc c)))))))) lt = absurd (omega (arith, lt))

-- ---- some jobs more

closed_append : (starts : List ℕ) (xs ys : List Job) → are_closed starts (xs ++ ys) ≡ (are_closed starts xs && are_closed starts ys)
closed_append starts [] ys = refl
closed_append starts (j ∷ js) ys = ap (λ b. is_closed_job starts j && b) (closed_append starts js ys) ∙ assoc (is_closed_job starts j) (are_closed starts js) (are_closed starts ys)
  where
    assoc : (a b d : Bool) → (a && (b && d)) ≡ ((a && b) && d)
    assoc true b d = refl
    assoc false b d = refl

pub closed_more : (starts : List ℕ) (xs : List Job) (j : Job) → are_closed starts xs ≡ true → are_closed starts (xs ++ j ∷ []) ≡ is_closed_job starts j
closed_more starts xs j so_far = closed_append starts xs (j ∷ []) ∙ ap (λ b. b && (is_closed_job starts j && true)) so_far ∙ last (is_closed_job starts j)
  where
    last : (b : Bool) → (b && true) ≡ b
    last true = refl
    last false = refl

-- one that isn't closed
pub closed_not : (starts : List ℕ) (xs ys : List Job) → are_closed starts xs ≡ false → are_closed starts (xs ++ ys) ≡ false
closed_not starts xs ys not_closed = closed_append starts xs ys ∙ ap (λ b. b && are_closed starts ys) not_closed

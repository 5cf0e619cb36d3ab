-- A job and the marks at which it starts decide what it does, and so a plan and an opening decide the results of its jobs.
use Rattle.std.proofs.Common.{◌≡◌, ℕ, List, [], ◌∷◌, ◌++◌, refl, sym, ap, ◌∙◌, subst}
use Rattle.std.specs.Prelude.{slice_index}
use Rattle.join_law.specs.declared.places.Eight.{Eight}
use Rattle.join_law.specs.Eight.{place_of, same_places}
use Rattle.checkpoint.specs.MarkValue.{MarkValue}
use Rattle.branch_predict.specs.Predictor.{new_predictors}
use Rattle.data_tags.specs.declared.latencies.Latencies.{Latencies}
use Rattle.data_tags.specs.Table.{new_table}
use Rattle.data_tags.proofs.Laws.{one_latencies}
use Rattle.lawful_cycle.specs.Stamps.{IsStamped}
use Rattle.lawful_cycle.proofs.Laws.{first_stamped}
use Rattle.origin_set.specs.Start.{start}
use Rattle.core_back.specs.Machine.{Machine}
use Rattle.core_back.proofs.Laws.{first_view, first_decided}
use Rattle.core_run.specs.declared.figures.Figures.{Figures}
use Rattle.core_run.specs.declared.run.Outcome.{Outcome}
use Rattle.core_run.specs.declared.run.Outcome.TheVariants.{Reached, CycleLimit}
use Rattle.core_run.specs.Told.{figures_of}
use Rattle.core_run.specs.Ended.{is_reached, IsSteppedRunOf}
use Rattle.core_run.proofs.Laws.{run_to_decided}
use Rattle.lab_plan.specs.declared.job.Job.{Job}
use Rattle.lab_plan.specs.declared.start.JobStart.{JobStart}
use Rattle.lab_plan.specs.declared.start.JobStart.TheVariants.{Opening}
use Rattle.lab_pool.specs.declared.result.JobEnd.{JobEnd}
use Rattle.lab_pool.specs.declared.result.JobEnd.TheVariants.{Refused, Ran}
use Rattle.lab_pool.specs.declared.result.JobResult.{JobResult}
use Rattle.lab_pool.specs.declared.result.JobRun.{JobRun}
use Rattle.lab_pool.specs.Allowed.{IsJobRun, IsJobEnd, IsJobResult, AreJobResults, job_laws, job_steps, started_from}
use Rattle.lab_pool.specs.Book.{book_after}
use Rattle.lab_pool.specs.Counts.{counts_in}
use Rattle.lab_pool.specs.Closed.{HasRun, NoneRefused}
use Rattle.lab_pool.specs.Decided.{Agree, AgreeFromOpening}

-- ---- one job

same_outcome : (o p : Outcome) → is_reached o ≡ is_reached p → o ≡ p
same_outcome Reached Reached is = refl
same_outcome CycleLimit CycleLimit is = refl
same_outcome Reached CycleLimit is = cc
same_outcome CycleLimit Reached is = cc

same_figures : (f g : Figures) → figures_of f ≡ figures_of g → f ≡ g
same_figures f g is = parts f.cycles g.cycles f.fetched g.fetched f.renamed g.renamed f.issued g.issued f.retired g.retired f.squashed g.squashed
    (ap (λ k. k.cycles) is) (ap (λ k. k.fetched) is) (ap (λ k. k.renamed) is) (ap (λ k. k.issued) is) (ap (λ k. k.retired) is) (ap (λ k. k.squashed) is)
  where
    parts : (a a' b b' c c' d d' e e' f f' : ℕ) → a ≡ a' → b ≡ b' → c ≡ c' → d ≡ d' → e ≡ e' → f ≡ f'
        → ◌≡◌ {A = Figures} (record { cycles = a; fetched = b; renamed = c; issued = d; retired = e; squashed = f }) (record { cycles = a'; fetched = b'; renamed = c'; issued = d'; retired = e'; squashed = f' })
    parts a a' b b' c c' d d' e e' f f' p q r s t u = rw (p, q, r, s, t, u) refl

same_run : (a b : JobRun) → a.outcome ≡ b.outcome → a.figures ≡ b.figures → a.starts ≡ b.starts → a.counts ≡ b.counts → a ≡ b
same_run a b o f s c = parts a.outcome b.outcome a.figures b.figures a.starts b.starts a.counts b.counts o f s c
  where
    parts : (o p : Outcome) (f g : Figures) (s t c d : List ℕ) → o ≡ p → f ≡ g → s ≡ t → c ≡ d → ◌≡◌ {A = JobRun} (record { outcome = o; figures = f; starts = s; counts = c }) (record { outcome = p; figures = g; starts = t; counts = d })
    parts o p f g s t c d e1 e2 e3 e4 = rw (e1, e2, e3, e4) refl

-- two runs of one job from the same marks are the same
pub job_decided : (job : Job) (from : Eight MarkValue) (a b : JobRun) → IsJobRun job from a → IsJobRun job from b → a ≡ b
job_decided job from a b h g =
    let first : h.first ≡ g.first = first_decided job.profile from h.targets g.targets h.first g.first (λ c lc. h.are_targets c lc ∙ sym (g.are_targets c lc)) h.begins g.begins in
    let latencies : h.latencies ≡ g.latencies = one_latencies job.profile h.latencies g.latencies h.are_latencies g.are_latencies in
    let stamped : IsStamped h.first.view = first_stamped job.profile (λ c. start (place_of from c).origin (place_of from c).context) (λ c. (place_of from c).count) (λ c. slice_index h.targets c) h.first.view (first_view job.profile from h.targets h.first h.begins) in
    let also : IsSteppedRunOf job_steps (job_laws job.profile h.latencies) new_predictors (new_table h.latencies) h.first job.limit b.outcome (figures_of b.figures) g.marks =
    subst (λ (l : Latencies). IsSteppedRunOf job_steps (job_laws job.profile l) new_predictors (new_table l) h.first job.limit b.outcome (figures_of b.figures) g.marks) (sym latencies)
    (subst (λ (m : Machine). IsSteppedRunOf job_steps (job_laws job.profile g.latencies) new_predictors (new_table g.latencies) m job.limit b.outcome (figures_of b.figures) g.marks) (sym first) g.stepped) in
    let one = run_to_decided job_steps (job_laws job.profile h.latencies) new_predictors (new_table h.latencies) h.first job.limit a.outcome b.outcome (figures_of a.figures) (figures_of b.figures) h.marks g.marks stamped h.stepped also in
    same_run a b (same_outcome a.outcome b.outcome one.1) (same_figures a.figures b.figures one.0) (h.starts ∙ sym g.starts) (h.counts_are ∙ ap counts_in (same_places h.marks g.marks one.2) ∙ sym g.counts_are)

-- two ends of one job from the same marks agree
ends_agree : (job : Job) (from : Eight MarkValue) (a b : JobEnd) → IsJobEnd job from a → IsJobEnd job from b → Agree a b
ends_agree job from Refused b h g = tt
ends_agree job from (Ran run) Refused h g = tt
ends_agree job from (Ran run) (Ran other) h g = job_decided job from run other h g

-- ---- the jobs of a plan

-- two ends of a job that starts at the opening
opening_agrees : (opening : Eight MarkValue) (before others : List JobResult) (job : Job) (r s : JobResult) → IsJobResult opening before job r → IsJobResult opening others job s → job.start ≡ Opening → Agree r.end s.end
opening_agrees opening before others job r s h g is =
    ends_agree job opening r.end s.end
    (subst (λ k. IsJobEnd job (started_from k opening (book_after opening before)) r.end) is h.end)
    (subst (λ k. IsJobEnd job (started_from k opening (book_after opening others)) s.end) is g.end)

-- the results of a plan's jobs from one opening agree of each job that starts there, whatever was refused
pub opening_decided : (opening : Eight MarkValue) (before others : List JobResult) (js : List Job) (rs ss : List JobResult) → AreJobResults opening before js rs → AreJobResults opening others js ss → AgreeFromOpening js rs ss
opening_decided opening before others [] rs ss h g = tt
opening_decided opening before others (j ∷ js) [] ss h g = tt
opening_decided opening before others (j ∷ js) (r ∷ rs) [] h g = tt
opening_decided opening before others (j ∷ js) (r ∷ rs) (s ∷ ss) h g =
    (opening_agrees opening before others j r s h.0 g.0, opening_decided opening (before ++ r ∷ []) (others ++ s ∷ []) js rs ss h.1 g.1)

-- a job that ran twice from the same results before it has one result
same_result : (opening : Eight MarkValue) (before : List JobResult) (job : Job) (r s : JobResult) → IsJobResult opening before job r → IsJobResult opening before job s → HasRun r.end → HasRun s.end → r ≡ s
same_result opening before job r s h g ran also =
    parts r.start s.start r.end s.end (h.start ∙ sym g.start) (same_end r.end s.end (ends_agree job (started_from job.start opening (book_after opening before)) r.end s.end h.end g.end) ran also)
  where
    same_end : (a b : JobEnd) → Agree a b → HasRun a → HasRun b → a ≡ b
    same_end Refused b agree ran also = absurd ran
    same_end (Ran run) Refused agree ran also = absurd also
    same_end (Ran run) (Ran other) agree ran also = ap Ran agree

    parts : (k l : JobStart) (a b : JobEnd) → k ≡ l → a ≡ b → ◌≡◌ {A = JobResult} (record { start = k; end = a }) (record { start = l; end = b })
    parts k l a b p q = rw (p, q) refl

-- where no job is refused, a plan and an opening decide all results
pub results_decided : (opening : Eight MarkValue) (before : List JobResult) (js : List Job) (rs ss : List JobResult) → AreJobResults opening before js rs → AreJobResults opening before js ss → NoneRefused rs → NoneRefused ss → rs ≡ ss
results_decided opening before [] [] [] h g ran also = refl
results_decided opening before [] (r ∷ rs) ss h g ran also = absurd h
results_decided opening before [] [] (s ∷ ss) h g ran also = absurd g
results_decided opening before (j ∷ js) [] ss h g ran also = absurd h
results_decided opening before (j ∷ js) (r ∷ rs) [] h g ran also = absurd g
results_decided opening before (j ∷ js) (r ∷ rs) (s ∷ ss) h g ran also =
    let one : r ≡ s = same_result opening before j r s h.0 g.0 ran.0 also.0 in
    let rest : rs ≡ ss = results_decided opening (before ++ r ∷ []) js rs ss h.1 (subst (λ k. AreJobResults opening (before ++ k ∷ []) js ss) (sym one) g.1) ran.1 also.1 in
    ap (λ k. k ∷ rs) one ∙ ap (λ ks. s ∷ ks) rest

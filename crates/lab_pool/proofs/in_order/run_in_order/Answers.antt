use Rattle.std.proofs.Common.{◌≡◌, ℕ, ◌<◌, subst, sym, [], List, Ok, Err, Result}
use Rattle.std.specs.Prelude.{IfOk}
use Rattle.std.proofs.lemmas.Result.{IfOk-weaker}
use Rattle.join_law.specs.Eight.{place_of}
use Rattle.join_law.specs.declared.places.Eight.{Eight}
use Rattle.origin_set.specs.Start.{start}
use Rattle.checkpoint.specs.MarkValue.{MarkValue}
use Rattle.lawful_cycle.specs.Plain.{ComesTo}
use Rattle.lab_pool.specs.declared.result.LabResult.{LabResult}
use Rattle.lab_pool.specs.Book.{book_after}
use Rattle.lab_pool.specs.Closed.{NoneRefused, most_wanted}
use Rattle.lab_pool.proofs.ClosedPlans.{closed_comes}
use Rattle.lab_plan.specs.declared.job.Job.{Job}
use Rattle.lab_pool.specs.declared.result.JobResult.{JobResult}
use Rattle.lab_pool.specs.Allowed.{AreJobResults}
use Rattle.lab_pool.specs.Decided.{AgreeFromOpening}
use Rattle.lab_pool.proofs.Decided.{opening_decided}
use Rattle.lab_pool.proofs.in_order.run_in_order.Goals as goal

pub returns-clause-jobs : goal.returns-clause-jobs
returns-clause-jobs c = subst (λ (js : List Job). IfOk c.results_from-results.result (λ done. AreJobResults c.args.opening [] js done.jobs.items)) c.jobs-planned.ensures.jobs c.results_from-results.ensures.jobs

pub returns-clause-book : goal.returns-clause-book
returns-clause-book c = c.results_from-results.ensures.book

-- the clause before says of the results all that there is to say
pub returns-clause-decided : goal.returns-clause-decided
returns-clause-decided c =
    IfOk-weaker c.results_from-results.result (λ done. AreJobResults c.args.opening [] c.jobs-planned.result.now done.jobs.items)
    (λ done. (others : List JobResult) → AreJobResults c.args.opening [] c.args.plan.now.jobs others → AgreeFromOpening c.args.plan.now.jobs done.jobs.items others)
    (λ done jobs others allowed. opening_decided c.args.opening [] [] c.args.plan.now.jobs done.jobs.items others (subst (λ (js : List Job). AreJobResults c.args.opening [] js done.jobs.items) c.jobs-planned.ensures.jobs jobs) allowed)
    c.results_from-results.ensures.jobs

both_ok : {E : Type 0} (P Q R : LabResult → Type 0) (r : Result LabResult E) → IfOk r P → IfOk r Q → ((x : LabResult) → P x → Q x → R x) → IfOk r R
both_ok P Q R (Ok x) p q f = f x p q
both_ok P Q R (Err e) p q f = tt

pub returns-clause-outcome : goal.returns-clause-outcome
returns-clause-outcome c closed =
    both_ok (λ done. AreJobResults c.args.opening [] c.args.plan.now.jobs done.jobs.items) (λ done. done.marks ≡ book_after c.args.opening done.jobs.items)
    (λ done. NoneRefused done.jobs.items → (i : ℕ) → i < 8 → ComesTo (start c.args.opening.c0.origin i) (most_wanted i (place_of c.args.opening i).count c.args.plan.now.jobs) (place_of done.marks i).count)
    c.results_from-results.result (returns-clause-jobs c) (returns-clause-book c)
    (λ done jobs book ran i li.
    let at = c.reached.ensures i li in
    subst (λ (e : Eight MarkValue). ComesTo (start c.args.opening.c0.origin i) (most_wanted i (place_of c.args.opening i).count c.args.plan.now.jobs) (place_of e i).count) (sym book)
    (closed_comes c.args.opening c.requires.aligned i li c.args.plan.now.jobs done.jobs.items at.0 at.1 jobs ran closed))

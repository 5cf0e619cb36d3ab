-- A closed plan's report has the plan's outcome.
use Rattle.std.proofs.Common.{◌≡◌, ℕ, ◌+◌, ◌<◌, ◌≤◌, Bool, true, false, not, cond, List, [], ◌∷◌, ◌++◌, length, Option, Some, None, refl, sym, ap, ◌∙◌, subst, arith}
use Rattle.std.specs.Prelude.{codes, nat_lt}
use Rattle.std.specs.List.{flat_map, prefix_len}
use Rattle.std.proofs.lemmas.Bool.Decides.{nat_tests}
use Rattle.join_law.specs.Eight.{place_of, places}
use Rattle.join_law.specs.EightLaws.{place_of-eight_from}
use Rattle.join_law.specs.declared.places.Eight.{Eight}
use Rattle.origin_set.specs.OriginValue.{OriginValue}
use Rattle.origin_set.specs.Start.{start}
use Rattle.checkpoint.specs.MarkValue.{MarkValue, state_of}
use Rattle.checkpoint.specs.Aligned.{IsAligned}
use Rattle.checkpoint.specs.Starts.{start_of, starts_of}
use Rattle.lawful_cycle.specs.Plain.{ComesTo}
use Rattle.lab_plan.specs.PlanValue.{PlanValue}
use Rattle.lab_pool.specs.declared.result.JobEnd.{JobEnd}
use Rattle.lab_pool.specs.declared.result.JobEnd.TheVariants.{Refused, Ran}
use Rattle.lab_pool.specs.declared.result.JobResult.{JobResult}
use Rattle.lab_pool.specs.declared.result.LabResult.{LabResult}
use Rattle.lab_pool.specs.Book.{merges_at, greatest_of, book_after}
use Rattle.lab_pool.specs.Counts.{counts_in}
use Rattle.lab_pool.specs.Closed.{are_closed, HasRun, NoneRefused, most_wanted}
use Rattle.lab_pool.proofs.ClosedPlans.{closed_comes}
use Rattle.report.specs.Blocks.{mark_block}
use Rattle.report.specs.Reports.{jobs_text, report_text}
use Rattle.lab_commands.specs.Reports.{IsLabResult, is_refused, first_refused, HasPlanOutcome}

-- ---- no job was refused

abbrev went : JobResult → Bool
went r = not (is_refused r.end)

all_ran : (rs : List JobResult) → length rs ≤ prefix_len went rs → NoneRefused rs
all_ran [] le = tt
all_ran (r ∷ rs) le = go r.end refl le (all_ran rs)
  where
    go : (e : JobEnd) → r.end ≡ e → length (r ∷ rs) ≤ prefix_len went (r ∷ rs) → (length rs ≤ prefix_len went rs → NoneRefused rs) → HasRun r.end × NoneRefused rs
    go Refused is long rest = let none : prefix_len went (r ∷ rs) ≡ 0 = ap (λ e. cond (not (is_refused e)) (1 + prefix_len went rs) 0) is in absurd (omega (arith, long, none))
    go (Ran run) is long rest =
        let more : prefix_len went (r ∷ rs) ≡ 1 + prefix_len went rs = ap (λ e. cond (not (is_refused e)) (1 + prefix_len went rs) 0) is in
        (subst HasRun (sym is) tt, rest (omega (arith, long, more)))

pub none_refused : (rs : List JobResult) → first_refused rs ≡ None → NoneRefused rs
none_refused rs none = go (nat_lt (prefix_len went rs) (length rs)) refl none
  where
    go : (b : Bool) → nat_lt (prefix_len went rs) (length rs) ≡ b → cond b (Some (prefix_len went rs)) None ≡ None → NoneRefused rs
    go true is bad = absurd cc
    go false is _ = all_ran rs (grind (arith, nat_tests, is))

-- ---- the starts

start_at : (o : OriginValue) (c : ℕ) → c < 8 → place_of (starts_of o) c ≡ start_of o c
start_at o c lc = place_of-eight_from (start_of o) c lc

starts_aligned : (o : OriginValue) → IsAligned (starts_of o)
starts_aligned o c lc = record { of_origin = ap (λ (m : MarkValue). m.origin) (start_at o c lc); of_context = ap (λ (m : MarkValue). m.context) (start_at o c lc) }

-- ---- the report

pub report_outcome : (plan : PlanValue) (results : LabResult) (refused : Option ℕ) (report : List ℕ) → IsLabResult plan (starts_of plan.origin) results → refused ≡ first_refused results.jobs.items → report ≡ report_text results
    → refused ≡ None → are_closed (counts_in (starts_of plan.origin)) plan.jobs ≡ true → HasPlanOutcome plan report
report_outcome plan results refused report h refused_is is none closed = record {
  counts = λ c. greatest_of 0 (merges_at c results.jobs.items);
  come = come;
  rest = jobs_text 0 results.jobs.items;
  is = is ∙ ap (λ (e : Eight MarkValue). codes "smt-lab report 1\n" ++ (flat_map mark_block (places e) ++ jobs_text 0 results.jobs.items)) h.book;
}
  where
    come : (c : ℕ) → c < 8 → ComesTo (start plan.origin c) (most_wanted c 0 plan.jobs) (greatest_of 0 (merges_at c results.jobs.items))
    come c lc =
        let o : OriginValue = plan.origin in
        let rs : List JobResult = results.jobs.items in
        let count : (place_of (starts_of o) c).count ≡ 0 = ap (λ (m : MarkValue). m.count) (start_at o c lc) in
        let book : (place_of (book_after (starts_of o) rs) c).count ≡ greatest_of 0 (merges_at c rs) =
        ap (λ (m : MarkValue). m.count) (place_of-eight_from (λ i. record (place_of (starts_of o) i) { count = greatest_of (place_of (starts_of o) i).count (merges_at i rs) }) c lc) ∙ ap (λ n. greatest_of n (merges_at c rs)) count in
        let comes = closed_comes (starts_of o) (starts_aligned o) c lc plan.jobs rs (start o c) (ap state_of (start_at o c lc)) h.jobs (none_refused rs (sym refused_is ∙ none)) closed in
        subst (λ n. ComesTo (start o c) (most_wanted c n plan.jobs) (greatest_of 0 (merges_at c rs))) count (subst (ComesTo (start o c) (most_wanted c (place_of (starts_of o) c).count plan.jobs)) book comes)

-- A text has one plan.
use Rattle.std.proofs.Common.{◌≡◌, Option, Some, None, Ok, sym, ap, subst, ◌∙◌}
use Rattle.std.proofs.lemmas.Option.{same_Some}
use Rattle.std.specs.Str.Lines.{lines}
use Rattle.toml.specs.Data.{Data, Members}
use Rattle.join_law.specs.Eight.{place_of, same_places}
use Rattle.origin_set.specs.OriginValue.{OriginValue}
use Rattle.rv64_asm.proofs.Laws.{one_assembly}
use Rattle.rv64_asm.specs.ProgramValue.{ProgramValue}
use Rattle.lab_plan.proofs.OneJob.{same_jobs}
use Rattle.lab_plan.specs.Contexts.{IsOriginOf, IsStartOf, value_of}
use Rattle.lab_plan.specs.PlanValue.{PlanValue}
use Rattle.lab_plan.specs.Plans.{IsPlanOfText, IsValueOf}
use Rattle.lab_plan.specs.Programs.{text_of}

-- a context has one start
one_start : (value : Option Data) (p q : Option ProgramValue) → IsStartOf value p → IsStartOf value q → p ≡ q
one_start None p q a b = a ∙ sym b
one_start (Some d) None q a b = absurd a
one_start (Some d) (Some p) None a b = absurd b
one_start (Some d) (Some p) (Some q) a b = ap Some (one_assembly (lines (text_of d)) p q a.0 b.0 a.1 b.1).0

-- a document has one origin
pub origin_unique : (doc : Members) (o p : OriginValue) → IsOriginOf doc o → IsOriginOf doc p → o ≡ p
origin_unique doc o p a b =
    let environment = a.environment ∙ sym b.environment in
    let programs = same_places o.programs p.programs (λ i less. one_start (value_of doc i) (place_of o.programs i) (place_of p.programs i) (a.programs i less) (b.programs i less)) in
    λ i. record { environment = environment i; programs = programs i }

-- a document has one plan
pub plan_unique_of_document : (doc : Members) (p q : PlanValue) → IsValueOf doc p → IsValueOf doc q → p ≡ q
plan_unique_of_document doc p q a b =
    let origin = origin_unique doc p.origin q.origin a.origin b.origin in
    let jobs = same_jobs p.jobs q.jobs (a.jobs ∙ sym b.jobs) in
    λ i. record { origin = origin i; jobs = jobs i }

-- a text has one plan
pub plan_unique : (read : Option Members) (p q : PlanValue) → IsPlanOfText read (Ok p) → IsPlanOfText read (Ok q) → p ≡ q
plan_unique read p q a b =
    let same : a.0 ≡ b.0 = same_Some a.0 b.0 (sym a.1 ∙ b.1) in
    plan_unique_of_document b.0 p q (subst (λ doc. IsValueOf doc p) same a.3) b.3

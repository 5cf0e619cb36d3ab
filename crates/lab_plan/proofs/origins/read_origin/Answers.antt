use Rattle.std.proofs.Common.{ℕ, Option}
use Rattle.toml.specs.View.{table_view}
use Rattle.rv64_asm.specs.ProgramValue.{ProgramValue}
use Rattle.lab_plan.proofs.Places.{at_places}
use Rattle.lab_plan.specs.Contexts.{IsStartOf, value_of}
use Rattle.lab_plan.proofs.origins.read_origin.Goals as goal

pub returns-in-Ok-clause-ok : goal.returns-in-Ok-clause-ok
returns-in-Ok-clause-ok c =
    let low = c.in_ok-low.low in
    let high = c.in_ok-high.high in
    record {
      environment = c.in-Ok.ensures.environment;
      programs = at_places (λ (i : ℕ) (program : Option ProgramValue). IsStartOf (value_of (table_view c.args.plan.now) i) program) c.in-Ok.origin.programs low.p0 low.p1 low.p2 low.p3 high.p0 high.p1 high.p2 high.p3 c.in-Ok.ensures.programs c.in_ok-low.ensures.p0 c.in_ok-low.ensures.p1 c.in_ok-low.ensures.p2 c.in_ok-low.ensures.p3 c.in_ok-high.ensures.p0 c.in_ok-high.ensures.p1 c.in_ok-high.ensures.p2 c.in_ok-high.ensures.p3;
    }

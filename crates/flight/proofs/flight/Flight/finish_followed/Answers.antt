use Rattle.std.proofs.Common.{sym, ◌∙◌}
use Rattle.core_view.specs.Stages.{execution_of}
use Rattle.flight.specs.Flights.{entry_in}
use Rattle.flight.proofs.Freed.{freed}
use Rattle.flight.proofs.flight.Flight.finish_followed.Goals as goal

pub returns-clause-frees : goal.returns-clause-frees
returns-clause-frees g c f is =
    freed c.args.self.now c.finish_where.new.self c.args.place (execution_of (entry_in c.args.self.now.entries c.args.place).stage) c.requires.place c.requires.issued c.finish_where.ensures f c.unguarded.result c.unguarded-before.result
    c.unguarded.ensures.set c.unguarded.ensures.within c.unguarded.ensures.waits c.unguarded.ensures.none_open c.unguarded-before.ensures.set c.unguarded-before.ensures.none_open (λ none. c.has_more.ensures.none (sym is ∙ none)) (λ all. is ∙ c.has_more.ensures.all all)

use Rattle.std.proofs.Common.{◌≡◌, ◌<◌, ap, refl, sym, subst, ◌∙◌}
use Rattle.core_view.specs.declared.entry.Entry.{Entry}
use Rattle.core_view.specs.declared.entry.Stage.TheVariants.{Issued}
use Rattle.core_view.specs.declared.outcome.Step.{Step}
use Rattle.core_view.specs.declared.outcome.Outcome.TheVariants.{Goes}
use Rattle.core_view.specs.Flight.{result_in}
use Rattle.core_view.specs.Stages.{execution_of}
use Rattle.flight.specs.Flights.{Flight, entry_in}
use Rattle.flight.proofs.Kept.{issued-renamed}
use Rattle.flight.proofs.flight.Flight.finish_plain.Goals as goal

pub returns-clause-plain : goal.returns-clause-plain
returns-clause-plain g c =
    let at : c.at.result.now ≡ entry_in c.args.self.now.entries c.args.place = c.at.ensures ∙ ap (λ (f : Flight). entry_in f.entries c.args.place) c.self.view_is in
    record {
      unread = c.may_be_read.ensures c.if-may_be_read.false;
      followed = subst (λ (e : Entry). (step : Step) → (execution_of e.stage).outcome ≡ Goes step → e.followed ≡ step.next) at c.in_ok-value.ensures.followed;
      result = ap (λ (e : Entry). result_in (execution_of e.stage).outcome) (sym at) ∙ c.in_ok-value.ensures.result;
    }

pub may_be_read-requires : goal.may_be_read-requires
may_be_read-requires g c =
    let issued : (entry_in c.self.inside.ring.items c.args.place).stage ≡ Issued (execution_of (entry_in c.self.inside.ring.items c.args.place).stage) = rw (← c.self.view_is) at c.requires.issued in
    subst (λ (f : Flight). c.args.place < f.renamed) c.self.view_is (issued-renamed c.self.inside.ring.items c.self.inside.renamed c.args.place _ c.self.invariant.0.ahead issued)

pub returns-clause-frees : goal.returns-clause-frees
returns-clause-frees g c = c.finish_followed-frees.ensures.frees _ refl

pub returns-clause-more : goal.returns-clause-more
returns-clause-more g c = c.may_be_due-more.ensures

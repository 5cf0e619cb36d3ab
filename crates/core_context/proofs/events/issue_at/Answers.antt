use Rattle.std.proofs.Common.{refl, sym}
use Rattle.core_context.proofs.Issues.{issued_if_some}
use Rattle.core_context.proofs.events.issue_at.Goals as goal

pub returns-clause-issued : goal.returns-clause-issued
returns-clause-issued g c =
    issued_if_some _ c.args.flow.now c.args.context c.args.cycle c.args.place c.read_sources-values.result.0 c.read_sources-values.result.1 c.args.track.now c.perform.new.track c.perform.result c.requires.place c.read_sources-values.ensures c.perform.ensures.clear c.perform.ensures.issued

pub returns-clause-waits : goal.returns-clause-waits
returns-clause-waits g c = λ none.
    record {
      place = c.args.place;
      first = c.read_sources-values.result.0;
      second = c.read_sources-values.result.1;
      within = c.requires.place;
      stamp = refl;
      sources = sym c.read_sources-values.ensures;
      waits = c.perform.ensures.waits none;
    }

use Rattle.std.proofs.Common.{arith}
use Rattle.data_flow.specs.Flow.{lane}
use Rattle.data_flow.proofs.Places.{here}
use Rattle.data_flow.proofs.Sources.{HasSources, sources_found, each_there, found_both}
use Rattle.data_flow.proofs.data_flow.DataFlow.read_sources.Given.{Over}
use Rattle.data_flow.proofs.data_flow.DataFlow.read_sources.Goals as goal
use Rattle.data_flow.proofs.data_flow.DataFlow.read_sources.Goals.{After-at-renamed}

pub at-renamed-requires : goal.at-renamed-requires
at-renamed-requires g c =
    let h = here c.self.inside c.args.self.now c.args.context c.index.result c.index-self-index.result c.self.view_is c.self.invariant c.index.ensures.value c.index.ensures.bound in
    omega (arith, h.count, c.requires.place)

has : (g : Over) (c : After-at-renamed g) → HasSources c.self.inside.registers.cells (lane c.args.self.now c.args.context) c.args.place c.at-renamed.result
has g c =
    sources_found c.self.inside c.args.self.now c.args.context c.index.result c.args.place c.index-self-index.result c.at-renamed.result c.self.view_is c.self.invariant c.index.ensures.value c.index.ensures.bound c.at-renamed.ensures

pub read-first-requires-clause-known : goal.read-first-requires-clause-known
read-first-requires-clause-known g c = (has g (goal.at.read-first-requires-clause-known g c).After-at-renamed).first_is_cell

pub read-first-requires-clause-valued : goal.read-first-requires-clause-valued
read-first-requires-clause-valued g c =
    (each_there c.self.inside.registers.cells (lane c.args.self.now c.args.context) c.args.place c.at-renamed.result (has g (goal.at.read-first-requires-clause-valued g c).After-at-renamed) c.requires.supplied).0

pub read-second-requires-clause-known : goal.read-second-requires-clause-known
read-second-requires-clause-known g c = (has g (goal.at.read-second-requires-clause-known g c).After-at-renamed).second_is_cell

pub read-second-requires-clause-valued : goal.read-second-requires-clause-valued
read-second-requires-clause-valued g c =
    (each_there c.self.inside.registers.cells (lane c.args.self.now c.args.context) c.args.place c.at-renamed.result (has g (goal.at.read-second-requires-clause-valued g c).After-at-renamed) c.requires.supplied).1

pub returns : goal.returns
returns g c =
    found_both c.self.inside.registers.cells (lane c.args.self.now c.args.context) c.args.place c.read-first.result c.read-second.result c.at-renamed.result (has g (goal.at.returns g c).After-at-renamed) c.read-first.ensures c.read-second.ensures

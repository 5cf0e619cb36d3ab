use Rattle.std.proofs.Common.{arith}
use Rattle.data_flow.specs.Flow.{lane}
use Rattle.data_flow.proofs.Places.{here}
use Rattle.data_flow.proofs.Sources.{HasSources, sources_found, missing_first, missing_second, found_both}
use Rattle.data_flow.proofs.data_flow.DataFlow.sources.Given.{Over}
use Rattle.data_flow.proofs.data_flow.DataFlow.sources.Goals as goal
use Rattle.data_flow.proofs.data_flow.DataFlow.sources.Goals.{After-at-renamed}

pub at-renamed-requires : goal.at-renamed-requires
at-renamed-requires g c =
    let h = here c.self.inside c.args.self.now c.args.context c.index.result c.index-self-index.result c.self.view_is c.self.invariant c.index.ensures.value c.index.ensures.bound in
    omega (arith, h.count, c.requires)

has : (g : Over) (c : After-at-renamed g) → HasSources c.self.inside.registers.cells (lane c.args.self.now c.args.context) c.args.place c.at-renamed.result
has g c =
    sources_found c.self.inside c.args.self.now c.args.context c.index.result c.args.place c.index-self-index.result c.at-renamed.result c.self.view_is c.self.invariant c.index.ensures.value c.index.ensures.bound c.at-renamed.ensures

pub value-requires : goal.value-requires
value-requires g c = (has g (goal.at.value-requires g c).After-at-renamed).first_is_cell

pub returns-in_err-first : goal.returns-in_err-first
returns-in_err-first g c =
    missing_first c.self.inside.registers.cells (lane c.args.self.now c.args.context) c.args.place c.at-renamed.result c.from_residual.result (has g (goal.at.returns-in_err-first g c).After-at-renamed) c.in_err-first.ensures c.from_residual.ensures

pub value-requires-2 : goal.value-requires-2
value-requires-2 g c = (has g (goal.at.value-requires-2 g c).After-at-renamed).second_is_cell

pub returns-in_err-second : goal.returns-in_err-second
returns-in_err-second g c =
    missing_second c.self.inside.registers.cells (lane c.args.self.now c.args.context) c.args.place c.at-renamed.result c.from_residual-in_err-second.result (has g (goal.at.returns-in_err-second g c).After-at-renamed) c.in_err-second.ensures c.from_residual-in_err-second.ensures

pub returns : goal.returns
returns g c =
    found_both c.self.inside.registers.cells (lane c.args.self.now c.args.context) c.args.place c.in_ok-first.first c.in_ok-second.second c.at-renamed.result (has g (goal.at.returns g c).After-at-renamed) c.in_ok-first.ensures c.in_ok-second.ensures

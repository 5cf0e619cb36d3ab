use Rattle.std.proofs.Common.{ap, get_or, arith}
use Rattle.rename_file.specs.Shown.{shown}
use Rattle.rename_file.proofs.FoundContext.{found, source_found}
use Rattle.rename_file.proofs.registers.Registers.source.Goals as goal

pub returns-clause-newest : goal.returns-clause-newest
returns-clause-newest g c =
    let at = found (shown c.self.inside) c.args.context c.index.result (get_or c.self.inside.maps c.index.result c.index-self-index.result) c.index.ensures.value (omega arith) (ap (get_or c.self.inside.maps c.index.result) c.index-self-index.is) in
    rw (← c.self.view_is) (source_found (shown c.self.inside) c.args.context c.index.result c.args.rs c.source.result (get_or c.self.inside.maps c.index.result c.index-self-index.result) c.self.invariant.file at c.requires c.source.ensures).0

pub returns-clause-bound : goal.returns-clause-bound
returns-clause-bound g c =
    let at = found (shown c.self.inside) c.args.context c.index.result (get_or c.self.inside.maps c.index.result c.index-self-index.result) c.index.ensures.value (omega arith) (ap (get_or c.self.inside.maps c.index.result) c.index-self-index.is) in
    rw (← c.self.view_is) (source_found (shown c.self.inside) c.args.context c.index.result c.args.rs c.source.result (get_or c.self.inside.maps c.index.result c.index-self-index.result) c.self.invariant.file at c.requires c.source.ensures).1

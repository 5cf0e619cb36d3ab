use Rattle.std.proofs.Common.{ap, get_or, arith}
use Rattle.rename_file.specs.Shown.{shown}
use Rattle.rename_file.proofs.FoundContext.{found, committed_found}
use Rattle.rename_file.proofs.registers.Registers.committed.Goals as goal

pub at-requires-clause-known : goal.at-requires-clause-known
at-requires-clause-known g c =
    let at = found (shown c.self.inside) c.args.context c.index.result (get_or c.self.inside.maps c.index.result c.index-self-index.result) c.index.ensures.value (omega arith) (ap (get_or c.self.inside.maps c.index.result) c.index-self-index.is) in
    omega (arith, (committed_found (shown c.self.inside) c.args.context c.index.result c.args.rs c.committed.result (get_or c.self.inside.maps c.index.result c.index-self-index.result) c.self.invariant.file at c.requires c.committed.ensures).0, c.index-2.ensures.value)

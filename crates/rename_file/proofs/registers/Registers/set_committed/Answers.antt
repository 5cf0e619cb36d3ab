use Rattle.std.proofs.Common.{ap, get_or, arith}
use Rattle.rename_file.specs.Shown.{shown}
use Rattle.rename_file.proofs.Files.{IsFile-written}
use Rattle.rename_file.proofs.FoundContext.{found, committed_found}
use Rattle.std.proofs.lemmas.List.{length-set}
use Rattle.rename_file.proofs.registers.Registers.set_committed.Goals as goal

pub write-requires : goal.write-requires
write-requires g c =
    let at = found (shown c.self.inside) c.args.context c.index.result (get_or c.self.inside.maps c.index.result c.index-self-index.result) c.index.ensures.value (omega arith) (ap (get_or c.self.inside.maps c.index.result) c.index-self-index.is) in
    omega (arith, (committed_found (shown c.self.inside) c.args.context c.index.result c.args.rd c.committed-committed.result (get_or c.self.inside.maps c.index.result c.index-self-index.result) c.self.invariant.file at c.requires.1 c.committed-committed.ensures).0, c.index-2.ensures.value)

pub invariant_of-self : goal.invariant_of-self
invariant_of-self g c =
    let at = found (shown c.self.inside) c.args.context c.index.result (get_or c.self.inside.maps c.index.result c.index-self-index.result) c.index.ensures.value (omega arith) (ap (get_or c.self.inside.maps c.index.result) c.index-self-index.is) in
    let known = committed_found (shown c.self.inside) c.args.context c.index.result c.args.rd c.committed-committed.result (get_or c.self.inside.maps c.index.result c.index-self-index.result) c.self.invariant.file at c.requires.1 c.committed-committed.ensures in
    rw c.write.ensures (record {
      file = IsFile-written (shown c.self.inside) c.index-2.result c.args.value (rw c.index-2.ensures.value (known.2 c.requires.0)) c.self.invariant.file;
      room = rw length-set c.self.invariant.room;
      undoable = c.self.invariant.undoable;
    })

pub returns-clause-file : goal.returns-clause-file
returns-clause-file g c = (invariant_of-self g c).file

use Rattle.rename_file.proofs.Maps.{tracked_committed}
use Rattle.rename_file.proofs.rename_map.RenameMap.commit.Goals as goal

pub invariant_of-self : goal.invariant_of-self
invariant_of-self c =
    let some = rw (← c.self.view_is) at c.requires.some in
    let oldest = rw (← c.self.view_is) at c.requires.oldest in
    rw c.drop_front.ensures (tracked_committed c.self.inside c.args.rename c.self.invariant some oldest)

use Rattle.rename_file.proofs.Maps.{tracked_undone}
use Rattle.rename_file.proofs.rename_map.RenameMap.undo.Goals as goal

pub invariant_of-self : goal.invariant_of-self
invariant_of-self c =
    let some = rw (← c.self.view_is) at c.requires.some in
    let newest = rw (← c.self.view_is) at c.requires.newest in
    let previous = rw (← c.self.view_is) at c.requires.previous in
    rw c.drop_back.ensures (tracked_undone c.self.inside c.args.rd c.args.previous c.self.invariant some newest previous)

use Rattle.std.proofs.Common.{arith, inl, inr}
use Rattle.std.proofs.lemmas.Bool.{cases_lt}
use Rattle.rename_file.proofs.Maps.{tracked_push, tracked_kept}
use Rattle.rename_file.proofs.rename_map.RenameMap.push.Goals as goal

pub invariant_of-self : goal.invariant_of-self
invariant_of-self c =
    elim (cases_lt 0 c.args.rename.rd) [
      | inl named ↦ rw (c.push.ensures.named named) (tracked_push c.self.inside c.args.rename c.self.invariant)
      | inr none ↦
          let zero = rw (← c.self.view_is) at c.requires.zero in
          rw (c.push.ensures.zero (omega (arith, none))) (tracked_kept c.self.inside c.args.rename c.self.invariant (omega (arith, none)) (zero (omega (arith, none))))
    ]

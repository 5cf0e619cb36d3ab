use Rattle.std.proofs.Common.{ap, sym, rules}
use Rattle.std.specs.Result.{result_err}
use Rattle.paged_memory.proofs.Stored.{store_refused, unrefused}
use Rattle.paged_memory.proofs.writing.store_fault.Goals as goal

pub returns-in_default : goal.returns-in_default
returns-in_default c =
    λ value. ap result_err (sym (store_refused c.args.text c.args.pages.now c.args.address value c.args.width c.requires c.in_default.ensures.missing (search rules)))

pub returns : goal.returns
returns c =
    let found = c.in-Some.ensures.found in
    λ value. unrefused c.args.text c.args.pages.now c.args.address value c.in-Some._place c.args.width c.requires found.0 found.1 (search rules)

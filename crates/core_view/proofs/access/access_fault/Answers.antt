use Rattle.std.proofs.Common.{◌∙◌}
use Rattle.core_view.proofs.Steps.{store_refusal}
use Rattle.core_view.proofs.access.access_fault.Goals as goal

pub returns-in-Stores-One : goal.returns-in-Stores-One
returns-in-Stores-One g c =
    rw (c.in-Stores-One.is-0, ← c.store_width.ensures) (c.store_fault.ensures 0 ∙ store_refusal c.args.environment c.args.memory.now c.in-Stores-One.address _ 0)

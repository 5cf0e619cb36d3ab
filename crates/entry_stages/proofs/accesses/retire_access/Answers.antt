use Rattle.std.proofs.Common.{ap, sym, ◌∙◌}
use Rattle.core_view.specs.declared.outcome.Step.{Step}
use Rattle.core_view.specs.Outcomes.{memory_after}
use Rattle.entry_stages.specs.Heads.{done_outcome, step_on}
use Rattle.entry_stages.proofs.Unwritten.{memory_unwritten}
use Rattle.entry_stages.proofs.accesses.retire_access.Goals as goal

pub returns-else-is_store : goal.returns-else-is_store
returns-else-is_store g c = sym (memory_unwritten c.args.environment c.args.memory.now (step_on (done_outcome c.args.entry.now.stage)).access (c.requires.unwritten c.if-is_store.false))

pub returns-then-is_store : goal.returns-then-is_store
returns-then-is_store g c = c.write.ensures ∙ ap (λ (s : Step). memory_after c.args.environment c.args.memory.now s.access) c.step_of.ensures

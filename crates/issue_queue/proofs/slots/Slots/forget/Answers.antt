use Rattle.std.proofs.Common.{refl, ◌∙◌}
use Rattle.std.proofs.lemmas.Bool.{eq-eqb}
use Rattle.issue_queue.specs.Entries.{entry_at}
use Rattle.issue_queue.specs.Views.{reads_of}
use Rattle.issue_queue.proofs.Masks.{slot_forgotten}
use Rattle.issue_queue.proofs.slots.Slots.forget.Goals as goal

pub returns-clause-slots : goal.returns-clause-slots
returns-clause-slots c = slot_forgotten c.args.self.now _ c.args.place c.assigned-self.result c.assigned-self-2.result (reads_of (entry_at c.args.self.now.entries c.args.place)) refl refl c.assigned-self.ensures c.assigned-self-2.ensures (rw c.read-entry.ensures at c.clear_sources.ensures)

pub returns-clause-unguessed : goal.returns-clause-unguessed
returns-clause-unguessed c = c.assigned-self.ensures c.args.place ∙ rw (eq-eqb c.args.place c.args.place refl) refl

pub returns-clause-no_load : goal.returns-clause-no_load
returns-clause-no_load c = c.assigned-self-2.ensures c.args.place ∙ rw (eq-eqb c.args.place c.args.place refl) refl

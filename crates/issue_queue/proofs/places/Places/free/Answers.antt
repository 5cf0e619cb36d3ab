use Rattle.std.proofs.Common.{◌≡◌, false, ap, refl, ◌∙◌, arith}
use Rattle.std.specs.Prelude.{slice_index}
use Rattle.std.proofs.lemmas.Bool.{eq-eqb}
use Rattle.word_mask.specs.Mask.{has}
use Rattle.issue_queue.specs.Board.{slot}
use Rattle.issue_queue.proofs.Masks.{free_in_step}
use Rattle.issue_queue.proofs.places.Places.free.Goals as goal

pub returns-clause-slots : goal.returns-clause-slots
returns-clause-slots c = λ p other. c.set_held.ensures.slots p ∙ rw other (c.forget.ensures.slots p other)

pub returns-clause-step : goal.returns-clause-step
returns-clause-step c =
    let held : (slot c.set_held.new.self c.args.place).held ≡ false = ap (λ e. e.held) (c.set_held.ensures.slots c.args.place) ∙ rw (eq-eqb c.args.place c.args.place refl) refl in
    let unguessed : (slot c.set_held.new.self c.args.place).guessed ≡ false = ap (λ e. e.guessed) (c.set_held.ensures.slots c.args.place) ∙ rw (eq-eqb c.args.place c.args.place refl) c.forget.ensures.unguessed in
    let no_load : (slot c.set_held.new.self c.args.place).load ≡ false = ap (λ e. e.load) (c.set_held.ensures.slots c.args.place) ∙ rw (eq-eqb c.args.place c.args.place refl) c.forget.ensures.no_load in
    free_in_step c.args.self.now _ c.args.place c.at.result c.context-context.result c.requires.set c.at.ensures c.context-context.ensures (omega arith) c.cleared-self.ensures.bits
    (λ p other. c.set_held.ensures.slots p ∙ rw other (c.forget.ensures.slots p other))
    c.assigned-self.ensures c.assigned-self-2.ensures (rw c.index.ensures.value at c.mark.ensures.words)
    (λ r p. ap (λ ws. has (slice_index ws r) p) c.set_held.ensures.waiters ∙ c.forget.ensures.waiters r p) held unguessed no_load c.requires.step

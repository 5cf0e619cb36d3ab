use Rattle.std.proofs.Common.{◌≡◌, ℕ, arith, ap, ◌∙◌, ◌||◌, ◌&&◌, ◌==◌}
use Rattle.word_mask.specs.Mask.{has}
use Rattle.issue_queue.specs.Entry.{is_supplied, waits_for_two}
use Rattle.issue_queue.specs.Views.{entered}
use Rattle.issue_queue.proofs.Masks.{free_of_words, put_in_step}
use Rattle.issue_queue.proofs.places.Places.put.Goals as goal

pub put-requires-clause-free : goal.put-requires-clause-free
put-requires-clause-free c = free_of_words c.args.self.now c.args.place (omega arith) c.requires.free c.requires.step

pub put-requires-clause-let_go : goal.put-requires-clause-let_go
put-requires-clause-let_go c = c.requires.step.let_go c.args.place c.requires.free

pub put-requires-clause-unguessed : goal.put-requires-clause-unguessed
put-requires-clause-unguessed c = c.requires.step.unguessed c.args.place c.requires.free

pub put-requires-clause-no_load : goal.put-requires-clause-no_load
put-requires-clause-no_load c = c.requires.step.no_load c.args.place c.requires.free

pub returns-clause-step : goal.returns-clause-step
returns-clause-step c =
    let b = c.args.self.now in
    let supplied : (p : ℕ) → has c.either-self.result p ≡ (has b.supplied p || ((p == c.args.place) && is_supplied (entered c.args.reading.now))) =
    λ p. c.either-self.ensures p ∙ ap (λ x. has b.supplied p || x) (c.supplied_bit.ensures p) in
    let two : (p : ℕ) → has c.either-self-2.result p ≡ (has b.two p || ((p == c.args.place) && waits_for_two (entered c.args.reading.now))) =
    λ p. c.either-self-2.ensures p ∙ ap (λ x. has b.two p || x) (c.two_bit.ensures p) in
    put_in_step b _ c.args.place (entered c.args.reading.now) c.requires.bound c.requires.free (omega arith) c.assigned-self.ensures c.put.ensures.slots supplied two (rw c.index.ensures.value at c.mark.ensures.words) c.put.ensures.waiters c.requires.step

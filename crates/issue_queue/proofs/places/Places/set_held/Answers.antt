use Rattle.std.proofs.Common.{◌≡◌, ◌==◌, ℕ, false, ap, inr, refl, sym, ◌∙◌}
use Rattle.std.proofs.lemmas.Bool.{ne_eqb, true≢false}
use Rattle.word_mask.specs.Mask.{has}
use Rattle.issue_queue.proofs.Masks.{unseen_in_step}
use Rattle.issue_queue.proofs.places.Places.set_held.Goals as goal

pub returns-clause-step : goal.returns-clause-step
returns-clause-step c =
    let b = c.args.self.now in
    let other : (p : ℕ) → has b.valid p ≡ false → (p == c.args.place) ≡ false = λ p free. ne_eqb p c.args.place (λ same. true≢false (sym c.requires.set ∙ ap (has b.valid) (sym same) ∙ free)) in
    unseen_in_step (λ e. record e { held = c.args.held }) (λ e. refl) (λ e. refl) (λ e. refl) (λ e. refl) (λ p. p == c.args.place) b _ refl refl refl c.set_held.ensures.waiters refl c.set_held.ensures.slots
    (λ p free. inr (other p free)) c.requires.step

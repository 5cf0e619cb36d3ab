use mir.Val.{bool_byte}
use Rattle.std.proofs.Common.{◌≡◌, ap, ◌∙◌, arith}
use Rattle.core_view.specs.declared.entry.Entry.{Entry}
use Rattle.core_view.specs.Operations.{is_guessed}
use Rattle.flight.specs.Flights.{entry_in}
use Rattle.flight.proofs.Ahead.{guesses-most, guesses-step}
use Rattle.flight.proofs.flight.guesses_from.Goals as goal

pub overflow_add-count : goal.overflow_add-count
overflow_add-count g c =
    let one : c.from-count.result ≡ bool_byte (is_guessed (entry_in c.args.ring.now.items c.loop-place.place).operation) = c.from-count.ensures ∙ ap bool_byte (c.is_guessed.ensures ∙ ap (λ (e : Entry). is_guessed e.operation) c.at.ensures) in
    let step = guesses-step _ _ _ c.loop-place.place c.args.ring.now.items c.loop-place.invariant (omega (arith, c.loop-place-test.true, c.len-place-end.ensures.len)) one in
    omega (arith, step, guesses-most c.args.from c.args.ring.now.items, c.len-place-end.ensures.len, c.len-place-end.type_inv)

pub loop-place-preserved : goal.loop-place-preserved
loop-place-preserved g c =
    let one : c.from-count.result ≡ bool_byte (is_guessed (entry_in c.args.ring.now.items c.loop-place.place).operation) = c.from-count.ensures ∙ ap bool_byte (c.is_guessed.ensures ∙ ap (λ (e : Entry). is_guessed e.operation) c.at.ensures) in
    guesses-step _ _ _ c.loop-place.place c.args.ring.now.items c.loop-place.invariant (omega (arith, c.loop-place-test.true, c.len-place-end.ensures.len)) one

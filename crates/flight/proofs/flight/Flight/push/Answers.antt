use mir.Val.{bool_byte}
use Rattle.std.proofs.Common.{◌≡◌, ◌+◌, ◌≤◌, length, arith, ap, sym, subst, ◌∙◌}
use Rattle.std.proofs.lemmas.List.{length_push}
use Rattle.circular_buffer.specs.Buffer.{Buffer}
use Rattle.core_view.specs.declared.entry.Entry.{Entry}
use Rattle.flight.proofs.Kept.{flight-pushed}
use Rattle.flight.proofs.Ahead.{guesses-most, guesses-pushed, one-most}
use Rattle.flight.proofs.flight.Flight.push.Goals as goal

pub overflow_add-self : goal.overflow_add-self
overflow_add-self g c =
    let more : length c.push_in.new.ring.items ≡ length c.self.inside.ring.items + 1 = ap (λ (b : Buffer Entry). length b.items) c.push_in.ensures ∙ length_push c.self.inside.ring.items c.args.entry in
    omega (arith, c.self.invariant.1, guesses-most c.self.inside.renamed c.self.inside.ring.items, subst (λ n. n ≤ 1) (sym c.from.ensures) (one-most _), more, c.len-len.ensures.len, c.len-len.type_inv)

pub invariant_of-self : goal.invariant_of-self
invariant_of-self g c =
    let made = ap (λ (b : Buffer Entry). b.items) c.push_in.ensures in
    (flight-pushed c.self.inside.ring.items c.push_in.new.ring.items c.args.entry _ _ _ _ c.self.invariant.0 c.requires.fetched made, guesses-pushed _ _ c.self.inside.ring.items c.push_in.new.ring.items c.args.entry c.self.invariant.1 c.self.invariant.0.within made c.from.result (c.from.ensures ∙ ap bool_byte c.requires.guessed))

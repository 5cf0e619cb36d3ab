use Rattle.std.proofs.Common.{◌≤ℤ◌, pos, negsuc, sym, ◌∙◌, arith}
use Rattle.std.proofs.lemmas.Int.{ints}
use Rattle.rv64_asm.proofs.Ranges.{within}
use Rattle.rv64_asm.proofs.operands.immediate.Goals as goal

pub overflow_cast-number : goal.overflow_cast-number
overflow_cast-number c =
    let b : (negsuc 2047 ≤ℤ c.in_ok-number.number) × (c.in_ok-number.number ≤ℤ pos 2047) = within (negsuc 2047) (pos 2047) c.in_ok-number.number c.args.text.now (sym c.number_in.ensures ∙ c.in_ok-number.was) in
    omega (arith, ints, b.0, b.1)

pub new-requires-clause-low : goal.new-requires-clause-low
new-requires-clause-low c =
    let b : (negsuc 2047 ≤ℤ c.in_ok-number.number) × (c.in_ok-number.number ≤ℤ pos 2047) = within (negsuc 2047) (pos 2047) c.in_ok-number.number c.args.text.now (sym c.number_in.ensures ∙ c.in_ok-number.was) in
    omega (arith, ints, b.0, b.1)

pub new-requires-clause-high : goal.new-requires-clause-high
new-requires-clause-high c =
    let b : (negsuc 2047 ≤ℤ c.in_ok-number.number) × (c.in_ok-number.number ≤ℤ pos 2047) = within (negsuc 2047) (pos 2047) c.in_ok-number.number c.args.text.now (sym c.number_in.ensures ∙ c.in_ok-number.was) in
    omega (arith, ints, b.0, b.1)

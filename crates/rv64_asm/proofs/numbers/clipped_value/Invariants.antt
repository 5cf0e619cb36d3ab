use Rattle.std.proofs.Common.{◌≡◌, ◌^◌, min, take, drop}
use Rattle.rv64_asm.specs.Numbers.{all_digits, value_of}
use Rattle.rv64_asm.proofs.numbers.clipped_value.Given as goal

abbrev pub invariant-loop-b : goal.invariant-loop-b
invariant-loop-b l = (all_digits l.radix (drop l.b-index l.digits) ≡ all_digits l.radix l.digits) × (l.size ≡ min (value_of l.radix (take l.b-index l.digits)) (2 ^ 65))

-- A number that was read lies in its range.
use Rattle.std.proofs.Common.{◌≡◌, ℤ, ◌≤ℤ◌, List, ℕ, Result, Ok, Err, rules}
use Rattle.std.specs.Option.{ok_or}
use Rattle.rv64_asm.specs.declared.fault.LineFault.{LineFault}
use Rattle.rv64_asm.specs.declared.fault.LineFault.TheVariants.{OperandForm}
use Rattle.rv64_asm.specs.Numbers.{◌>>=◌, number_of, in_range, number_in}

tested : (low high x z : ℤ) → in_range low high x ≡ Ok z → (low ≤ℤ z) × (z ≤ℤ high)
tested low high x z e = (search rules, search rules)

read : (r : Result ℤ LineFault) (low high z : ℤ) → (r >>= in_range low high) ≡ Ok z → (low ≤ℤ z) × (z ≤ℤ high)
read (Ok x) low high z e = tested low high x z e
read (Err fault) low high z e = absurd cc

pub within : (low high z : ℤ) (text : List ℕ) → number_in low high text ≡ Ok z → (low ≤ℤ z) × (z ≤ℤ high)
within low high z text e = read (ok_or (number_of text) OperandForm) low high z e

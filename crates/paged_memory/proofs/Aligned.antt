-- The low bits of an address tell whether it is a multiple of a width.
use Rattle.std.proofs.Common.{◌≡◌, ℕ, ◌-◌, ◌%◌, ◌==◌, ◌↔◌, IsTrue}
use Rattle.std.specs.Prelude.{bit_and}
use Rattle.std.proofs.lemmas.Nat.{and_mask}
use Rattle.std.proofs.lemmas.Bool.{eqb-true, eq-eqb}
use Rattle.paged_memory.specs.Cells.{bytes_of}
use Rattle.paged_memory.specs.declared.Width.{Width}
use Rattle.paged_memory.specs.declared.Width.TheVariants.{Byte, Half, Word, Double}

low_bits : (w : Width) (a : ℕ) → bit_and a (bytes_of w - 1) ≡ a % bytes_of w
low_bits Byte a = and_mask a 0
low_bits Half a = and_mask a 1
low_bits Word a = and_mask a 2
low_bits Double a = and_mask a 3

pub aligned : (w : Width) (a l : ℕ) → l ≡ bytes_of w - 1 → IsTrue (bit_and a l == 0) ↔ (a % bytes_of w ≡ 0)
aligned w a l e = rw (e, low_bits w a) (eqb-true (a % bytes_of w) 0, eq-eqb (a % bytes_of w) 0)

-- Contexts that have done nothing yet.
use Rattle.std.specs.Prelude.{◌≡◌, ℕ, ◌+◌, ◌*◌, ◌<◌, [], length, slice_index, replicate, Some}
use Rattle.rename_file.specs.File.{Bank, File, IsFile, bank}

-- context c with register c for x0, 31 registers in order for x1 to x31, and no rename
pub record IsFirst (b : Bank) (c : ℕ) : Type 0 where
  pub wide : length b.committed ≡ 32
  pub zero : slice_index b.committed 0 ≡ c
  pub others : (r : ℕ) → 0 < r → r < 32 → slice_index b.committed r ≡ 31 * c + 7 + r
  pub renames : b.renames ≡ []

-- each register has the value 0, n extra ones are free, and no context has a rename
pub record IsFresh (f : File) (n : ℕ) : Type 0 where
  pub cells : f.cells ≡ replicate (256 + n) (Some 0)
  pub free : length f.free ≡ n
  pub renames : (c : ℕ) → c < 8 → (bank f c).renames ≡ []
  pub file : IsFile f

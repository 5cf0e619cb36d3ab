-- Signed numbers of a width.
use Rattle.std.specs.Prelude.{ℕ, suc, ℤ, pos, negsuc, ◌-◌, ◌^◌, nat_lt, if◌then◌else◌}

-- the number that these bits are where the highest of them is the sign: n, or n - 2^width
-- (sign extension, 2.2 and 2.3)
abbrev pub signed : ℕ → ℕ → ℤ
signed width n = if nat_lt n (2 ^ (width - 1)) then pos n else negsuc (2 ^ width - suc n)

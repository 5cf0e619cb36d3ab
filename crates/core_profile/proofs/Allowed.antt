-- What the test of a number says.
use Rattle.std.proofs.Common.{◌≡◌, ℕ, ◌<◌, ◌≤◌, true, arith}
use Rattle.core_profile.specs.Tables.{Range, fetch_policy, issue_policy, one_two_four, from_to, range_of, allows, IsIn}
use Rattle.core_profile.specs.declared.key.Key.{Key}
use Rattle.core_profile.specs.declared.key.Key.TheVariants.{AluLatency}

pub is_in : (r : Range) (n : ℕ) → allows r n ≡ true → IsIn r n
unfolding allows
is_in fetch_policy n h = absurd cc
is_in issue_policy n h = absurd cc
is_in one_two_four n h = grind arith
is_in (from_to low high) n h = grind arith

-- the greatest number of a range
most : Range → ℕ
most fetch_policy = 0
most issue_policy = 0
most one_two_four = 4
most (from_to low high) = high

at_most : (r : Range) (n : ℕ) → allows r n ≡ true → n ≤ most r
unfolding most
at_most fetch_policy n h = absurd (is_in fetch_policy n h)
at_most issue_policy n h = absurd (is_in issue_policy n h)
at_most one_two_four n h = (is_in one_two_four n h).1
at_most (from_to low high) n h = (is_in (from_to low high) n h).1

most-range_of : (k : Key) → most (range_of k) ≤ 224
unfolding most
most-range_of AluLatency = omega arith
most-range_of k = omega arith

pub is_byte : (k : Key) (n : ℕ) → allows (range_of k) n ≡ true → n < 256
is_byte k n h = let a : n ≤ most (range_of k) = at_most (range_of k) n h in let b : most (range_of k) ≤ 224 = most-range_of k in omega arith

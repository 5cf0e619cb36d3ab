-- `EightKin` and the eight facts that a program tests.
use Rattle.std.proofs.Common.{◌↔◌, arith}
use Rattle.join_law.specs.declared.places.Eight.{Eight}
use Rattle.join_law.specs.Eight.{EightKin, place_of}
use Rattle.join_law.specs.EightParts.{PartsKin}
use Rattle.join_law.proofs.Laws.{each_place}

module _ {J : Type 0} (is_kin : J → J → Type 0) (joined : J → J → J) where
  kin_from_parts : (x y : Eight J) → PartsKin is_kin x y → EightKin is_kin x y
  kin_from_parts x y k = each_place (λ i. is_kin (place_of x i) (place_of y i)) k.at_0 k.at_1 k.at_2 k.at_3 k.at_4 k.at_5 k.at_6 k.at_7

  parts_from_kin : (x y : Eight J) → EightKin is_kin x y → PartsKin is_kin x y
  parts_from_kin x y k = record { at_0 = k 0 (omega arith); at_1 = k 1 (omega arith); at_2 = k 2 (omega arith); at_3 = k 3 (omega arith); at_4 = k 4 (omega arith); at_5 = k 5 (omega arith); at_6 = k 6 (omega arith); at_7 = k 7 (omega arith) }

  pub parts_are_kin : (x y : Eight J) → PartsKin is_kin x y ↔ EightKin is_kin x y
  parts_are_kin x y = (kin_from_parts x y, parts_from_kin x y)

-- Marks of one origin: place by place, and as kin.
use Rattle.std.proofs.Common.{◌≡◌, ℕ, ◌<◌, ◌↔◌, List, All, IsTrue, nat_eq, sym, ◌∙◌, arith}
use Rattle.std.proofs.lemmas.Grind.{common_steps}
use Rattle.std.proofs.lemmas.List.Elements.{All-contains}
use Rattle.checkpoint.specs.Aligned.{AreMarksOf, IsMarkOf}
use Rattle.checkpoint.specs.AlignedParts.{EachIsMarkOf}
use Rattle.checkpoint.specs.Further.{MarkKin}
use Rattle.checkpoint.specs.MarkValue.{MarkValue}
use Rattle.join_law.specs.Eight.{EightKin, place_of}
use Rattle.join_law.specs.JoinOf.{AllKin}
use Rattle.join_law.specs.declared.places.Eight.{Eight}
use Rattle.join_law.proofs.Laws.{each_place}
use Rattle.origin_set.specs.OriginValue.{OriginValue}

from_parts : (origin : OriginValue) (marks : Eight MarkValue) → EachIsMarkOf origin marks → (i : ℕ) → i < 8 → IsMarkOf origin i (place_of marks i)
from_parts origin marks p = each_place (λ i. IsMarkOf origin i (place_of marks i)) p.at_0 p.at_1 p.at_2 p.at_3 p.at_4 p.at_5 p.at_6 p.at_7

to_parts : (origin : OriginValue) (marks : Eight MarkValue) → AreMarksOf origin marks → EachIsMarkOf origin marks
to_parts origin marks a = record {
  at_0 = a 0 (omega arith);
  at_1 = a 1 (omega arith);
  at_2 = a 2 (omega arith);
  at_3 = a 3 (omega arith);
  at_4 = a 4 (omega arith);
  at_5 = a 5 (omega arith);
  at_6 = a 6 (omega arith);
  at_7 = a 7 (omega arith);
}

pub parts_are_marks : (origin : OriginValue) (marks : Eight MarkValue) → EachIsMarkOf origin marks ↔ AreMarksOf origin marks
parts_are_marks origin marks = (from_parts origin marks, to_parts origin marks)

-- a mark of the origin is one of the context exactly where it has its number
pub is_mark_along : (origin : OriginValue) (context index : ℕ) (mark : MarkValue) → mark.origin ≡ origin → index ≡ mark.context → IsTrue (nat_eq index context) ↔ IsMarkOf origin context mark
is_mark_along origin context index mark same here = (λ h. record { of_origin = same; of_context = grind (arith, common_steps) }, λ m. let e : index ≡ context = here ∙ m.of_context in grind (arith, common_steps))

-- marks of one origin are kin at each place
pub AreMarksOf-kin : (origin : OriginValue) (eights : List (Eight MarkValue)) → All (AreMarksOf origin) eights → AllKin (EightKin MarkKin) eights
AreMarksOf-kin origin eights all x y a b i h =
    let left = All-contains (AreMarksOf origin) eights x all a i h in
    let right = All-contains (AreMarksOf origin) eights y all b i h in
    record { origin = left.of_origin ∙ sym right.of_origin; context = left.of_context ∙ sym right.of_context }

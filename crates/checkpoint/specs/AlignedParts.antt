-- Eight marks of one origin, place by place.
use Rattle.checkpoint.specs.Aligned.{IsMarkOf}
use Rattle.checkpoint.specs.MarkValue.{MarkValue}
use Rattle.join_law.specs.declared.places.Eight.{Eight}
use Rattle.origin_set.specs.OriginValue.{OriginValue}

-- `AreMarksOf`, as the eight facts that a program tests one by one
pub record EachIsMarkOf (origin : OriginValue) (marks : Eight MarkValue) : Type 0 where
  pub at_0 : IsMarkOf origin 0 marks.c0
  pub at_1 : IsMarkOf origin 1 marks.c1
  pub at_2 : IsMarkOf origin 2 marks.c2
  pub at_3 : IsMarkOf origin 3 marks.c3
  pub at_4 : IsMarkOf origin 4 marks.c4
  pub at_5 : IsMarkOf origin 5 marks.c5
  pub at_6 : IsMarkOf origin 6 marks.c6
  pub at_7 : IsMarkOf origin 7 marks.c7

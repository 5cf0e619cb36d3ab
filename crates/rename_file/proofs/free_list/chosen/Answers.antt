use Rattle.std.proofs.Common.{◌∙◌, arith, inl, inr}
use Rattle.std.proofs.lemmas.Bool.{cases_lt}
use Rattle.rename_file.proofs.Masks.{by_mask_one, by_mask_none}
use Rattle.rename_file.proofs.free_list.chosen.Goals as goal

pub at-requires : goal.at-requires
at-requires c =
    elim (cases_lt 0 c.args.count) [
      | inl some ↦ omega (arith, by_mask_one c.from-mask.result c.index.result c.index-2.result (omega (arith, c.index.ensures.bound)) (omega (arith, some, c.requires, c.from-mask.ensures)), c.index.ensures.bound)
      | inr none ↦ omega (arith, by_mask_none c.from-mask.result c.index.result c.index-2.result (omega arith) (omega (arith, none, c.from-mask.ensures)))
    ]

pub returns-clause-one : goal.returns-clause-one
returns-clause-one c = λ one. c.at.ensures ∙ by_mask_one c.from-mask.result c.index.result c.index-2.result (omega (arith, c.index.ensures.bound)) (omega (arith, one, c.from-mask.ensures)) ∙ c.index.ensures.value

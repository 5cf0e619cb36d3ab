use Rattle.std.proofs.Common.{◌≡◌, length, arith}
use Rattle.fetch_policy.proofs.Lanes.{is_of_one, is_least, of_turned}
use Rattle.fetch_policy.proofs.least.least_rank.Goals as goal

pub returns-clause-one : goal.returns-clause-one
returns-clause-one c =
    let eight : length c.args.ranks ≡ 8 = c.fits-ranks.0 in
    let four = c.lesser-four.ensures in
    let two = c.lesser-two.ensures in
    let one = c.lesser-one.ensures in
    is_of_one c.args.ranks _ _ _ _ _ _ _ (of_turned c.args.ranks _ 4 _ (omega (arith, eight)) (four 0 (omega arith))) (of_turned c.args.ranks _ 5 _ (omega (arith, eight)) (four 1 (omega arith))) (of_turned c.args.ranks _ 6 _ (omega (arith, eight)) (four 2 (omega arith))) (of_turned c.args.ranks _ 7 _ (omega (arith, eight)) (four 3 (omega arith))) (of_turned c.lesser-four.result _ 2 _ (omega (arith, c.lesser-four.type_inv)) (two 0 (omega arith))) (of_turned c.lesser-four.result _ 3 _ (omega (arith, c.lesser-four.type_inv)) (two 1 (omega arith))) (of_turned c.lesser-two.result _ 1 _ (omega (arith, c.lesser-two.type_inv)) (one 0 (omega arith)))

pub returns-clause-least : goal.returns-clause-least
returns-clause-least c =
    let eight : length c.args.ranks ≡ 8 = c.fits-ranks.0 in
    let four = c.lesser-four.ensures in
    let two = c.lesser-two.ensures in
    let one = c.lesser-one.ensures in
    is_least c.args.ranks _ _ _ _ _ _ _ (of_turned c.args.ranks _ 4 _ (omega (arith, eight)) (four 0 (omega arith))) (of_turned c.args.ranks _ 5 _ (omega (arith, eight)) (four 1 (omega arith))) (of_turned c.args.ranks _ 6 _ (omega (arith, eight)) (four 2 (omega arith))) (of_turned c.args.ranks _ 7 _ (omega (arith, eight)) (four 3 (omega arith))) (of_turned c.lesser-four.result _ 2 _ (omega (arith, c.lesser-four.type_inv)) (two 0 (omega arith))) (of_turned c.lesser-four.result _ 3 _ (omega (arith, c.lesser-four.type_inv)) (two 1 (omega arith))) (of_turned c.lesser-two.result _ 1 _ (omega (arith, c.lesser-two.type_inv)) (one 0 (omega arith)))

use Rattle.std.proofs.Common.{◌++◌, ◌∷◌, ℕ, arith, sym, ap, ◌∙◌}
use Rattle.std.specs.Fmt.{decimal}
use Rattle.checkpoint_file.proofs.CountLemmas.{labelled}
use Rattle.checkpoint_file.proofs.reading.counts.count_line_at.Goals as goal

pub returns-then-number-gt-GREATEST-clause-only : goal.returns-then-number-gt-GREATEST-clause-only
returns-then-number-gt-GREATEST-clause-only c n rest low e =
    let front = c.in_ok-digits.ensures.only (decimal n ++ (10 ∷ rest)) (labelled n c.args.bytes.now rest e) in
    omega (arith, c.number_at-number.ensures n rest low front, low, c.if-number-gt-GREATEST.true)

pub returns-in_err-rest-clause-only : goal.returns-in_err-rest-clause-only
returns-in_err-rest-clause-only c n rest low e =
    let front = c.in_ok-digits.ensures.only (decimal n ++ (10 ∷ rest)) (labelled n c.args.bytes.now rest e) in
    let number = c.number_at-number.ensures n rest low front in
    absurd (c.in_err-rest.ensures.only rest (front ∙ ap (λ (k : ℕ). decimal k ++ (10 ∷ rest)) (sym number)))

pub returns-clause-only : goal.returns-clause-only
returns-clause-only c n rest low e =
    let front = c.in_ok-digits.ensures.only (decimal n ++ (10 ∷ rest)) (labelled n c.args.bytes.now rest e) in
    let number = c.number_at-number.ensures n rest low front in
    (number, c.in_ok-rest.ensures.only rest (front ∙ ap (λ (k : ℕ). decimal k ++ (10 ∷ rest)) (sym number)))

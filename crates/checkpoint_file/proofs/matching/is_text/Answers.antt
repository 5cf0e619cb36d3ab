use Rattle.std.proofs.Common.{◌≡◌, ◌∙◌, [], ap, arith, length, rules}
use Rattle.std.proofs.lemmas.Grind.{common_steps}
use Rattle.checkpoint_file.proofs.FormLemmas.{nil_of, text_found, text_parts}
use Rattle.checkpoint_file.proofs.matching.is_text.Goals as goal

pub returns-in-Some : goal.returns-in-Some
returns-in-Some g c = (
  λ done.
      let short : length c.in-Some.rest.now ≡ 0 = grind (arith, common_steps, done) in
      text_found c.args.form.now.digest _ c.args.form.now.seal c.args.text.now c.in-Some.rest.now c.in-Some.ensures.found (nil_of c.in-Some.rest.now short),
  λ e.
      let short : length c.in-Some.rest.now ≡ 0 = ap length (c.in-Some.ensures.only [] (e ∙ text_parts c.args.form.now.digest _ c.args.form.now.seal)) in
      grind (arith, common_steps, short),
)

pub returns-in-None : goal.returns-in-None
returns-in-None g c = (λ never. search rules, λ e. absurd (c.in-None.ensures.only [] (e ∙ text_parts c.args.form.now.digest _ c.args.form.now.seal)))

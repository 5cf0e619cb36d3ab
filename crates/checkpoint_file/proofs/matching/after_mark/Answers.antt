use Rattle.std.proofs.Common.{◌++◌, ◌∙◌, List, ℕ, ap, sym}
use Rattle.checkpoint_file.proofs.LineLemmas.{mark_text_at}
use Rattle.checkpoint_file.proofs.matching.after_mark.Goals as goal

pub returns-in_err-rest-clause-only : goal.returns-in_err-rest-clause-only
returns-in_err-rest-clause-only g c rest e = absurd (c.in_err-rest.ensures.only rest (e ∙ ap (λ (t : List ℕ). t ++ rest) (mark_text_at c.args.mark.now _ _ _ c.state.ensures (c.index-number.ensures.value ∙ c.context.ensures) c.count.ensures.value)))

pub returns-clause-found : goal.returns-clause-found
returns-clause-found g c = c.in_ok-rest.ensures.found ∙ ap (λ (t : List ℕ). t ++ c.in_ok-rest.rest.now) (sym (mark_text_at c.args.mark.now _ _ _ c.state.ensures (c.index-number.ensures.value ∙ c.context.ensures) c.count.ensures.value))

pub returns-clause-only : goal.returns-clause-only
returns-clause-only g c rest e = c.in_ok-rest.ensures.only rest (e ∙ ap (λ (t : List ℕ). t ++ rest) (mark_text_at c.args.mark.now _ _ _ c.state.ensures (c.index-number.ensures.value ∙ c.context.ensures) c.count.ensures.value))

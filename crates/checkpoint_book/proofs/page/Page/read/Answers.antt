use Rattle.std.proofs.Common.{ap, ◌∙◌, ◌++◌, ◌∷◌, [], List, ℕ}
use Rattle.checkpoint.specs.MarkValue.{MarkValue}
use Rattle.checkpoint_book.specs.declared.call.Call.{Call}
use Rattle.checkpoint_book.specs.declared.call.Call.TheVariants.{Read}
use Rattle.checkpoint_book.proofs.Histories.{was_read}
use Rattle.checkpoint_book.proofs.page.Page.read.Goals as goal

pub invariant_of-self-2 : goal.invariant_of-self-2
invariant_of-self-2 c =
    let count = c.count.ensures.value ∙ ap (λ (m : MarkValue). m.count) c.mark.ensures in
    let r = was_read c.args.self.now.opening.value.count c.args.pass c.args.self.now.mark.count c.args.self.now.history.items c.push_reserved.new.self.items
    (c.push_reserved.ensures.items ∙ (ap (λ (l : List Call). l ++ Read c.args.pass c.count.result ∷ []) c.reserve.ensures.items ∙ ap (λ (n : ℕ). c.args.self.now.history.items ++ Read c.args.pass n ∷ []) count)) c.args.self.now.legal c.args.self.now.best in
    record { legal = r.0; best = r.1; kin = c.args.self.now.kin }

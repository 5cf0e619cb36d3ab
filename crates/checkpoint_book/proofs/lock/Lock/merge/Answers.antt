use Rattle.std.proofs.Common.{◌∙◌, subst, refl}
use Rattle.checkpoint.specs.MarkValue.{MarkValue}
use Rattle.checkpoint_book.specs.declared.call.Call.TheVariants.{Merge}
use Rattle.checkpoint_book.specs.Foreign.{RefusesForeign}
use Rattle.checkpoint_book.proofs.Histories.{own_added, on_ok}
use Rattle.checkpoint_book.proofs.lock.Lock.merge.Goals as goal

pub returns-clause-ok : goal.returns-clause-ok
returns-clause-ok g c = on_ok c.merge-done.result
    (λ new. c.give.ensures.calls ∙ own_added c.args.pass _ _ (Merge c.args.pass c.args.mark.count) _ refl new c.take-page.ensures.calls.1)
    c.merge-done.ensures.ok

pub returns-clause-foreign : goal.returns-clause-foreign
returns-clause-foreign g c = subst (λ (o : MarkValue). RefusesForeign o c.args.mark c.merge-done.result) c.take-page.ensures.opening c.merge-done.ensures.foreign

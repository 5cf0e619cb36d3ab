use Rattle.std.proofs.Common.{arith, sym, ap, ◌∙◌, ◌++◌, ◌∷◌, [], List, ℕ}
use Rattle.checkpoint.specs.MarkValue.{MarkValue}
use Rattle.checkpoint.specs.Further.{MarkKin}
use Rattle.checkpoint_book.specs.declared.call.Call.{Call}
use Rattle.checkpoint_book.specs.declared.call.Call.TheVariants.{Merge}
use Rattle.checkpoint_book.proofs.Histories.{merged}
use Rattle.checkpoint_book.proofs.page.Page.merge.Goals as goal

pub invariant_of-self-then-count : goal.invariant_of-self-then-count
invariant_of-self-then-count c =
    let near : MarkKin c.args.self.now.mark c.args.mark = c.kin.ensures.0 c.if-not-kin.false in
    let own = c.args.self.now.kin in
    let count = c.count.ensures.value ∙ ap (λ (m : MarkValue). m.count) c.mark-2.ensures in
    let held = c.count-2.ensures.value ∙ ap (λ (m : MarkValue). m.count) c.mark-3.ensures in
    let new = c.count-3.ensures.value ∙ ap (λ (m : MarkValue). m.count) c.mark-4.ensures in
    let less = c.if-count.true in
    let r = merged c.args.self.now.opening.value.count c.args.pass c.args.mark.count c.args.self.now.mark.count c.args.mark.count c.args.self.now.history.items c.push_reserved.new.self.items
    (c.push_reserved.ensures.items ∙ (ap (λ (l : List Call). l ++ Merge c.args.pass c.count.result ∷ []) c.reserve.ensures.items ∙ ap (λ (n : ℕ). c.args.self.now.history.items ++ Merge c.args.pass n ∷ []) count)) c.args.self.now.legal c.args.self.now.best (omega arith) in
    record { legal = r.0; best = r.1; kin = (sym near.origin ∙ own.0, sym near.context ∙ own.1) }

pub invariant_of-self-else-count : goal.invariant_of-self-else-count
invariant_of-self-else-count c =
    let count = c.count.ensures.value ∙ ap (λ (m : MarkValue). m.count) c.mark-2.ensures in
    let held = c.count-2.ensures.value ∙ ap (λ (m : MarkValue). m.count) c.mark-3.ensures in
    let new = c.count-3.ensures.value ∙ ap (λ (m : MarkValue). m.count) c.mark-4.ensures in
    let less = c.if-count.false in
    let r = merged c.args.self.now.opening.value.count c.args.pass c.args.mark.count c.args.self.now.mark.count c.args.self.now.mark.count c.args.self.now.history.items c.push_reserved.new.self.items
    (c.push_reserved.ensures.items ∙ (ap (λ (l : List Call). l ++ Merge c.args.pass c.count.result ∷ []) c.reserve.ensures.items ∙ ap (λ (n : ℕ). c.args.self.now.history.items ++ Merge c.args.pass n ∷ []) count)) c.args.self.now.legal c.args.self.now.best (omega arith) in
    record { legal = r.0; best = r.1; kin = c.args.self.now.kin }

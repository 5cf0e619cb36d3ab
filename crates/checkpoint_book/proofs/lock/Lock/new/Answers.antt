use Rattle.std.proofs.Common.{sym, ap, ◌∙◌, subst, [], ◌∷◌, ◌++◌, Option, Some, List, refl}
use Rattle.atomic_table.specs.Table.{opening}
use Rattle.checkpoint_book.specs.declared.page.Page.{Page}
use Rattle.checkpoint_book.specs.Views.{idle_view, passes_below}
use Rattle.checkpoint_book.specs.OneHistory.{HasOneHistory}
use Rattle.checkpoint_book.proofs.Kept.{begins}
use Rattle.checkpoint_book.proofs.lock.Lock.new.Goals as goal

pub new-requires-2 : goal.new-requires-2
new-requires-2 c =
    let slots = c.push_reserved.ensures.items ∙ ap (λ (l : List (Option Page)). l ++ Some c.new.result ∷ []) c.in_ok-slots.ensures.items in
    subst (λ (l : List (Option Page)). HasOneHistory (record { opening = c.of.result; passes = c.args.passes }) (opening (0 ∷ []) l (idle_view c.of.result.value (passes_below c.args.passes)))) (sym slots)
    (begins (record { opening = c.of.result; passes = c.args.passes }) (0 ∷ []) c.new.result refl c.new.ensures.1 (c.new.ensures.0 ∙ sym c.of.ensures))

use Rattle.std.proofs.Common.{◌<◌, arith, rules}
use Rattle.std.proofs.lemmas.List.Elements.{All-weaker}
use Rattle.word_mask.specs.Mask.{has}
use Rattle.word_mask.proofs.Laws.{has_below}
use Rattle.issue_queue.specs.Candidates.{IsOf}
use Rattle.issue_queue.specs.Views.{view_of}
use Rattle.issue_queue.proofs.ByStamp.{all_first, by_stamp}
use Rattle.issue_queue.proofs.selecting.list_first.Goals as goal

pub returns-then-word-width : goal.returns-then-word-width
returns-then-word-width g c =
    all_first (λ e. g.O.Order.key_of c.args.order.now (view_of e)) c.args.slots.now c.args.width c.args.word c.list_all.new.names.items
    (by_stamp (g.O.Order.key_of c.args.order.now) (c.is_by_stamp.ensures (search rules))) (omega (arith, c.if-word-width.true)) c.list_all.ensures

pub list_best-requires-clause-places : goal.list_best-requires-clause-places
list_best-requires-clause-places g c =
    rw c.as_slice.ensures.value
    (All-weaker (IsOf (λ e. g.O.Order.key_of c.args.order.now (view_of e)) c.args.slots.now (λ p. has c.args.word p)) (λ d. d.place < 64)
    (λ d o. has_below c.args.word d.place (search rules) o.seen_there) c.choose.new.best.items c.choose.ensures.of_places)

pub returns : goal.returns
returns g c = record {
  best = c.choose.new.best.items;
  is_best = c.choose.ensures;
  names_are = rw c.as_slice.ensures.value at c.list_best.ensures.names;
  places = rw c.as_slice.ensures.value at c.list_best.ensures.word;
}

use Rattle.checkpoint_book.proofs.Standing.{stands_for_more}
use Rattle.checkpoint_book.proofs.book.Book.absorb.Goals as goal

pub returns : goal.returns
returns c = λ ps h. record {
  at_0 = stands_for_more _ 0 ps c.args.pass _ _ h.at_0 c.absorb.ensures;
  at_1 = stands_for_more _ 1 ps c.args.pass _ _ h.at_1 c.absorb-2.ensures;
  at_2 = stands_for_more _ 2 ps c.args.pass _ _ h.at_2 c.absorb-3.ensures;
  at_3 = stands_for_more _ 3 ps c.args.pass _ _ h.at_3 c.absorb-4.ensures;
  at_4 = stands_for_more _ 4 ps c.args.pass _ _ h.at_4 c.absorb-5.ensures;
  at_5 = stands_for_more _ 5 ps c.args.pass _ _ h.at_5 c.absorb-6.ensures;
  at_6 = stands_for_more _ 6 ps c.args.pass _ _ h.at_6 c.absorb-7.ensures;
  at_7 = stands_for_more _ 7 ps c.args.pass _ _ h.at_7 c.absorb-8.ensures;
}

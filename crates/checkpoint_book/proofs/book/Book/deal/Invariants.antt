use Rattle.std.proofs.Common.{◌≡◌, ◌+◌, ◌≤◌, vec_len, vec_capacity}
use Rattle.checkpoint_book.specs.Passes.{AreNewPasses, StandForNew}
use Rattle.checkpoint_book.proofs.book.Book.deal.Given as goal

abbrev pub decreases-loop-last : goal.decreases-loop-last
decreases-loop-last l = l.last

-- the passes from `last` on have their own seats
abbrev pub invariant-loop-last : goal.invariant-loop-last
invariant-loop-last l = record {
  rest : StandForNew l.self l.last l.rest;
  room : l.self.passes ≤ vec_capacity l.dealt;
  dealt : AreNewPasses l.self l.self.passes l.last l.dealt.items;
  count : vec_len l.dealt + l.last ≡ l.self.passes;
}

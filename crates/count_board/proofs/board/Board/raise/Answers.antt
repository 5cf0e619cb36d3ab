use Rattle.std.proofs.Common.{arith, ap, subst, ◌≤◌}
use Rattle.count_board.proofs.Greatest.{raised_more, seen_more}
use Rattle.count_board.specs.Counts.{greatest_at}
use Rattle.count_board.proofs.Kept.{raises}
use Rattle.count_board.proofs.board.Board.raise.Goals as goal

pub fetch_max-requires : goal.fetch_max-requires
fetch_max-requires c =
    let own = c.requires.own in
    let sized = c.args.self.now.sized.0 in
    let bound = c.index.ensures.bound in
    let part = own.part in
    (own.board, omega arith, raises _ _ _ _ _ _ bound (omega arith))

pub returns-clause-raised : goal.returns-clause-raised
returns-clause-raised c i = raised_more i _ _ _ _ _ (ap (λ m. m.0.raised) c.fetch_max.ensures.2.1) c.index.ensures.value

pub returns-clause-seen : goal.returns-clause-seen
returns-clause-seen c i =
    let above = c.fetch_max.ensures.2.0.1 in
    let same = c.index.ensures.value in
    let xs = c.args.seat.now.place.me.0.seen in
    let within : greatest_at c.args.context xs ≤ c.fetch_max.result = subst (λ k. greatest_at k xs ≤ c.fetch_max.result) same above in
    seen_more i _ _ _ _ _ (ap (λ m. m.0.seen) c.fetch_max.ensures.2.1) same (omega arith)

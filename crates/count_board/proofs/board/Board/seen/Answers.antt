use Rattle.std.proofs.Common.{arith, ap, subst, ◌≤◌}
use Rattle.count_board.proofs.Greatest.{seen_more}
use Rattle.count_board.specs.Counts.{greatest_at}
use Rattle.count_board.proofs.Kept.{looks}
use Rattle.count_board.proofs.board.Board.seen.Goals as goal

pub load-requires : goal.load-requires
load-requires c =
    let own = c.requires.own in
    let sized = c.args.self.now.sized.0 in
    let bound = c.index.ensures.bound in
    let part = own.part in
    (own.board, omega arith, looks _ _ _ _ _ bound (omega arith))

pub returns-clause-seen : goal.returns-clause-seen
returns-clause-seen c i =
    let same = c.index.ensures.value in
    let xs = c.args.seat.now.place.me.0.seen in
    seen_more i _ _ _ _ _ (ap (λ m. m.0.seen) c.load.ensures.2.1) same (subst (λ k. greatest_at k xs ≤ c.load.result) same c.load.ensures.2.0.1)

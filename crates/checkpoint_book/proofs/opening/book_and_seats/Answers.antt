use Rattle.std.proofs.Common.{◌≡◌}
use Rattle.join_law.proofs.Laws.{each_place}
use Rattle.join_law.specs.Eight.{place_of}
use Rattle.join_law.specs.declared.places.Eight.{Eight}
use Rattle.checkpoint_book.specs.declared.lock.Lock.{Lock}
use Rattle.checkpoint_book.specs.LockSeats.{lock_passes}
use Rattle.checkpoint_book.proofs.Aligned.{openings, locks_aligned}
use Rattle.checkpoint_book.proofs.opening.book_and_seats.Goals as goal

pub returns-clause-opening : goal.returns-clause-opening
returns-clause-opening c = openings _ c.args.opening c.in_ok-l0.ensures.0 c.in_ok-l1.ensures.0 c.in_ok-l2.ensures.0 c.in_ok-l3.ensures.0 c.in_ok-l4.ensures.0 c.in_ok-l5.ensures.0 c.in_ok-l6.ensures.0 c.in_ok-l7.ensures.0

pub invariant_of-result : goal.invariant_of-result
invariant_of-result c =
    let locks : Eight Lock = record { c0 = c.in_ok-l0.l0; c1 = c.in_ok-l1.l1; c2 = c.in_ok-l2.l2; c3 = c.in_ok-l3.l3; c4 = c.in_ok-l4.l4; c5 = c.in_ok-l5.l5; c6 = c.in_ok-l6.l6; c7 = c.in_ok-l7.l7 } in record {
      counted = each_place (λ i. lock_passes (place_of locks i) ≡ c.args.passes) c.in_ok-l0.ensures.1 c.in_ok-l1.ensures.1 c.in_ok-l2.ensures.1 c.in_ok-l3.ensures.1 c.in_ok-l4.ensures.1 c.in_ok-l5.ensures.1 c.in_ok-l6.ensures.1 c.in_ok-l7.ensures.1;
      aligned = locks_aligned locks c.args.opening (openings locks c.args.opening c.in_ok-l0.ensures.0 c.in_ok-l1.ensures.0 c.in_ok-l2.ensures.0 c.in_ok-l3.ensures.0 c.in_ok-l4.ensures.0 c.in_ok-l5.ensures.0 c.in_ok-l6.ensures.0 c.in_ok-l7.ensures.0) c.in_ok-l0.ensures.0 c.requires.aligned;
    }

use Rattle.std.proofs.Common.{arith, sym, ap, ap₂, ◌∙◌, subst, ◌≡◌, ℕ, suc, List, [], ◌∷◌, All}
use Rattle.count_board.specs.Views.{both, fresh}
use Rattle.count_board.specs.Seats.{IsSeatOf, gathered}
use Rattle.count_board.specs.declared.board.Board.{Board}
use Rattle.count_board.specs.declared.board.Seat.{Seat}
use Rattle.count_board.specs.declared.known.Known.{Known}
use Rattle.count_board.proofs.Kept.{sits, joins}
use Rattle.count_board.proofs.Gathers.{both_assoc, both_spent, spent_both, none_left}
use Rattle.count_board.proofs.board.Board.gather.Goals as goal

pub load_new_seat-requires : goal.load_new_seat-requires
load_new_seat-requires c = let sized = c.args.self.now.sized.0 in (omega arith, sits c.args.self.now.table.shared.key _ (fresh c.args.self.now.table.shared.key.seats, []))

first_of : (b : Board) (xs ys : List Seat) (x : Seat) → xs ≡ x ∷ ys → All (IsSeatOf b) xs → IsSeatOf b x
first_of b xs ys x e all = (subst (All (IsSeatOf b)) e all) 0 x (omega arith)

rest_of : (b : Board) (xs ys : List Seat) (x : Seat) → xs ≡ x ∷ ys → All (IsSeatOf b) xs → All (IsSeatOf b) ys
rest_of b xs ys x e all = λ k d l. (subst (All (IsSeatOf b)) e all) (suc k) d (omega arith)

pub loop-seat-init : goal.loop-seat-init
loop-seat-init c =
    let made = c.load_new_seat.ensures in
    let given = c.into_iter-seat-iterator.ensures.into_iter_gives.0 in
    record {
      board = made.0;
      empty = made.1;
      left = subst (All (IsSeatOf c.args.self.now)) (sym given) c.requires.own;
      all = rw (ap (λ m. m.0) made.2, given) (spent_both (gathered c.args.seats.items));
    }

pub join_seat-requires : goal.join_seat-requires
join_seat-requires c =
    let i = c.loop-seat.invariant in
    let own = first_of c.args.self.now _ _ _ c.in-Some.ensures.steps.0 i.left in
    let sized = c.args.self.now.sized.0 in
    (i.board, own.board, own.empty, omega arith, joins _ _ _ _ _)

pub loop-seat-preserved : goal.loop-seat-preserved
loop-seat-preserved c =
    let i = c.loop-seat.invariant in
    let steps = c.in-Some.ensures.steps.0 in
    let now = c.join_seat.ensures in
    record {
      board = now.0 ∙ i.board;
      empty = ap (λ m. m.1) now.2 ∙ i.empty;
      left = rest_of c.args.self.now _ _ _ steps i.left;
      all = ap (λ m. both m.0 (gathered c.next.new.self.rest.items)) now.2
          ∙ both_assoc c.loop-seat.all.place.me.0 c.in-Some.seat.place.me.0 (gathered c.next.new.self.rest.items)
          ∙ ap (λ (l : List Seat). both c.loop-seat.all.place.me.0 (gathered l)) (sym steps)
          ∙ i.all;
    }

pub returns-clause-own : goal.returns-clause-own
returns-clause-own c = c.loop-seat.invariant.board

pub returns-clause-knows : goal.returns-clause-knows
returns-clause-knows c = let i = c.loop-seat.invariant in let none = none_left c.loop-seat.seat-iterator.rest.items (sym c.loop-seat.seat-iterator.rest.ok.0 ∙ c.in-None.ensures.steps.0) in
    let v = c.loop-seat.all.place.me.0 in
    ap₂ (λ (a : Known) (b : List (ℕ × Unit {0})). (a, b)) (sym (both_spent v) ∙ (ap (λ (l : List Seat). both v (gathered l)) (sym none) ∙ i.all)) i.empty

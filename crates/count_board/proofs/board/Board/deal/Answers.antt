use Rattle.std.proofs.Common.{arith, sym, ap, ap₂, ◌∙◌, subst, ◌≡◌, ◌-◌, ℕ, List, [], All}
use Rattle.count_board.specs.Counts.{greatest_at}
use Rattle.count_board.specs.Views.{fresh, rest, one}
use Rattle.count_board.specs.Seats.{IsSeatOf, IsNew}
use Rattle.count_board.specs.declared.board.Board.{Board}
use Rattle.count_board.specs.declared.board.Seat.{Seat}
use Rattle.count_board.specs.declared.known.Known.{Known}
use Rattle.count_board.proofs.Kept.{splits}
use Rattle.std.proofs.lemmas.List.Elements.{All-push}
use Rattle.atomic_table.specs.Table.{Splits}
use Rattle.count_board.specs.GreatestCounts.{HasGreatestCounts}
use Rattle.count_board.proofs.board.Board.deal.Goals as goal

abbrev IsDealt : Board → Seat → Type 0
IsDealt b s = IsSeatOf b s × IsNew s

nothing : (v : Known) → v ≡ fresh 1 → (i : ℕ) → (greatest_at i v.raised ≡ 0) × (greatest_at i v.seen ≡ 0)
nothing v e i = (ap (λ (k : Known). greatest_at i k.raised) e, ap (λ (k : Known). greatest_at i k.seen) e)

pub split_seat-place-requires : goal.split_seat-place-requires
split_seat-place-requires c =
    let i = c.loop.invariant in
    let sized = c.args.self.now.sized.0 in
    let key = c.args.self.now.table.shared.key in
    let more = c.loop-test.true in
    let few = c.loop.auto.counter in
    (i.board, omega arith, subst (λ (v : Known). Splits (HasGreatestCounts key) c.loop.first.place.id v (rest v) (one v)) (sym (ap (λ m. m.0) i.first)) (splits key _ (c.args.self.now.seats - (c.loop.counter - 1)) (omega arith)))

pub loop-preserved : goal.loop-preserved
loop-preserved c =
    let i = c.loop.invariant in
    let split = c.split_seat-place.ensures in
    let push = c.push_reserved.ensures in
    let few = c.loop.auto.counter in
    record {
      board = split.0 ∙ i.board;
      first = split.2 ∙ ap₂ (λ (a : Known) (b : List (ℕ × Unit {0})). (a, b)) (ap (λ m. rest m.0) i.first ∙ ap fresh (omega arith)) (ap (λ m. m.1) i.first);
      room = let cap = push.capacity in let r = i.room in omega arith;
      count = let len = push.len in let n = i.count in omega arith;
      dealt = subst (All (IsDealt c.args.self.now)) (sym push.items) (All-push (IsDealt c.args.self.now) c.loop.dealt.items _ i.dealt
          (record { board = split.3 ∙ i.board; part = ap (λ m. m.0.parts) split.4; empty = ap (λ m. m.1) split.4 }, nothing _ (ap (λ m. m.0) split.4)));
    }

pub returns : goal.returns
returns c =
    let i = c.loop.invariant in
    let own = c.requires.own in
    let push = c.push_reserved-2.ensures in
    let few = c.loop.auto.counter in
    let end = c.loop-test.false in
    let full = c.loop.auto.counter-end (let some = own.2 in omega arith) in
    let is : c.loop.first.place.me ≡ (fresh 1, []) = i.first ∙ ap (λ (n : ℕ). (fresh n, [])) (omega arith) in record {
      count = let len = push.len in let n = i.count in omega arith;
      seats = subst (All (IsDealt c.args.self.now)) (sym push.items) (All-push (IsDealt c.args.self.now) c.loop.dealt.items _ i.dealt
          (record { board = i.board; part = ap (λ m. m.0.parts) is; empty = ap (λ m. m.1) is }, nothing _ (ap (λ m. m.0) is)));
    }

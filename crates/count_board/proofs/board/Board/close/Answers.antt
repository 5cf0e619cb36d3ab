use Rattle.std.proofs.Common.{arith, ap, ◌∙◌, ◌≡◌, ◌<◌, ◌≤◌, ℕ, max, map, All, List, [], ◌∷◌, length, slice_index}
use Rattle.count_board.specs.Counts.{greatest, greatest_at}
use Rattle.count_board.specs.Seats.{raised_at, seen_at, opening_of, gathered}
use Rattle.count_board.specs.declared.known.Known.{Known}
use Rattle.count_board.proofs.Kept.{settles}
use Rattle.count_board.proofs.Gathers.{gathered_parts, gathered_raised, gathered_seen, eight_of}
use Rattle.count_board.proofs.board.Board.close.Goals as goal
use Rattle.count_board.proofs.board.Board.close.Goals.{After-free}

pub free-requires : goal.free-requires
free-requires c = let none = c.args.self.sized.1 in let counts = c.close_with-closed.ensures.counts.1 in λ k l. absurd (omega arith)

abbrev row : After-free → List ℕ
row c = c.word.result ∷ c.word-2.result ∷ c.word-3.result ∷ c.word-4.result ∷ c.word-5.result ∷ c.word-6.result ∷ c.word-7.result ∷ c.word-8.result ∷ []

-- the words are the greatest counts, and no seat has seen more
settled : (c : After-free) → ((i : ℕ) → i < 8 → slice_index (row c) i ≡ greatest (slice_index (opening_of c.args.self) i) (map (raised_at i) c.args.seats.items)) × ((i : ℕ) → i < 8 → All (λ s. seen_at i s ≤ slice_index (row c) i) c.args.seats.items)
settled c =
    let ss = c.args.seats.items in
    let knows : c.gather-all.result.place.me.0 ≡ gathered ss = ap (λ m. m.0) c.gather-all.ensures.knows in
    let parts : c.gather-all.result.place.me.0.parts ≡ length ss = ap (λ (k : Known). k.parts) knows ∙ gathered_parts c.args.self ss c.requires.own in
    let full : c.len.result ≡ c.args.self.seats = c.if-len-self.false in
    let len = c.len.ensures in
    let r = settles c.args.self.table.shared.key c.gather-all.result.place.id c.gather-all.result.place.me.0 _ _ (let counted = c.args.self.counted in omega arith) c.close_with-closed.ensures.values.2 in
    let same : row c ≡ _ = eight_of _ _ _ _ _ _ _ _ _ r.0 c.word.ensures c.word-2.ensures c.word-3.ensures c.word-4.ensures c.word-5.ensures c.word-6.ensures c.word-7.ensures c.word-8.ensures in (
      (λ i l. ap (λ (w : List ℕ). slice_index w i) same ∙ (r.1 i l ∙ (ap (λ (k : Known). max (slice_index (opening_of c.args.self) i) (greatest_at i k.raised)) knows ∙ gathered_raised (slice_index (opening_of c.args.self) i) i ss))),
      (λ i l. gathered_seen (slice_index (row c) i) i ss
          (let all = ap (λ (k : Known). greatest_at i k.seen) knows in let word = ap (λ (w : List ℕ). slice_index w i) same in let within = r.2 i l in omega arith)),
    )

pub returns-clause-counts : goal.returns-clause-counts
returns-clause-counts c = (settled c).0

pub returns-clause-seen : goal.returns-clause-seen
returns-clause-seen c = (settled c).1

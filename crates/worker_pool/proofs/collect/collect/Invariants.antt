use Rattle.std.proofs.Common.{◌≡◌, ◌+◌, ◌<◌, ◌≤◌, ◌++◌, [], ℕ, All, List, length, vec_len, vec_capacity}
use Rattle.std.specs.List.{sum_by}
use Rattle.worker_pool.specs.declared.turn.Turn.{Turn}
use Rattle.worker_pool.specs.Numbers.{numbers, ended}
use Rattle.worker_pool.specs.Logs.{IsLogOf}
use Rattle.worker_pool.specs.Turns.{turns_ended, Each, IsTurn}
use Rattle.worker_pool.specs.Seats.{AreNewRuns}
use Rattle.worker_pool.specs.Results.{IsTotal}
use Rattle.worker_pool.proofs.collect.collect.Given as goal

abbrev pub invariant-loop-turn : goal.invariant-loop-turn
invariant-loop-turn g l = record {
  room : vec_len l.fn.turns ≤ vec_capacity l.seats;
  count : vec_len l.seats + length l.turn-iterator.rest.items ≡ vec_len l.fn.turns;
  turns : All (IsTurn (g.W.Work.is_own l.work) g.W.Work.room (g.W.Work.gives l.work) g.J.Join.is_kin g.J.Join.joined l.jobs) l.turn-iterator.rest.items;
  own : All (g.W.Work.is_own l.work) l.seats.items;
  late : 0 < vec_len l.seats → l.left.items ≡ [];
  ended : (h : ℕ → ℕ) → ended h l.ends.items + turns_ended h l.turn-iterator.rest.items + sum_by h l.left.items ≡ sum_by h (numbers 0 l.jobs);
  kin : (k : ℕ) (r : g.row.J.Denot) → g.W.Work.gives l.work k r → g.J.Join.is_kin l.total r;
  total : IsTotal (g.W.Work.gives l.work) g.J.Join.is_kin g.J.Join.joined l.fn.opening l.ends.items l.total;
  runs : (before : List g.row.W-Seat.Denot) → Each (λ (b : g.row.W-Seat.Denot) (t : Turn g.row.W-Seat.Denot g.row.J.Denot g.row.W-Note.Denot). IsLogOf (g.W.Work.is_own l.work) g.W.Work.room g.W.Work.runs (g.W.Work.gives l.work) g.J.Join.is_kin g.J.Join.joined b t.seat t.log) before l.fn.turns.items
      → (done : List g.row.W-Seat.Denot) × (rest : List g.row.W-Seat.Denot) × (done ++ rest ≡ before) × AreNewRuns g.W.Work.runs done l.seats.items l.ends.items
      × Each (λ (b : g.row.W-Seat.Denot) (t : Turn g.row.W-Seat.Denot g.row.J.Denot g.row.W-Note.Denot). IsLogOf (g.W.Work.is_own l.work) g.W.Work.room g.W.Work.runs (g.W.Work.gives l.work) g.J.Join.is_kin g.J.Join.joined b t.seat t.log) rest l.turn-iterator.rest.items;
}

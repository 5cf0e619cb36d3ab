use Rattle.std.proofs.Common.{arith, ap, sym, subst, ◌∙◌, ◌≡◌, ◌++◌, ◌∷◌, [], ℕ, All, List, Option, None, refl, length}
use Rattle.join_law.proofs.JoinLemmas.{IsJoinOf-one}
use Rattle.worker_pool.specs.Seats.{HasRoom}
use Rattle.worker_pool.specs.Results.{AreResults}
use Rattle.worker_pool.proofs.Logs.{log_of_nothing}
use Rattle.worker_pool.proofs.NewRuns.{length-numbers}
use Rattle.worker_pool.proofs.Together.{all_kin, only_one, one_runs}
use Rattle.worker_pool.proofs.alone.run_alone.Given.{Over}
use Rattle.worker_pool.proofs.alone.run_alone.Goals as goal
use Rattle.worker_pool.proofs.alone.run_alone.Goals.{After-unwrap-seat}

-- the one seat
the_seat : (g : Over) (c : After-unwrap-seat g) → (c.pop.new.self.items ≡ []) × (c.args.seats.items ≡ c.unwrap-seat.result ∷ [])
the_seat g c = only_one c.args.seats.items c.pop.new.self.items c.pop.result c.unwrap-seat.result c.pop.ensures.items c.unwrap-seat.ensures (let n = c.requires.one in let ok = c.args.seats.ok.0 in omega arith)

has_room : (g : Over) (c : After-unwrap-seat g) → HasRoom (g.W.Work.is_own c.args.work.now) g.W.Work.room c.args.jobs c.unwrap-seat.result
has_room g c = (subst (All (HasRoom (g.W.Work.is_own c.args.work.now) g.W.Work.room c.args.jobs)) (the_seat g c).1 c.requires.seats) 0 c.unwrap-seat.result (omega arith)

pub run_each-requires-clause-own : goal.run_each-requires-clause-own
run_each-requires-clause-own g c = (has_room g (goal.at.run_each-requires-clause-own g c).After-unwrap-seat).own

pub run_each-requires-clause-room : goal.run_each-requires-clause-room
run_each-requires-clause-room g c = let r = (has_room g (goal.at.run_each-requires-clause-room g c).After-unwrap-seat).room in let l = ap length c.in_ok-all.ensures in let n = length-numbers 0 c.args.jobs in omega arith

pub run_each-requires-clause-kin : goal.run_each-requires-clause-kin
run_each-requires-clause-kin g c = all_kin g.met.J.Join.laws (g.W.Work.gives c.args.work.now) c.args.opening c.requires.kin

pub returns-clause-runs : goal.returns-clause-runs
returns-clause-runs g c =
    let before = (goal.at.returns-clause-runs g c).After-unwrap-seat in
    let one = the_seat g before in
    let own = (has_room g before).own in
    let push = c.push_reserved.ensures.items ∙ ap (λ (l : List g.row.W-Seat.Denot). l ++ c.in_ok-turn.turn.seat ∷ []) one.0 in
    one_runs g.W.Work.runs c.args.seats.items c.push_reserved.new.self.items c.unwrap-seat.result c.in_ok-turn.turn.seat c.in_ok-turn.turn.log.ends.items one.1 push
    ((c.in_ok-turn.ensures.ran c.unwrap-seat.result (log_of_nothing _ _ _ _ _ _ c.unwrap-seat.result _ (record { ends = c.new.result; total = None }) own refl c.new.ensures.items ([], subst (λ (es : List (ℕ × Option g.row.W-Note.Denot)). AreResults (g.W.Work.gives c.args.work.now) es []) (sym c.new.ensures.items) tt, refl))).runs)

pub returns-clause-total : goal.returns-clause-total
returns-clause-total g c = let l = c.in_ok-turn.ensures.logged in (l.0, l.1, c.added-total.ensures.join (c.args.opening ∷ []) l.0 (IsJoinOf-one g.met.J.Join.laws c.args.opening) l.2)

use Rattle.std.proofs.Common.{arith, ap, sym, subst, ◌∙◌, ◌≡◌, ◌++◌, ◌∷◌, [], ℕ, All, length, List, Option}
use Rattle.std.specs.List.{sum_by}
use Rattle.std.proofs.lemmas.List.{nil_from_length}
use Rattle.std.proofs.lemmas.List.Elements.{All-push}
use Rattle.std.proofs.lemmas.List.Sums.{sum_by-cons, sum_by-append}
use Rattle.join_law.proofs.JoinLemmas.{IsJoinOf-one}
use Rattle.worker_pool.specs.declared.turn.Turn.{Turn}
use Rattle.worker_pool.specs.Numbers.{numbers, ended}
use Rattle.worker_pool.specs.Results.{AreResults}
use Rattle.worker_pool.specs.Logs.{IsLogOf}
use Rattle.worker_pool.specs.Turns.{turns_ended, IsTurn}
use Rattle.worker_pool.proofs.Steps.{All-first, All-rest}
use Rattle.worker_pool.proofs.Results.{results_append}
use Rattle.worker_pool.proofs.NewRuns.{so_far_begins, so_far_next, so_far_ends, ended_more, sum_ones, length-numbers}
use Rattle.worker_pool.proofs.collect.collect.Given.{Over}
use Rattle.worker_pool.proofs.collect.collect.Goals as goal
use Rattle.worker_pool.proofs.collect.collect.Goals.{In-Some, In-None}

-- what was run with a seat in a turn
abbrev LogIn : (g : Over) → g.row.W.Denot → g.row.W-Seat.Denot → Turn g.row.W-Seat.Denot g.row.J.Denot g.row.W-Note.Denot → Type 0
LogIn g work b t = IsLogOf (g.W.Work.is_own work) g.W.Work.room g.W.Work.runs (g.W.Work.gives work) g.J.Join.is_kin g.J.Join.joined b t.seat t.log

abbrev TurnOf : (g : Over) → g.row.W.Denot → ℕ → Turn g.row.W-Seat.Denot g.row.J.Denot g.row.W-Note.Denot → Type 0
TurnOf g work jobs t = IsTurn (g.W.Work.is_own work) g.W.Work.room (g.W.Work.gives work) g.J.Join.is_kin g.J.Join.joined jobs t

this_turn : (g : Over) (c : In-Some g) → TurnOf g c.args.work.now c.args.jobs c.in-Some.turn
this_turn g c = All-first (TurnOf g c.args.work.now c.args.jobs) _ _ _ c.in-Some.ensures.steps.0 c.loop-turn.invariant.turns

pub loop-turn-init : goal.loop-turn-init
loop-turn-init g c =
    let given = c.into_iter-turn-iterator.ensures.into_iter_gives.0 in
    let len = ap length given in
    let ok = c.args.turns.ok.0 in
    let cap = c.len.ensures in
    let seats = c.in_ok-seats.ensures in
    let ends = c.in_ok-ends.ensures in
    record {
      room = (let e = seats.exact in omega arith);
      count = (let z = seats.len in omega arith);
      turns = subst (All (TurnOf g c.args.work.now c.args.jobs)) (sym given) c.requires.turns;
      own = λ k d l. absurd (let z = ap length seats.items in omega arith);
      late = λ some. absurd (let z = seats.len in omega arith);
      ended = λ h. let e = ap (turns_ended h) given in let z = ap (ended h) ends.items in let r = c.requires.jobs h in omega arith;
      kin = c.requires.opening;
      total = ([], subst (λ (es : List (ℕ × Option g.row.W-Note.Denot)). AreResults (g.W.Work.gives c.args.work.now) es []) (sym ends.items) tt, IsJoinOf-one g.met.J.Join.laws c.args.opening);
      runs = λ before each. so_far_begins g.W.Work.runs (LogIn g c.args.work.now) before c.args.turns.items _ _ _ seats.items ends.items given each;
    }

pub run_each-requires-clause-own : goal.run_each-requires-clause-own
run_each-requires-clause-own g c = (this_turn g c).own

pub run_each-requires-clause-logged : goal.run_each-requires-clause-logged
run_each-requires-clause-logged g c = (this_turn g c).logged

pub run_each-requires-clause-room : goal.run_each-requires-clause-room
run_each-requires-clause-room g c =
    let t = (this_turn g c).room in
    let e = c.loop-turn.invariant.ended (λ _. 1) in
    let s = ap (turns_ended (λ _. 1)) c.in-Some.ensures.steps.0 in
    let a = sum_by-cons (λ (u : Turn g.row.W-Seat.Denot g.row.J.Denot g.row.W-Note.Denot). ended (λ _. 1) u.log.ends.items) c.in-Some.turn c.next.new.self.rest.items in
    let l = sum_ones c.loop-turn.left.items in
    let n = sum_ones (numbers 0 c.args.jobs) in
    let m = length-numbers 0 c.args.jobs in omega arith

pub loop-turn-preserved : goal.loop-turn-preserved
loop-turn-preserved g c =
    let i = c.loop-turn.invariant in
    let steps = c.in-Some.ensures.steps.0 in
    let len = ap length steps in
    let push = c.push_reserved.ensures in
    let did = c.in_ok-ran.ensures in
    let more = c.in_ok-append.ensures in
    let none = c.new-left.ensures.items in
    let l = did.logged in
    let o = i.total in
    record {
      room = (let a = push.capacity in let r = i.room in omega arith);
      count = (let a = push.len in let b = i.count in omega arith);
      turns = All-rest (TurnOf g c.args.work.now c.args.jobs) _ _ _ steps i.turns;
      own = subst (All (g.W.Work.is_own c.args.work.now)) (sym push.items) (All-push (g.W.Work.is_own c.args.work.now) c.loop-turn.seats.items _ i.own did.own);
      late = λ _. none;
      ended = λ h.
          let a = i.ended h in
          let b = ended_more h c.in-Some.turn.log.ends.items c.in_ok-ran.ran.log.ends.items c.loop-turn.left.items did.jobs in
          let d = ap (ended h) more.items in
          let e = sum_by-append (λ (x : ℕ × Option g.row.W-Note.Denot). h x.0) c.loop-turn.ends.items c.in_ok-ran.ran.log.ends.items in
          let s = ap (turns_ended h) steps in
          let f = sum_by-cons (λ (u : Turn g.row.W-Seat.Denot g.row.J.Denot g.row.W-Note.Denot). ended h u.log.ends.items) c.in-Some.turn c.next.new.self.rest.items in
          let z = ap (sum_by h) none in omega arith;
      kin = c.added-total.ensures.kin;
      total = (
        o.0 ++ l.0,
        subst (λ (es : List (ℕ × Option g.row.W-Note.Denot)). AreResults (g.W.Work.gives c.args.work.now) es (o.0 ++ l.0)) (sym more.items) (results_append (g.W.Work.gives c.args.work.now) c.loop-turn.ends.items c.in_ok-ran.ran.log.ends.items o.0 l.0 o.1 l.1),
        c.added-total.ensures.join (c.args.opening ∷ o.0) l.0 o.2 l.2,
      );
      runs = λ before each. so_far_next g.W.Work.runs (LogIn g c.args.work.now) before c.loop-turn.seats.items c.push_reserved.new.self.items c.loop-turn.ends.items c.append.new.self.items c.in_ok-ran.ran.log.ends.items c.loop-turn.turn-iterator.rest.items c.next.new.self.rest.items c.in-Some.turn c.in_ok-ran.ran.seat steps push.items more.items (λ b r. (did.ran b r).runs) (i.runs before each);
    }

none_left : (g : Over) (c : In-None g) → c.loop-turn.turn-iterator.rest.items ≡ []
none_left g c = nil_from_length _ (sym c.loop-turn.turn-iterator.rest.ok.0 ∙ c.in-None.ensures.steps.0)

pub returns-clause-runs : goal.returns-clause-runs
returns-clause-runs g c = λ before each. so_far_ends g.W.Work.runs (LogIn g c.args.work.now) before c.loop-turn.seats.items c.loop-turn.ends.items _ (none_left g (goal.at.returns-clause-runs g c).In-None) (c.loop-turn.invariant.runs before each)

pub returns-clause-jobs : goal.returns-clause-jobs
returns-clause-jobs g c = λ h.
    let i = c.loop-turn.invariant in
    let none = none_left g (goal.at.returns-clause-jobs g c).In-None in
    let len = ap length none in
    let n = i.count in
    let some = c.requires.some in
    let z = ap (sum_by h) (i.late (omega arith)) in
    let t = ap (turns_ended h) none in
    let e = i.ended h in omega arith

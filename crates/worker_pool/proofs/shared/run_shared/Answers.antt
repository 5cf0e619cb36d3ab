use Rattle.std.proofs.Common.{arith, ap, sym, subst, ◌∙◌, ◌≡◌, ◌-◌, ℕ, All, List, length, vec_len}
use Rattle.std.specs.declared.alloc.Global.{Global}
use Rattle.std.specs.declared.vec.Vec.{Vec}
use Rattle.std.proofs.lemmas.List.{length-map}
use Rattle.atomic_blocks.specs.Lent.{RowsId}
use Rattle.crossbeam_deque.specs.Handles.{worker_deque}
use Rattle.worker_pool.specs.declared.thief.Thief.{Thief}
use Rattle.worker_pool.specs.declared.turn.Turn.{Turn}
use Rattle.worker_pool.specs.declared.shift.Shift.{Shift}
use Rattle.worker_pool.specs.Rule.{whole}
use Rattle.worker_pool.specs.Owners.{Owner, IsOwner, dealt_in, taken_by, owned}
use Rattle.worker_pool.specs.Thieves.{IsRowOf, IsNewRow, taken_in_rows}
use Rattle.worker_pool.specs.Kits.{IsReady}
use Rattle.worker_pool.specs.Logs.{IsLogOf}
use Rattle.worker_pool.specs.Shifts.{owners_in, rows_in, turns_of}
use Rattle.worker_pool.specs.Turns.{turns_ended, Each, IsTurn}
use Rattle.worker_pool.proofs.Sorted.{if_ok}
use Rattle.worker_pool.proofs.Together.{same_many, kits_ready, Worked, all_worked, rows_are, owned_are, owners_are, dealt_as_before, taken_is_ended, turns_are, logs_are}
use Rattle.worker_pool.proofs.shared.run_shared.Given.{Over}
use Rattle.worker_pool.proofs.shared.run_shared.Goals as goal
use Rattle.worker_pool.proofs.shared.run_shared.Goals.{In_ok-rows, In_ok-kits, In_ok-shifts}

-- as many owners as workers
many : (g : Over) (c : In_ok-rows g) → vec_len c.cut_rows.new.owners ≡ c.args.workers
many g c =
    let same = ap length c.in_ok-rows.ensures.same in
    let a = length-map c.cut_rows.new.owners.items (λ (o : Owner). worker_deque o) in
    let b = length-map c.in_ok-owners.owners.items (λ (o : Owner). worker_deque o) in
    let n = c.in_ok-owners.ensures.len in
    let x = c.cut_rows.new.owners.ok.0 in let y = c.in_ok-owners.owners.ok.0 in omega arith

pub kits-requires-clause-many : goal.kits-requires-clause-many
kits-requires-clause-many g c =
    let n = many g (goal.at.kits-requires-clause-many g c).In_ok-rows in
    let s = c.requires.many in let r = c.in_ok-rows.ensures.many in (omega arith, omega arith)

pub kits-requires-clause-owners : goal.kits-requires-clause-owners
kits-requires-clause-owners g c = let w = c.requires.workers in (whole - c.args.workers, omega arith, c.in_ok-rows.ensures.parts)

pub kits-requires-clause-rows : goal.kits-requires-clause-rows
kits-requires-clause-rows g c = subst (λ (ds : List (RowsId × Global)). All (IsNewRow ds) c.in_ok-rows.rows.items) (sym c.in_ok-rows.ensures.same) c.in_ok-rows.ensures.rows

ready : (g : Over) (c : In_ok-kits g) → All (IsReady (g.W.Work.is_own c.args.work.now) g.W.Work.room c.args.jobs) c.in_ok-kits.kits.items
ready g c = kits_ready (g.W.Work.is_own c.args.work.now) g.W.Work.room c.args.jobs c.in_ok-kits.kits.items c.args.seats.items c.in_ok-kits.ensures.seats c.requires.seats

pub run_kits-requires-clause-ready : goal.run_kits-requires-clause-ready
run_kits-requires-clause-ready g c = λ _ _. ready g (goal.at.run_kits-requires-clause-ready g c).In_ok-kits

-- each worker did what its kit asked
worked : (g : Over) (c : In_ok-shifts g) → Each (Worked (g.W.Work.is_own c.args.work.now) g.W.Work.room g.W.Work.runs (g.W.Work.gives c.args.work.now) g.J.Join.is_kin g.J.Join.joined c.args.jobs (owned c.cut_rows.new.owners.items)) c.in_ok-kits.kits.items c.in_ok-shifts.shifts.items
worked g c = all_worked _ _ _ _ _ _ _ _ c.in_ok-kits.kits.items c.in_ok-shifts.shifts.items (let l = c.in_ok-shifts.ensures.len in let a = c.in_ok-kits.kits.ok.0 in let b = c.in_ok-shifts.shifts.ok.0 in omega arith) c.in_ok-shifts.ensures.did c.in_ok-kits.ensures.rows
    (kits_ready (g.W.Work.is_own c.args.work.now) g.W.Work.room c.args.jobs c.in_ok-kits.kits.items c.args.seats.items c.in_ok-kits.ensures.seats c.requires.seats)

-- the owners that came back are those of the deques that were dealt
same_deques : (g : Over) (c : In_ok-shifts g) (owners : List Owner) → owners ≡ owners_in c.in_ok-shifts.shifts.items → owned owners ≡ owned c.cut_rows.new.owners.items
same_deques g c owners e =
    ap (λ (os : List Owner). owned os) e
    ∙ (owned_are _ _ _ _ _ _ _ _ c.in_ok-kits.kits.items c.in_ok-shifts.shifts.items (worked g c)
    ∙ ap (λ (os : List Owner). owned os) c.in_ok-kits.ensures.owners)

same_parts : (g : Over) (c : In_ok-shifts g) (owners : List Owner) → owners ≡ owners_in c.in_ok-shifts.shifts.items → All (IsOwner (whole - c.args.workers)) owners
same_parts g c owners e = subst (All (IsOwner (whole - c.args.workers))) (sym e)
    (owners_are _ _ _ _ _ _ _ _ (whole - c.args.workers) c.in_ok-kits.kits.items c.in_ok-shifts.shifts.items (worked g c) (subst (All (IsOwner (whole - c.args.workers))) (sym c.in_ok-kits.ensures.owners) c.in_ok-rows.ensures.parts))

-- as many rows as workers
row_count : (g : Over) (c : In_ok-shifts g) (rows : Vec (Vec Thief Global) Global) → rows.items ≡ rows_in c.in_ok-shifts.shifts.items → vec_len rows ≡ c.args.workers
row_count g c rows e =
    let l = ap length e in
    let m = length-map c.in_ok-shifts.shifts.items (λ (s : Shift g.row.W-Seat.Denot g.row.J.Denot g.row.W-Note.Denot). s.supply.row) in
    let a = same_many c.in_ok-kits.kits.items c.args.seats.items c.in_ok-kits.ensures.seats in
    let n = c.in_ok-shifts.ensures.len in let w = c.requires.many in
    let x = rows.ok.0 in let y = c.in_ok-shifts.shifts.ok.0 in let z = c.in_ok-kits.kits.ok.0 in let v = c.args.seats.ok.0 in omega arith

pub absorb_rows-requires-clause-rows : goal.absorb_rows-requires-clause-rows
absorb_rows-requires-clause-rows g c =
    let at = (goal.at.absorb_rows-requires-clause-rows g c).In_ok-shifts in
    let got = c.in_ok-gathered.ensures in
    subst (λ (ds : List (RowsId × Global)). All (IsRowOf ds) c.in_ok-gathered.gathered.rows.items) (sym (same_deques g at c.in_ok-gathered.gathered.owners.items got.owners))
    (subst (All (IsRowOf (owned c.cut_rows.new.owners.items))) (sym got.rows) (rows_are _ _ _ _ _ _ _ _ c.in_ok-kits.kits.items c.in_ok-shifts.shifts.items (worked g at)))

pub absorb_rows-requires-clause-few : goal.absorb_rows-requires-clause-few
absorb_rows-requires-clause-few g c = let n = row_count g (goal.at.absorb_rows-requires-clause-few g c).In_ok-shifts c.in_ok-gathered.gathered.rows c.in_ok-gathered.ensures.rows in let w = c.requires.workers in omega arith

pub absorb_rows-requires-clause-parts : goal.absorb_rows-requires-clause-parts
absorb_rows-requires-clause-parts g c =
    let at = (goal.at.absorb_rows-requires-clause-parts g c).In_ok-shifts in
    let n = row_count g at c.in_ok-gathered.gathered.rows c.in_ok-gathered.ensures.rows in
    subst (λ (k : ℕ). All (IsOwner (whole - k)) c.in_ok-gathered.gathered.owners.items) (sym n) (same_parts g at c.in_ok-gathered.gathered.owners.items c.in_ok-gathered.ensures.owners)

pub collect-requires-clause-turns : goal.collect-requires-clause-turns
collect-requires-clause-turns g c = subst (All (IsTurn (g.W.Work.is_own c.args.work.now) g.W.Work.room (g.W.Work.gives c.args.work.now) g.J.Join.is_kin g.J.Join.joined c.args.jobs)) (sym c.in_ok-gathered.ensures.turns)
    (turns_are _ _ _ _ _ _ _ _ c.in_ok-kits.kits.items c.in_ok-shifts.shifts.items (worked g (goal.at.collect-requires-clause-turns g c).In_ok-shifts))

-- what ended and what is left is what was dealt
pub collect-requires-clause-jobs : goal.collect-requires-clause-jobs
collect-requires-clause-jobs g c = λ h.
    let all = worked g (goal.at.collect-requires-clause-jobs g c).In_ok-shifts in
    let got = c.in_ok-gathered.ensures in
    let kits = c.in_ok-kits.ensures.owners in
    let t = taken_is_ended _ _ _ _ _ _ _ _ h c.in_ok-kits.kits.items c.in_ok-shifts.shifts.items all in
    let d = dealt_as_before _ _ _ _ _ _ _ _ h c.in_ok-kits.kits.items c.in_ok-shifts.shifts.items all in
    let turns = ap (turns_ended h) got.turns in
    let dealt_back = ap (dealt_in h) got.owners in
    let taken_back = ap (taken_by h) got.owners in
    let rows_back = ap (taken_in_rows h) got.rows in
    let dealt_out = ap (dealt_in h) kits in
    let taken_out = ap (taken_by h) kits in
    let absorbed = c.absorb_rows.ensures.dealt h in
    let absorbed' = c.absorb_rows.ensures.taken h in
    let left = c.in_ok-left.ensures h in
    let cut = c.in_ok-rows.ensures.jobs h in
    let cut0 = cut.0 in let cut1 = cut.1 in
    let dealt = c.in_ok-owners.ensures.dealt h in
    let none = c.in_ok-owners.ensures.taken h in omega arith

logs_of : (g : Over) (c : In_ok-shifts g) (turns : List (Turn g.row.W-Seat.Denot g.row.J.Denot g.row.W-Note.Denot)) → turns ≡ turns_of c.in_ok-shifts.shifts.items
    → Each (λ (b : g.row.W-Seat.Denot) (t : Turn g.row.W-Seat.Denot g.row.J.Denot g.row.W-Note.Denot). IsLogOf (g.W.Work.is_own c.args.work.now) g.W.Work.room g.W.Work.runs (g.W.Work.gives c.args.work.now) g.J.Join.is_kin g.J.Join.joined b t.seat t.log) c.args.seats.items turns
logs_of g c turns e = subst (λ (z : List g.row.W-Seat.Denot × List (Turn g.row.W-Seat.Denot g.row.J.Denot g.row.W-Note.Denot)). Each (λ (b : g.row.W-Seat.Denot) (t : Turn g.row.W-Seat.Denot g.row.J.Denot g.row.W-Note.Denot). IsLogOf (g.W.Work.is_own c.args.work.now) g.W.Work.room g.W.Work.runs (g.W.Work.gives c.args.work.now) g.J.Join.is_kin g.J.Join.joined b t.seat t.log) z.0 z.1) (λ i. (c.in_ok-kits.ensures.seats i, sym e i))
    (logs_are _ _ _ _ _ _ _ _ c.in_ok-kits.kits.items c.in_ok-shifts.shifts.items (worked g c))

pub returns-clause-runs : goal.returns-clause-runs
returns-clause-runs g c = if_ok c.collect.result
    (λ s news. news c.args.seats.items (logs_of g (goal.at.returns-clause-runs g c).In_ok-shifts c.in_ok-gathered.gathered.turns.items c.in_ok-gathered.ensures.turns))
    c.collect.ensures.runs

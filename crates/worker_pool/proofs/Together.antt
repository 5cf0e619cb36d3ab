-- What the workers did together.
use Rattle.std.proofs.Common.{◌≡◌, ℕ, suc, ◌<◌, List, [], ◌∷◌, ◌++◌, Option, Some, length, get_or, ◌+◌, refl, sym, ap, ap₂, ◌∙◌, subst, arith, All, append-nil, length-append, option_to_list}
use Rattle.std.specs.declared.alloc.Global.{Global}
use Rattle.std.proofs.lemmas.List.{get_or-map, length-map, nil_from_length}
use Rattle.std.proofs.lemmas.List.Elements.{All-cons}
use Rattle.std.proofs.lemmas.List.Sums.{sum_by-cons}
use Rattle.std.specs.declared.vec.Vec.{Vec}
use Rattle.std.specs.List.{sum_by}
use Rattle.crossbeam_deque.specs.Handles.{worker_view}
use Rattle.atomic_blocks.specs.Lent.{RowsId}
use Rattle.join_law.specs.Laws.{JoinLaws}
use Rattle.worker_pool.specs.declared.thief.Thief.{Thief}
use Rattle.worker_pool.specs.declared.kit.Kit.{Kit}
use Rattle.worker_pool.specs.declared.shift.Shift.{Shift}
use Rattle.worker_pool.specs.declared.turn.Turn.{Turn}
use Rattle.worker_pool.specs.Thieves.{taken_in, IsRowOf, taken_in_rows}
use Rattle.worker_pool.specs.Results.{AllResultsKin}
use Rattle.worker_pool.specs.Numbers.{ended}
use Rattle.worker_pool.specs.Kits.{seats_of, owners_of, IsKit, IsReady}
use Rattle.worker_pool.specs.Logs.{IsLogOf}
use Rattle.worker_pool.specs.Shifts.{IsShiftOf, owners_in, rows_in, turn_of, turns_of}
use Rattle.worker_pool.specs.Owners.{Owner, IsOwner, dealt_in, taken_by, owned}
use Rattle.worker_pool.specs.Turns.{turns_ended, Each, IsTurn}
use Rattle.worker_pool.specs.Seats.{AreNewRuns, HasRoom}

-- results that are kin to the opening are kin
pub all_kin : {J : Type 0} {is_kin : J → J → Type 0} {joined : J → J → J} (laws : JoinLaws is_kin joined) (gives : ℕ → J → Type 0) (opening : J) → ((k : ℕ) (r : J) → gives k r → is_kin opening r) → AllResultsKin gives is_kin
all_kin laws gives opening kin j k r s a b = laws.kin_along r opening s (laws.kin_back opening r (kin j r a)) (kin k s b)

pub same_many : {S : Type 0} (kits : List (Kit S)) (seats : List S) → seats_of kits ≡ seats → length kits ≡ length seats
same_many {S} kits seats e = sym (length-map kits (λ (k : Kit S). k.seat)) ∙ ap length e

pub kits_ready : {S : Type 0} (is_own : S → Type 0) (room_of : S → ℕ) (jobs : ℕ) (kits : List (Kit S)) (seats : List S) → seats_of kits ≡ seats → All (HasRoom is_own room_of jobs) seats → All (IsReady is_own room_of jobs) kits
kits_ready {S} is_own room_of jobs kits seats e room = λ k d l.
    let many = same_many kits seats e in
    let seat : get_or seats k d.seat ≡ (get_or kits k d).seat = ap (λ (l : List S). get_or l k d.seat) (sym e) ∙ get_or-map (λ (x : Kit S). x.seat) kits k d d.seat l in
    let has : HasRoom is_own room_of jobs (get_or kits k d).seat = subst (HasRoom is_own room_of jobs) seat (room k d.seat (omega arith)) in
    record { own = has.own; room = has.room }

-- a list of one
pub only_one : {S : Type 0} (xs ys : List S) (o : Option S) (s : S) → xs ≡ ys ++ option_to_list o → o ≡ Some s → length xs ≡ 1 → (ys ≡ []) × (xs ≡ s ∷ [])
only_one {S} xs ys o s e is one =
    let full : xs ≡ ys ++ s ∷ [] = e ∙ ap (λ (p : Option S). ys ++ option_to_list p) is in
    let none : ys ≡ [] = nil_from_length ys (let a = ap length full in let b = length-append ys (s ∷ []) in omega arith) in
    (none, full ∙ ap (λ (l : List S). l ++ s ∷ []) none)

pub one_runs : {S N : Type 0} (runs_of : S → List (ℕ × Option N)) (before after : List S) (s s' : S) (news : List (ℕ × Option N)) → before ≡ s ∷ [] → after ≡ s' ∷ [] → runs_of s' ≡ runs_of s ++ news → AreNewRuns runs_of before after news
one_runs {S} {N} runs_of before after s s' news b a h = subst (λ (z : List S × List S). AreNewRuns runs_of z.0 z.1 news) (λ i. (sym b i, sym a i)) (news, [], h, sym (append-nil news), refl)

module _ {S J N : Type 0} (is_own : S → Type 0) (room_of : S → ℕ) (runs_of : S → List (ℕ × Option N)) (gives : ℕ → J → Type 0) (is_kin : J → J → Type 0) (joined : J → J → J) (jobs : ℕ) (deques : List (RowsId × Global)) where
  -- a worker began with a kit and ran what it took
  pub record Worked (k : Kit S) (l : Shift S J N) : Type 0 where
    pub did : IsShiftOf is_own room_of runs_of gives is_kin joined k l
    pub kit : IsKit deques k
    pub ready : IsReady is_own room_of jobs k

  pub all_worked : (kits : List (Kit S)) (shifts : List (Shift S J N)) → length shifts ≡ length kits → ((i : ℕ) (k : Kit S) (l : Shift S J N) → i < length kits → IsShiftOf is_own room_of runs_of gives is_kin joined (get_or kits i k) (get_or shifts i l)) → All (IsKit deques) kits → All (IsReady is_own room_of jobs) kits
      → Each Worked kits shifts
  all_worked [] [] many did kit ready = tt
  all_worked [] (l ∷ shifts) many did kit ready = absurd (omega arith)
  all_worked (k ∷ kits) [] many did kit ready = absurd (omega arith)
  all_worked (k ∷ kits) (l ∷ shifts) many did kit ready = (
    record { did = did 0 k l (omega arith); kit = kit 0 k (omega arith); ready = ready 0 k (omega arith) },
    all_worked kits shifts (omega arith) (λ i k' l' b. did (suc i) k' l' (omega arith)) (λ i d b. kit (suc i) d (omega arith)) (λ i d b. ready (suc i) d (omega arith)),
  )

  pub rows_are : (kits : List (Kit S)) (shifts : List (Shift S J N)) → Each Worked kits shifts → All (IsRowOf deques) (rows_in shifts)
  rows_are [] [] h = λ k d l. absurd (omega arith)
  rows_are [] (l ∷ shifts) h = absurd h
  rows_are (k ∷ kits) [] h = absurd h
  rows_are (k ∷ kits) (l ∷ shifts) h = All-cons (IsRowOf deques) l.supply.row (rows_in shifts) (h.0.did.same.row ∙ h.0.kit.is_row) (rows_are kits shifts h.1)

  -- the owners are those of the same deques
  pub owned_are : (kits : List (Kit S)) (shifts : List (Shift S J N)) → Each Worked kits shifts → owned (owners_in shifts) ≡ owned (owners_of kits)
  owned_are [] [] h = refl
  owned_are [] (l ∷ shifts) h = absurd h
  owned_are (k ∷ kits) [] h = absurd h
  owned_are (k ∷ kits) (l ∷ shifts) h = ap₂ (λ (d : RowsId × Global) (ds : List (RowsId × Global)). d ∷ ds) h.0.did.same.own (owned_are kits shifts h.1)

  pub owners_are : (p : ℕ) (kits : List (Kit S)) (shifts : List (Shift S J N)) → Each Worked kits shifts → All (IsOwner p) (owners_of kits) → All (IsOwner p) (owners_in shifts)
  owners_are p [] [] h all = λ k d l. absurd (omega arith)
  owners_are p [] (l ∷ shifts) h all = absurd h
  owners_are p (k ∷ kits) [] h all = absurd h
  owners_are p (k ∷ kits) (l ∷ shifts) h all =
      let first = all 0 k.supply.owner (omega arith) in
      All-cons (IsOwner p) l.supply.owner (owners_in shifts) (record { fifo = h.0.did.same.flavor ∙ first.fifo; has = h.0.did.same.parts ∙ first.has }) (owners_are p kits shifts h.1 (λ i d b. all (suc i) d (omega arith)))

  -- the owners dealt nothing more
  pub dealt_as_before : (h : ℕ → ℕ) (kits : List (Kit S)) (shifts : List (Shift S J N)) → Each Worked kits shifts → dealt_in h (owners_in shifts) ≡ dealt_in h (owners_of kits)
  dealt_as_before h [] [] w = refl
  dealt_as_before h [] (l ∷ shifts) w = absurd w
  dealt_as_before h (k ∷ kits) [] w = absurd w
  dealt_as_before h (k ∷ kits) (l ∷ shifts) w =
      let r = dealt_as_before h kits shifts w.1 in
      let a = sum_by-cons (λ (o : Owner). sum_by h (worker_view o).dealt) l.supply.owner (owners_in shifts) in
      let b = sum_by-cons (λ (o : Owner). sum_by h (worker_view o).dealt) k.supply.owner (owners_of kits) in
      let d = ap (sum_by h) w.0.did.same.dealt in omega arith

  -- what owners and thieves took beyond what the owners had taken has ended
  pub taken_is_ended : (h : ℕ → ℕ) (kits : List (Kit S)) (shifts : List (Shift S J N)) → Each Worked kits shifts → taken_by h (owners_in shifts) + taken_in_rows h (rows_in shifts) ≡ taken_by h (owners_of kits) + turns_ended h (turns_of shifts)
  taken_is_ended h [] [] w = refl
  taken_is_ended h [] (l ∷ shifts) w = absurd w
  taken_is_ended h (k ∷ kits) [] w = absurd w
  taken_is_ended h (k ∷ kits) (l ∷ shifts) w =
      let r = taken_is_ended h kits shifts w.1 in
      let a = sum_by-cons (λ (o : Owner). sum_by h (worker_view o).taken) l.supply.owner (owners_in shifts) in
      let b = sum_by-cons (λ (o : Owner). sum_by h (worker_view o).taken) k.supply.owner (owners_of kits) in
      let d = sum_by-cons (λ (row : Vec Thief Global). taken_in h row.items) l.supply.row (rows_in shifts) in
      let e = sum_by-cons (λ (t : Turn S J N). ended h t.log.ends.items) (turn_of l) (turns_of shifts) in
      let t = w.0.did.taken h in let n = w.0.kit.none h in omega arith

  pub turns_are : (kits : List (Kit S)) (shifts : List (Shift S J N)) → Each Worked kits shifts → All (IsTurn is_own room_of gives is_kin joined jobs) (turns_of shifts)
  turns_are [] [] h = λ k d l. absurd (omega arith)
  turns_are [] (l ∷ shifts) h = absurd h
  turns_are (k ∷ kits) [] h = absurd h
  turns_are (k ∷ kits) (l ∷ shifts) h = All-cons (IsTurn is_own room_of gives is_kin joined jobs) (turn_of l) (turns_of shifts)
      (record { own = h.0.did.log.own; room = (let r = h.0.did.log.room in let p = h.0.ready.room in omega arith); logged = h.0.did.log.logged }) (turns_are kits shifts h.1)

  pub logs_are : (kits : List (Kit S)) (shifts : List (Shift S J N)) → Each Worked kits shifts → Each (λ (b : S) (t : Turn S J N). IsLogOf is_own room_of runs_of gives is_kin joined b t.seat t.log) (seats_of kits) (turns_of shifts)
  logs_are [] [] h = tt
  logs_are [] (l ∷ shifts) h = absurd h
  logs_are (k ∷ kits) [] h = absurd h
  logs_are (k ∷ kits) (l ∷ shifts) h = (h.0.did.log, logs_are kits shifts h.1)

-- Each part of a lawful cycle keeps renamed entries first, and renaming leaves those as they are that are renamed.
use Rattle.std.proofs.Common.{◌≡◌, ℕ, zero, suc, ◌+◌, ◌-◌, ◌<◌, Bool, true, false, not, List, [], ◌∷◌, length, map, take, get_or, Some, refl, sym, ap, ◌∙◌, subst, arith, inl, inr}
use Rattle.std.specs.Prelude.{◌&&◌, ◌==◌, find, if◌then◌else◌, Any}
use Rattle.std.specs.List.{list_any}
use Rattle.std.proofs.lemmas.Bool.{cases_lt, cases_Bool}
use Rattle.std.proofs.lemmas.Bool.Decides.{nat_tests}
use Rattle.std.proofs.lemmas.List.{get_or-take, length-take, get_or_default}
use Rattle.std.proofs.lemmas.List.Folds.{list_any_at, Any-from_list_any}
use Rattle.rv64_decode.specs.declared.insn.Insn.{Insn}
use Rattle.issue_queue.specs.declared.entry.QueueView.{QueueView}
use Rattle.data_tags.specs.declared.delay.Kind.{Kind}
use Rattle.data_tags.specs.declared.delay.Lag.{Lag}
use Rattle.fetch_policy.specs.declared.view.FetchView.{FetchView}
use Rattle.core_view.specs.declared.operation.Operation.{Operation}
use Rattle.core_view.specs.declared.operation.Operation.TheVariants.{Performs, Stops}
use Rattle.core_view.specs.declared.entry.Entry.{Entry}
use Rattle.core_view.specs.declared.note.EntryId.{EntryId}
use Rattle.core_view.specs.declared.note.Issue.{Issue}
use Rattle.core_view.specs.declared.note.CycleNote.{CycleNote}
use Rattle.core_view.specs.Queues.{is_renamed}
use Rattle.core_view.specs.Events.{with_stage, renamed_stage}
use Rattle.core_view.specs.View.{Context, View, entry_at, no_entry}
use Rattle.lawful_cycle.specs.Views.{context_in, is_id, number_in, stamps_in}
use Rattle.lawful_cycle.specs.Retire.{IsRetire}
use Rattle.lawful_cycle.specs.Complete.{IsComplete}
use Rattle.lawful_cycle.specs.Issue.{issue_of, IsIssue}
use Rattle.lawful_cycle.specs.Rename.{renamed_if, renamed_view, no_id, oldest_fetched, IsNext, IsRename}
use Rattle.lawful_cycle.specs.Fetch.{IsFetch}
use Rattle.lawful_cycle.specs.Cycle.{Laws, IsLawfulCycle}
use Rattle.lawful_cycle.specs.Stamps.{flight_in, stamp_at, IsStamped}
use Rattle.lawful_cycle.specs.Order.{AreInOrder}
use Rattle.lawful_cycle.proofs.SameViews.{renamed_in}
use Rattle.lawful_cycle.proofs.Stamped.{one_place, renamed_stamped}
use Rattle.lawful_cycle.proofs.KeptStamps.{retire_stamped, complete_stamped, issue_stamped}
use Rattle.lawful_cycle.proofs.OldestFetched.{completed_renamed, issued_renamed, not_issued}
use Rattle.lawful_cycle.proofs.Places.{retired_at, completed_at_place, issued_at_place, renamed_at_place, kept_at_place}

abbrev pub renamed_at : View → ℕ → ℕ → Bool
renamed_at v c i = is_renamed (entry_at (context_in v c) i).stage

-- each entry of w is renamed exactly where one of v is, so many places on
order_through : (v w : View) (skip : ℕ → ℕ) → ((c i : ℕ) → c < 8 → i < length (flight_in w c) → (skip c + i < length (flight_in v c)) × (renamed_at w c i ≡ renamed_at v c (skip c + i))) → AreInOrder v → AreInOrder w
order_through v w skip from h c i j lc lt lj renamed =
    let a = from c i lc (omega (arith, lt, lj)) in
    let b = from c j lc lj in
    a.1 ∙ h c (skip c + i) (skip c + j) lc (omega (arith, lt)) b.0 (sym b.1 ∙ renamed)

-- in the same place
order_kept : (v w : View) → ((c i : ℕ) → c < 8 → i < length (flight_in w c) → (i < length (flight_in v c)) × (renamed_at w c i ≡ renamed_at v c i)) → AreInOrder v → AreInOrder w
order_kept v w from h c i j lc lt lj renamed =
    let a = from c i lc (omega (arith, lt, lj)) in
    let b = from c j lc lj in
    a.1 ∙ h c i j lc lt b.0 (sym b.1 ∙ renamed)

pub retire_order : (v w : View) (ids : List EntryId) → IsRetire v w ids → AreInOrder v → AreInOrder w
retire_order v w ids h =
    order_through v w (λ c. number_in c ids)
    (λ c i lc lt. let at = retired_at (number_in c ids) (context_in v c) (context_in w c) (context_in v c).status (h.contexts.contexts.each c lc) i lt in (at.0, ap (λ (e : Entry). is_renamed e.stage) at.1))

pub complete_order : (v w : View) (n : ℕ) → IsComplete v w n → AreInOrder v → AreInOrder w
complete_order v w n h =
    order_kept v w
    (λ c i lc lt.
    let at = completed_at_place v.cycle (length (flight_in w c)) (context_in v c) (context_in w c) (h.contexts.contexts.each c lc) i lt in
    let e : Entry = entry_at (context_in v c) i in
    (at.0, ap (λ (f : Entry). is_renamed f.stage) at.1 ∙ completed_renamed v.cycle e e.stage refl))

-- the stamps of a flight tell its places apart
pub own_stamps : (v : View) → IsStamped v → (c : ℕ) → c < 8 → (i j : ℕ) → i < length (flight_in v c) → j < length (flight_in v c) → stamp_at v c i ≡ stamp_at v c j → i ≡ j
own_stamps v stamped c lc i j li lj same = one_place v stamped c i j lc li lj same

pub issue_order : (key : QueueView → ℕ) (delays : ℕ → Kind → ℕ → Lag → Bool) (v w : View) (ns : List Issue) → IsIssue key delays v w ns → IsStamped v → AreInOrder v → AreInOrder w
issue_order key delays v w ns h stamped =
    order_kept v w
    (λ c i lc lt.
    let at = issued_at_place v.cycle c ns (context_in v c) (context_in w c) (h.contexts.contexts.each c lc) i lt in
    let e : Entry = entry_at (context_in v c) i in
    (at.0, ap (λ (f : Entry). is_renamed f.stage) at.1 ∙ issued_renamed v.cycle (context_in v c) i e (issue_of c e ns) (not_issued key delays v w ns h c lc (own_stamps v stamped c lc) i at.0)))

-- ---- rename

-- what is found first: those before it are refused
found_first : (test : Entry → Bool) (es : List Entry) (e : Entry) → find test es ≡ Some e → (p : ℕ) × (p < length es) × (get_or es p no_entry ≡ e) × (test e ≡ true) × ((q : ℕ) → q < p → test (get_or es q no_entry) ≡ false)
found_first test [] e h = absurd cc
found_first test (f ∷ es) e h = go (test f) refl h (found_first test es e)
  where
    later : test f ≡ false → (p : ℕ) → ((q : ℕ) → q < p → test (get_or es q no_entry) ≡ false) → (q : ℕ) → q < suc p → test (get_or (f ∷ es) q no_entry) ≡ false
    later out p before zero lt = out
    later out p before (suc q) lt = before q (omega (arith, lt))

    go : (t : Bool) → test f ≡ t → (if t then Some f else find test es) ≡ Some e
        → (find test es ≡ Some e → (p : ℕ) × (p < length es) × (get_or es p no_entry ≡ e) × (test e ≡ true) × ((q : ℕ) → q < p → test (get_or es q no_entry) ≡ false))
        → (p : ℕ) × (p < length (f ∷ es)) × (get_or (f ∷ es) p no_entry ≡ e) × (test e ≡ true) × ((q : ℕ) → q < p → test (get_or (f ∷ es) q no_entry) ≡ false)
    go true is q rest = let same : f ≡ e = cc in (0, omega arith, same, ap test (sym same) ∙ is, λ r lt. absurd (omega (arith, lt)))
    go false is q rest = let r = rest q in let lt = r.1 in (suc r.0, omega (arith, lt), r.2, r.3, later is r.0 r.4)

not_true : (b : Bool) → not b ≡ true → b ≡ false
not_true true h = absurd (let f : false ≡ true = h in cc)
not_true false h = refl

not_false : (b : Bool) → not b ≡ false → b ≡ true
not_false true h = refl
not_false false h = absurd (let f : true ≡ false = h in cc)

both_of : (a b : Bool) → (a && b) ≡ true → (a ≡ true) × (b ≡ true)
both_of true b is = (refl, is)
both_of false b is = absurd cc

-- an entry that is renamed among these is renamed, another one stays as it was
pub renamed_if_true : (cycle c : ℕ) (ids : List EntryId) (e : Entry) → list_any (is_id c e.stamp) ids ≡ true → is_renamed (renamed_if cycle c ids e).stage ≡ true
renamed_if_true cycle c ids e named = ap (λ t. is_renamed (if t then with_stage e (renamed_stage cycle e.operation) else e).stage) named ∙ go e.operation
  where
    go : (o : Operation) → is_renamed (renamed_stage cycle o) ≡ true
    go (Performs insn) = refl
    go (Stops why) = refl

pub renamed_if_false : (cycle c : ℕ) (ids : List EntryId) (e : Entry) → list_any (is_id c e.stamp) ids ≡ false → renamed_if cycle c ids e ≡ e
renamed_if_false cycle c ids e out = ap (λ t. if t then with_stage e (renamed_stage cycle e.operation) else e) out

stays_renamed : (cycle c : ℕ) (ids : List EntryId) (e : Entry) → is_renamed e.stage ≡ true → is_renamed (renamed_if cycle c ids e).stage ≡ true
stays_renamed cycle c ids e is =
    elim (cases_Bool (list_any (is_id c e.stamp) ids)) [
      | inl named ↦ renamed_if_true cycle c ids e named
      | inr out ↦ ap (λ (f : Entry). is_renamed f.stage) (renamed_if_false cycle c ids e out) ∙ is
    ]

module _ (v : View) (ids : List EntryId) (each : (j : ℕ) → j < length ids → IsNext (renamed_view v (take j ids)) (get_or ids j no_id)) (stamped : IsStamped v) where
  -- a place of the view in which some of these are renamed
  at_place : (some : List EntryId) (c i : ℕ) → c < 8 → i < length (flight_in (renamed_view v some) c) → (i < length (flight_in v c)) × (entry_at (context_in (renamed_view v some) c) i ≡ renamed_if v.cycle c some (entry_at (context_in v c) i))
  at_place some c i lc lt = renamed_at_place v.cycle c some (context_in v c) (context_in (renamed_view v some) c) (renamed_in v some c lc) i lt

  same_length : (some : List EntryId) (c : ℕ) → c < 8 → length (flight_in (renamed_view v some) c) ≡ length (flight_in v c)
  same_length some c lc = ap (λ (x : Context). length x.flight) (renamed_in v some c lc) ∙ length_mapped (flight_in v c)
    where
      length_mapped : (es : List Entry) → length (map (renamed_if v.cycle c some) es) ≡ length es
      length_mapped [] = refl
      length_mapped (e ∷ es) = let rest = length_mapped es in omega (arith, rest)

  same_stamp : (some : List EntryId) (c i : ℕ) → c < 8 → i < length (flight_in v c) → stamp_at (renamed_view v some) c i ≡ stamp_at v c i
  same_stamp some c i lc lt =
      let count = same_length some c lc in
      ap (λ (e : Entry). e.stamp) (at_place some c i lc (omega (arith, count, lt))).1 ∙ kept_stamp (entry_at (context_in v c) i)
    where
      kept_stamp : (e : Entry) → (renamed_if v.cycle c some e).stamp ≡ e.stamp
      kept_stamp e = go (list_any (is_id c e.stamp) some)
        where
          go : (t : Bool) → (if t then with_stage e (renamed_stage v.cycle e.operation) else e).stamp ≡ e.stamp
          go true = refl
          go false = refl

  -- an entry that is renamed in its turn wasn't renamed before, and those before it were
  abbrev WasNext : ℕ → ℕ → Type 0
  WasNext c j = (m : ℕ) × (m < length ids) × (renamed_at (renamed_view v (take m ids)) c j ≡ false) × ((i : ℕ) → i < j → renamed_at (renamed_view v (take m ids)) c i ≡ true)

  was_next : (c j : ℕ) → c < 8 → j < length (flight_in v c) → list_any (is_id c (stamp_at v c j)) ids ≡ true → WasNext c j
  was_next c j lc lj named =
      let found : Any (λ n. is_id c (stamp_at v c j) n ≡ true) ids = Any-from_list_any (is_id c (stamp_at v c j)) ids named in
      at found.0 found.2 (ap (is_id c (stamp_at v c j)) (get_or_default ids found.0 no_id found.1 found.2 ∙ found.3) ∙ found.4)
    where
      at : (m : ℕ) → m < length ids → is_id c (stamp_at v c j) (get_or ids m no_id) ≡ true → WasNext c j
      at m lm is =
          let u : View = renamed_view v (take m ids) in
          let next = each m lm in
          let same = both_of ((get_or ids m no_id).context == c) ((get_or ids m no_id).stamp == stamp_at v c j) is in
          let same_context = same.0 in
          let same_number = same.1 in
          let context : (get_or ids m no_id).context ≡ c = grind (arith, nat_tests, same_context) in
          let stamp : (get_or ids m no_id).stamp ≡ stamp_at v c j = grind (arith, nat_tests, same_number) in
          let oldest : oldest_fetched (context_in u c) ≡ Some next.entry = ap (λ d. oldest_fetched (context_in u d)) (sym context) ∙ next.can.oldest in
          let found = found_first (λ e. not (is_renamed e.stage)) (flight_in u c) next.entry oldest in
          let count = same_length (take m ids) c lc in
          let place : found.0 ≡ j = own_stamps u (renamed_stamped v (take m ids) stamped) c lc found.0 j found.1 (omega (arith, count, lj)) (ap (λ (e : Entry). e.stamp) found.2 ∙ next.stamp ∙ stamp ∙ sym (same_stamp (take m ids) c j lc lj)) in (
            m,
            lm,
            not_true (renamed_at u c j) (ap (λ k. not (renamed_at u c k)) (sym place) ∙ ap (λ (e : Entry). not (is_renamed e.stage)) found.2 ∙ found.3),
            λ i lt. not_false (renamed_at u c i) (found.4 i (omega (arith, lt, place))),
          )

  -- what is renamed of a part of these is renamed of all
  more_renamed : (c i m : ℕ) → c < 8 → i < length (flight_in v c) → renamed_at (renamed_view v (take m ids)) c i ≡ true → renamed_at (renamed_view v ids) c i ≡ true
  more_renamed c i m lc li is =
      let e : Entry = entry_at (context_in v c) i in
      let count = same_length ids c lc in
      let here = (at_place ids c i lc (omega (arith, count, li))).1 in
      let part = same_length (take m ids) c lc in
      let there = (at_place (take m ids) c i lc (omega (arith, part, li))).1 in
      ap (λ (f : Entry). is_renamed f.stage) here ∙
      elim (cases_Bool (list_any (is_id c e.stamp) (take m ids))) [
        | inl named ↦ renamed_if_true v.cycle c ids e (of_part named)
        | inr out ↦ stays_renamed v.cycle c ids e (ap (λ (f : Entry). is_renamed f.stage) (sym (renamed_if_false v.cycle c (take m ids) e out) ∙ sym there) ∙ is)
      ]
    where
      of_part : list_any (is_id c (stamp_at v c i)) (take m ids) ≡ true → list_any (is_id c (stamp_at v c i)) ids ≡ true
      of_part named =
          let found : Any (λ n. is_id c (stamp_at v c i) n ≡ true) (take m ids) = Any-from_list_any (is_id c (stamp_at v c i)) (take m ids) named in
          let k : ℕ = found.0 in
          let lk = found.2 in
          let count = length-take m ids in
          list_any_at (is_id c (stamp_at v c i)) ids k no_id (omega (arith, lk, count))
          (ap (is_id c (stamp_at v c i)) (sym (get_or-take m ids k no_id (omega (arith, lk, count))) ∙ get_or_default (take m ids) k no_id found.1 found.2 ∙ found.3) ∙ found.4)

  pub renamed_order : AreInOrder v → AreInOrder (renamed_view v ids)
  renamed_order h c i j lc lt lj is =
      let count = same_length ids c lc in
      let jv = (at_place ids c j lc lj) in
      let ljv = jv.0 in
      let e : Entry = entry_at (context_in v c) j in
      let iv = at_place ids c i lc (omega (arith, lt, lj)) in
      elim (cases_Bool (list_any (is_id c e.stamp) ids)) [
        | inl named ↦ let next = was_next c j lc jv.0 named in more_renamed c i next.0 lc (omega (arith, lt, ljv)) (next.3 i lt)
        | inr out ↦
            let old : renamed_at v c j ≡ true = ap (λ (f : Entry). is_renamed f.stage) (sym (renamed_if_false v.cycle c ids e out) ∙ sym jv.1) ∙ is in
            ap (λ (f : Entry). is_renamed f.stage) iv.1 ∙ stays_renamed v.cycle c ids (entry_at (context_in v c) i) (h c i j lc lt jv.0 old)
      ]

  -- what is renamed stays as it is
  pub renamed_stays : (c j : ℕ) → c < 8 → j < length (flight_in v c) → renamed_at v c j ≡ true → entry_at (context_in (renamed_view v ids) c) j ≡ entry_at (context_in v c) j
  renamed_stays c j lc lj is =
      let e : Entry = entry_at (context_in v c) j in
      let count = same_length ids c lc in
      let here = (at_place ids c j lc (omega (arith, count, lj))).1 in
      here ∙
      elim (cases_Bool (list_any (is_id c e.stamp) ids)) [
        | inr out ↦ renamed_if_false v.cycle c ids e out
        | inl named ↦
            let next = was_next c j lc lj named in
            let part = same_length (take next.0 ids) c lc in
            let there = (at_place (take next.0 ids) c j lc (omega (arith, part, lj))).1 in
            let bad : true ≡ false = sym (stays_renamed v.cycle c (take next.0 ids) e is) ∙ ap (λ (f : Entry). is_renamed f.stage) (sym there) ∙ next.2 in
            absurd cc
      ]

pub rename_order : (v w : View) (ids : List EntryId) → IsRename v w ids → IsStamped v → AreInOrder v → AreInOrder w
rename_order v w ids h stamped order = subst AreInOrder (sym h.is) (renamed_order v ids h.each stamped order)

-- ---- fetch

pub fetch_order : (key : FetchView → ℕ → ℕ) (guesses : ℕ → ℕ → Insn → ℕ → Bool) (v w : View) (ids : List EntryId) → IsFetch key guesses v w ids → AreInOrder v → AreInOrder w
fetch_order key guesses v w ids h order c i j lc lt lj is =
    elim (cases_lt j (length (flight_in v c))) [
      | inl old ↦
          let block = h.contexts.each c lc in
          let at_i = kept_at_place (guesses c) v.cycle (stamps_in c ids) (context_in v c) (context_in w c) block i (omega (arith, lt, old)) in
          let at_j = kept_at_place (guesses c) v.cycle (stamps_in c ids) (context_in v c) (context_in w c) block j old in
          ap (λ (e : Entry). is_renamed e.stage) at_i ∙ order c i j lc lt old (ap (λ (e : Entry). is_renamed e.stage) (sym at_j) ∙ is)
      | inr ge ↦
          let block = h.contexts.each c lc in
          let count = block.count in
          let k : ℕ = j - length (flight_in v c) in
          let at : length (flight_in v c) + k ≡ j = omega (arith, ge) in
          let new = ap (λ (e : Entry). is_renamed e.stage) (block.entries k (omega (arith, count, lj, ge))).is in
          let bad : false ≡ true = sym new ∙ ap (λ m. renamed_at w c m) at ∙ is in
          absurd cc
    ]

-- ---- the whole

pub cycle_order : (laws : Laws) (v w : View) (note : CycleNote) → IsLawfulCycle laws v w note → IsStamped v → AreInOrder v → AreInOrder w
cycle_order laws v w note h stamped order =
    let retired = retire_stamped v h.retired note.retired.items h.retire stamped in
    let completed = complete_stamped h.retired h.completed note.completed h.complete retired in
    let issued = issue_stamped laws.order laws.delays h.completed h.issued note.issued.items h.issue completed in
    let a = retire_order v h.retired note.retired.items h.retire order in
    let b = complete_order h.retired h.completed note.completed h.complete a in
    let c = issue_order laws.order laws.delays h.completed h.issued note.issued.items h.issue completed b in
    let d = rename_order h.issued h.renamed note.renamed.items h.rename issued c in
    let e : AreInOrder h.fetched = fetch_order laws.pick laws.guesses h.renamed h.fetched note.fetched.items h.fetch d in
    subst AreInOrder (sym h.next) e

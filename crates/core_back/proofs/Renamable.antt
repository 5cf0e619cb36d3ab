-- What a context's parts say of renaming is what the flights say.
use Rattle.std.proofs.Common.{◌≡◌, ℕ, zero, suc, ◌+◌, ◌^◌, ◌<◌, ◌≤◌, Bool, true, false, not, ◌&&◌, cond, List, [], ◌∷◌, length, get_or, take, drop, slice_get, Option, Some, None, map, refl, sym, ap, subst, ◌∙◌, arith, inl, inr}
use Rattle.std.specs.Prelude.{◌==◌, ◌↔◌, IsTrue, IfSome, is_some, option_map, find, filter_map, count_by, sum_by, if◌then◌else◌}
use Rattle.std.specs.List.{cons_option}
use Rattle.std.proofs.lemmas.Bool.{cases_lt, cases_Bool}
use Rattle.std.proofs.lemmas.List.{length-take-le, get_or-map}
use Rattle.std.proofs.lemmas.List.Sums.{sum_by-cons}
use Rattle.std.proofs.lemmas.Option.{get_or_from_slice_get, slice_get_within, slice_get-get_or}
use Rattle.core_view.specs.declared.entry.Entry.{Entry}
use Rattle.core_view.specs.Operations.{destination_of, is_load, is_store}
use Rattle.core_view.specs.Queues.{is_renamed, AllRenamed, load_slot, store_slot, loads_of, stores_of}
use Rattle.core_view.specs.View.{Context, entry_at, no_entry}
use Rattle.data_flow.specs.Flow.{Lane, no_lane, lane, takes, taken_in, taken}
use Rattle.lawful_cycle.specs.Views.{eight, context_in}
use Rattle.core_view.specs.Flight.{is_queued, IsStampedBelow}
use Rattle.lawful_cycle.specs.Rename.{renamed_by, of_all, has_register, HasRoom, oldest_fetched, CanRename}
use Rattle.core_profile.specs.declared.profile.Profile.{Profile}
use Rattle.core_back.specs.declared.machine.Machine.TheInside.{Inside}
use Rattle.core_context.specs.Cores.{node_of_entry, AllFetched}
use Rattle.core_context.specs.Track.{Track}
use Rattle.core_context.specs.Renamable.{IsRenamable}
use Rattle.core_back.specs.Machine.{Machine, context_at, no_track, no_context}
use Rattle.core_back.specs.Shown.{machine_of, IsMachine, waiting_flow}
use Rattle.core_context.specs.Queued.{waiting_of}
use Rattle.core_context.specs.Cores.{waiters_of}
use Rattle.core_context.proofs.Laws.{count_cons, count_split, fetched_none, sum_eight_same, count_waiters}
use Rattle.core_back.proofs.Machines.{At, idle_names}

-- ---- the oldest fetched entry

oldest_is : (n : ℕ) (es : List Entry) → AllRenamed (take n es) → AllFetched (drop n es) → find (λ e. not (is_renamed e.stage)) es ≡ slice_get es n
oldest_is zero [] renamed fetched = refl
oldest_is zero (e ∷ es) renamed fetched = rw fetched.0 refl
oldest_is (suc n) [] renamed fetched = refl
oldest_is (suc n) (e ∷ es) renamed fetched = rw renamed.0 (oldest_is n es renamed.1 fetched)

-- an answer that tells whether a place is within tells whether an entry stands there
tells_one : (answer : Bool) (n : ℕ) (es : List Entry) → IsTrue answer ↔ (n < length es) → answer ≡ is_some (slice_get es n)
tells_one answer n es is = elim (cases_lt n (length es)) [
  | inl lt ↦ is.1 lt ∙ sym (ap (λ (o : Option Entry). is_some o) (slice_get-get_or es n no_entry lt))
  | inr ge ↦ elim (cases_Bool answer) [
    | inl yes_is ↦ let lt = is.0 yes_is in absurd (omega (arith, lt, ge))
    | inr no_is ↦ no_is ∙ sym (ap (λ (o : Option Entry). is_some o) (none_past n es ge))
  ]
]
  where
    none_past : (n : ℕ) (es : List Entry) → length es ≤ n → slice_get es n ≡ None
    none_past n [] ge = refl
    none_past zero (e ∷ es) ge = absurd (omega (arith, ge))
    none_past (suc n) (e ∷ es) ge = none_past n es (omega (arith, ge))

-- each stamp is below one that they are all below
pub stamped_below : (next : ℕ) (es : List Entry) (i : ℕ) → IsStampedBelow next es → i < length es → (get_or es i no_entry).stamp < next
stamped_below next [] i below within = absurd (omega (arith, within))
stamped_below next (e ∷ es) zero below within = below.0
stamped_below next (e ∷ es) (suc i) below within = stamped_below next es i below.1 (omega (arith, within))

-- ---- counts of renamed entries

renamed_all : (p : Entry → Bool) (es : List Entry) → AllRenamed es → renamed_by p es ≡ count_by p es
renamed_all p [] all = refl
renamed_all p (e ∷ es) all = count_cons (λ f. is_renamed f.stage && p f) e es (p e) (ap (λ b. b && p e) all.0) ∙ ap (λ n. cond (p e) 1 0 + n) (renamed_all p es all.1) ∙ sym (count_cons p e es (p e) refl)

renamed_first : (p : Entry → Bool) (n : ℕ) (es : List Entry) → AllRenamed (take n es) → AllFetched (drop n es) → renamed_by p es ≡ count_by p (take n es)
renamed_first p n es renamed fetched =
    let none : renamed_by p (drop n es) ≡ 0 = fetched_none (λ f. is_renamed f.stage && p f) (drop n es) (λ e h. ap (λ s. is_renamed s && p e) h) fetched in
    let first : renamed_by p (take n es) ≡ count_by p (take n es) = renamed_all p (take n es) renamed in
    let all : renamed_by p es ≡ renamed_by p (take n es) + renamed_by p (drop n es) = count_split (λ f. is_renamed f.stage && p f) n es in
    omega (arith, none, first, all)

count_all : (es : List Entry) → count_by (λ e. true) es ≡ length es
count_all [] = refl
count_all (e ∷ es) = let one : count_by (λ f. true) (e ∷ es) ≡ 1 + count_by (λ f. true) es = count_cons (λ f. true) e es true refl in omega (arith, one, count_all es)

pub renamed_number : (n : ℕ) (es : List Entry) → n ≤ length es → AllRenamed (take n es) → AllFetched (drop n es) → renamed_by (λ e. true) es ≡ n
renamed_number n es within renamed fetched = renamed_first (λ e. true) n es renamed fetched ∙ count_all (take n es) ∙ length-take-le n es within

-- as many places of a queue are taken as renamed entries have one
slots_number : {Q : Type 0} (slot : Entry → Option Q) (p : Entry → Bool) (q : Entry → Q) → ((e : Entry) → slot e ≡ (if p e && is_renamed e.stage then Some (q e) else None)) → (es : List Entry) → renamed_by p es ≡ length (filter_map slot es)
slots_number slot p q is [] = refl
slots_number slot p q is (e ∷ es) =
    count_cons (λ f. is_renamed f.stage && p f) e es (is_renamed e.stage && p e) refl ∙ go (is_renamed e.stage) (p e) (slots_number slot p q is es) ∙ ap (λ o. length (cons_option o (filter_map slot es))) (sym (is e))
  where
    go : (a b : Bool) → renamed_by p es ≡ length (filter_map slot es) → cond (a && b) 1 0 + renamed_by p es ≡ length (cons_option (if b && a then Some (q e) else None) (filter_map slot es))
    go true true ih = omega (arith, ih)
    go true false ih = omega (arith, ih)
    go false true ih = omega (arith, ih)
    go false false ih = omega (arith, ih)

pub loads_number : (es : List Entry) → renamed_by (λ e. is_load e.operation) es ≡ length (loads_of es)
loads_number es = slots_number load_slot (λ e. is_load e.operation) _ (λ e. refl) es

pub stores_number : (es : List Entry) → renamed_by (λ e. is_store e.operation) es ≡ length (stores_of es)
stores_number es = slots_number store_slot (λ e. is_store e.operation) _ (λ e. refl) es

-- ---- registers

takes_number : (es : List Entry) → count_by takes (map node_of_entry es) ≡ count_by (λ e. not (destination_of e.operation == 0)) es
takes_number [] = refl
takes_number (e ∷ es) =
    sum_by-cons (λ n. cond (takes n) 1 0) (node_of_entry e) (map node_of_entry es) ∙ ap (λ n. cond (not (destination_of e.operation == 0)) 1 0 + n) (takes_number es)
    ∙ sym (count_cons (λ f. not (destination_of f.operation == 0)) e es (not (destination_of e.operation == 0)) refl)

lanes_eight : (g : Lane → ℕ) (ls : List Lane) → length ls ≡ 8 → sum_by g ls ≡ sum_by (λ c. g (get_or ls c no_lane)) eight
lanes_eight g [] count = absurd (omega arith)
lanes_eight g (a ∷ []) count = absurd (omega arith)
lanes_eight g (a ∷ b ∷ []) count = absurd (omega arith)
lanes_eight g (a ∷ b ∷ d ∷ []) count = absurd (omega arith)
lanes_eight g (a ∷ b ∷ d ∷ e ∷ []) count = absurd (omega arith)
lanes_eight g (a ∷ b ∷ d ∷ e ∷ f ∷ []) count = absurd (omega arith)
lanes_eight g (a ∷ b ∷ d ∷ e ∷ f ∷ h ∷ []) count = absurd (omega arith)
lanes_eight g (a ∷ b ∷ d ∷ e ∷ f ∷ h ∷ i ∷ []) count = absurd (omega arith)
lanes_eight g (a ∷ b ∷ d ∷ e ∷ f ∷ h ∷ i ∷ j ∷ []) count = refl
lanes_eight g (a ∷ b ∷ d ∷ e ∷ f ∷ h ∷ i ∷ j ∷ k ∷ ls) count = absurd (omega arith)

-- ---- of a machine

module _ {A : Type 0} where
  -- the flight of a context is its track's
  pub track_flight : (m : Inside A) (now : Machine) (c : ℕ) → machine_of m ≡ now → IsMachine m → c < 8 → (get_or m.tracks.items c no_track).context ≡ context_at now c
  track_flight m now c shows ok lt = sym (get_or-map (λ (u : Track). u.context) m.tracks.items c no_track no_context (omega (arith, lt, ok.tracks))) ∙ ap (λ (v : Machine). context_at v c) shows

  -- and has so many entries at most
  pub flight_most : (m : Inside A) (now : Machine) (c : ℕ) → machine_of m ≡ now → IsMachine m → c < 8 → length (context_at now c).flight ≤ 80
  flight_most m now c shows ok lt =
      let core = ok.cores c lt in
      let room : m.profile.reorder_buffer ≤ 64 = m.profile.reorder_buffer_in_range.1 in
      omega (arith, core.front, core.fits, room, ap (λ (x : Context). length x.flight) (track_flight m now c shows ok lt))

  pub idle_waiting : (m : Inside A) (now : Machine) → machine_of m ≡ now → IsMachine m → now.names ≡ [] → (c : ℕ) → c < 8 → waiting_of m.flow c ≡ waiters_of [] c (context_at now c).flight
  idle_waiting m now shows ok idle c lt =
      subst (λ ns. waiting_of (waiting_flow ns m.flow) c ≡ waiters_of [] c (get_or m.tracks.items c no_track).context.flight) (idle_names m now shows idle) (ok.cores c lt).waiting ∙ ap (λ (x : Context). waiters_of [] c x.flight) (track_flight m now c shows ok lt)

  -- as many wait as are queued
  all_waiting : (m : Inside A) (now : Machine) → machine_of m ≡ now → IsMachine m → now.names ≡ [] → length m.flow.waiters ≡ of_all (λ e. is_queued e.stage) now.view
  all_waiting m now shows ok idle = count_waiters m.flow (λ c. (context_at now c).flight) ok.contexts (idle_waiting m now shows ok idle)

  -- there is a place for one more to wait exactly where fewer are queued than the profile says
  pub queue_places_left : (m : Inside A) (now : Machine) (answer : Bool) → machine_of m ≡ now → IsMachine m → now.names ≡ [] → IsTrue answer ↔ (length m.flow.waiters < m.flow.places) → IsTrue answer ↔ (of_all (λ e. is_queued e.stage) now.view < now.view.profile.issue_queue)
  queue_places_left m now answer shows ok idle is =
      let queued : length m.flow.waiters ≡ of_all (λ e. is_queued e.stage) now.view = all_waiting m now shows ok idle in
      let places : m.flow.places ≡ m.profile.issue_queue = ok.room.waiters in
      let profile : m.profile.issue_queue ≡ now.view.profile.issue_queue = ap (λ (v : Machine). v.view.profile.issue_queue) shows in
      let to : IsTrue answer → of_all (λ e. is_queued e.stage) now.view < now.view.profile.issue_queue = λ yes. let less : length m.flow.waiters < m.flow.places = is.0 yes in omega (arith, less, queued, places, profile) in
      let from : of_all (λ e. is_queued e.stage) now.view < now.view.profile.issue_queue → IsTrue answer = λ less. is.1 (omega (arith, less, queued, places, profile)) in
      (to, from)

  -- as many registers are taken as entries are renamed with one
  all_taken : (m : Inside A) (now : Machine) → machine_of m ≡ now → IsMachine m → taken m.flow ≡ of_all has_register now.view
  all_taken m now shows ok =
      lanes_eight taken_in m.flow.lanes ok.lanes
      ∙ sum_eight_same (λ c. taken_in (lane m.flow c)) (λ c. count_by has_register (context_in now.view c).flight) (λ c lt.
      let core = ok.cores c lt in
      let t = get_or m.tracks.items c no_track in
      ap (count_by takes) core.nodes ∙ takes_number (take t.renamed t.context.flight)
      ∙ sym (renamed_first (λ e. not (destination_of e.operation == 0)) t.renamed t.context.flight core.are_renamed core.are_fetched)
      ∙ ap (λ (x : Context). count_by has_register x.flight) (track_flight m now c shows ok lt))

  -- the oldest fetched entry of a context is the first that its track has not renamed
  pub record HasOldest (m : Inside A) (now : Machine) (c : ℕ) (t : Track) : Type 0 where
    pub profile : m.profile ≡ now.view.profile
    pub cycle : m.cycle ≡ now.view.cycle
    pub context : t.context ≡ context_at now c
    pub oldest : oldest_fetched (context_at now c) ≡ slice_get t.context.flight t.renamed

  pub has_oldest : (m : Inside A) (now : Machine) (c : ℕ) (t : Track) → machine_of m ≡ now → At m now c t → HasOldest m now c t
  has_oldest m now c t shows h = record {
    profile = ap (λ (v : Machine). v.view.profile) shows;
    cycle = ap (λ (v : Machine). v.view.cycle) shows;
    context = h.context;
    oldest = ap (λ (x : Context). oldest_fetched x) (sym h.context) ∙ oldest_is t.renamed t.context.flight h.core.are_renamed h.core.are_fetched;
  }

  -- and the places that there are, and those that are taken
  pub record IsCounted (m : Inside A) (now : Machine) (c : ℕ) (t : Track) : Type 0 where
    pub front : HasOldest m now c t
    pub reorder : renamed_by (λ e. true) (context_at now c).flight ≡ t.renamed
    pub queue : of_all (λ e. is_queued e.stage) now.view ≡ length m.flow.waiters
    pub queue_places : m.flow.places ≡ m.profile.issue_queue
    pub loads : renamed_by (λ e. is_load e.operation) (context_at now c).flight ≡ length (loads_of t.context.flight)
    pub load_places : t.load_places ≡ m.profile.load_queue
    pub stores : renamed_by (λ e. is_store e.operation) (context_at now c).flight ≡ length (stores_of t.context.flight)
    pub store_places : t.store_places ≡ m.profile.store_queue
    pub registers : of_all has_register now.view ≡ taken m.flow
    pub register_places : m.flow.extra ≡ m.profile.extra_registers

  pub is_counted : (m : Inside A) (now : Machine) (c : ℕ) (t : Track) → machine_of m ≡ now → IsMachine m → now.names ≡ [] → c < 8 → At m now c t → IsCounted m now c t
  is_counted m now c t shows ok idle lt h =
      let core = h.core in
      record {
        front = has_oldest m now c t shows h;
        reorder = ap (λ (x : Context). renamed_by (λ e. true) x.flight) (sym h.context) ∙ renamed_number t.renamed t.context.flight core.within core.are_renamed core.are_fetched;
        queue = sym (all_waiting m now shows ok idle);
        queue_places = ok.room.waiters;
        loads = ap (λ (x : Context). renamed_by (λ e. is_load e.operation) x.flight) (sym h.context) ∙ loads_number t.context.flight;
        load_places = ap (λ (u : Track). u.load_places) h.track ∙ ok.room.loads c lt;
        stores = ap (λ (x : Context). renamed_by (λ e. is_store e.operation) x.flight) (sym h.context) ∙ stores_number t.context.flight;
        store_places = ap (λ (u : Track). u.store_places) h.track ∙ ok.room.stores c lt;
        registers = sym (all_taken m now shows ok);
        register_places = ok.room.registers;
      }

  -- an entry that its parts let be renamed can be
  pub can_rename : (m : Inside A) (now : Machine) (c : ℕ) (t : Track) (stamp : ℕ) → c < 8 → IsCounted m now c t → IsRenamable m.flow t m.profile m.cycle stamp → CanRename now.view c (entry_at (context_at now c) t.renamed)
  can_rename m now c t stamp lt h r =
      let here : entry_at t.context t.renamed ≡ entry_at (context_at now c) t.renamed = ap (λ (x : Context). entry_at x t.renamed) h.front.context in
      subst (CanRename now.view c) here (record {
        context = lt;
        oldest = h.front.oldest ∙ slice_get-get_or t.context.flight t.renamed no_entry r.some;
        age = subst (λ (p : Profile). (entry_at t.context t.renamed).fetched + p.front_delay ≤ now.view.cycle) h.front.profile (omega (arith, r.age, h.front.cycle));
        room = subst (λ (p : Profile). HasRoom (record now.view { profile = p }) c (entry_at t.context t.renamed)) h.front.profile (record {
          reorder = omega (arith, h.reorder, r.fits);
          queue = λ stops. omega (arith, r.place stops, h.queue, h.queue_places);
          loads = λ is. omega (arith, r.load is, h.loads, h.load_places);
          stores = λ is. omega (arith, r.store is, h.stores, h.store_places);
          registers = λ some. omega (arith, r.free some, h.registers, h.register_places);
        });
      })

  -- and the other way round
  pub is_renamable : (m : Inside A) (now : Machine) (c : ℕ) (t : Track) (e : Entry) → IsCounted m now c t → CanRename now.view c e → IsRenamable m.flow t m.profile m.cycle e.stamp
  is_renamable m now c t e h can =
      let read : slice_get t.context.flight t.renamed ≡ Some e = sym h.front.oldest ∙ can.oldest in
      let here : entry_at t.context t.renamed ≡ e = get_or_from_slice_get t.context.flight t.renamed e no_entry read in
      let age : e.fetched + m.profile.front_delay ≤ now.view.cycle = subst (λ (p : Profile). e.fetched + p.front_delay ≤ now.view.cycle) (sym h.front.profile) can.age in
      let room : HasRoom (record now.view { profile = m.profile }) c e = subst (λ (p : Profile). HasRoom (record now.view { profile = p }) c e) (sym h.front.profile) can.room in
      record {
        some = slice_get_within t.context.flight t.renamed e read;
        fits = omega (arith, room.reorder, h.reorder);
        stamp_is = ap (λ (f : Entry). f.stamp) here;
        age = rw here (omega (arith, age, h.front.cycle));
        free = rw here (λ some. omega (arith, room.registers some, h.registers, h.register_places));
        place = rw here (λ stops. omega (arith, room.queue stops, h.queue, h.queue_places));
        load = rw here (λ is. omega (arith, room.loads is, h.loads, h.load_places));
        store = rw here (λ is. omega (arith, room.stores is, h.stores, h.store_places));
      }

  -- a context has a fetched entry exactly where its track has not renamed all
  pub some_fetched : (m : Inside A) (now : Machine) (c : ℕ) (t : Track) → HasOldest m now c t → (answer : Bool) → IsTrue answer ↔ (t.renamed < length t.context.flight) → answer ≡ is_some (oldest_fetched (context_at now c))
  some_fetched m now c t h answer is = tells_one answer t.renamed t.context.flight is ∙ ap (λ (o : Option Entry). is_some o) (sym h.oldest)

  -- its stamp is below the next one
  pub front_below : (m : Inside A) (t : Track) (c : ℕ) (now : Machine) → m.stamp < 2 ^ 64 → At m now c t → (o : Option Entry) → slice_get t.context.flight t.renamed ≡ o → IfSome (option_map (λ (e : Entry). e.stamp) o) (λ stamp. stamp + 1 < 2 ^ 64)
  front_below m t c now fits h None is = tt
  front_below m t c now fits h (Some e) is =
      let below = stamped_below m.stamp t.context.flight t.renamed h.core.live.flight.below (slice_get_within t.context.flight t.renamed e is) in
      let same = ap (λ (f : Entry). f.stamp) (get_or_from_slice_get t.context.flight t.renamed e no_entry is) in
      omega (arith, below, same, fits)

  pub may_not_rename : (m : Inside A) (now : Machine) (c : ℕ) (t : Track) → IsCounted m now c t → (limit : ℕ) → ((stamp : ℕ) → stamp ≤ limit → ¬ (IsRenamable m.flow t m.profile m.cycle stamp)) → (e : Entry) → e.stamp ≤ limit → ¬ (CanRename now.view c e)
  may_not_rename m now c t h limit not_one e within can = not_one e.stamp within (is_renamable m now c t e h can)

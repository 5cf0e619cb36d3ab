-- An event of one context, in the machine.
use Rattle.std.proofs.Common.{◌≡◌, ◌≢◌, ℕ, ◌+◌, ◌-◌, ◌<◌, ◌≤◌, List, [], length, get_or, map, refl, sym, ap, subst, ◌∙◌, arith, inl, inr, Bool, true, false}
use Rattle.std.specs.Prelude.{set, ◌==◌, ◌&&◌, if◌then◌else◌}
use Rattle.std.proofs.lemmas.Bool.{cases_eq}
use Rattle.std.proofs.lemmas.Bool.Decides.{nat_tests}
use Rattle.std.specs.Arc.{arc_value}
use Rattle.std.proofs.lemmas.List.{get_or-map, get_or_read, get_or_default, get_or-set_same, get_or-set_other, length-set, length-map, map-set, set-get_or}
use Rattle.origin_set.specs.Start.{start}
use Rattle.core_profile.specs.declared.profile.Profile.{Profile}
use Rattle.core_view.specs.Flight.{is_open}
use Rattle.lawful_cycle.specs.Fetch.{front_places, is_running}
use Rattle.core_view.specs.View.{Context, IsLive, IsSoundFlight, IsSoundView}
use Rattle.core_back.specs.declared.machine.Machine.TheInside.{Inside}
use Rattle.data_flow.specs.Flow.{Flow}
use Rattle.core_context.specs.FrontLists.{front_fill}
use Rattle.core_context.specs.Heads.{IsGoing, first_done, step_on}
use Rattle.core_context.specs.Track.{Track, is_last, retired}
use Rattle.core_context.specs.Cores.{IsCore}
use Rattle.core_back.specs.Machine.{Machine, context_at, with_context, with_contexts, no_track, no_context}
use Rattle.core_back.specs.Fetched.{with_block}
use Rattle.core_back.specs.Fills.{AreFills}
use Rattle.core_back.specs.Shown.{machine_of, IsMachine, HasRoom, waiting_flow}
use Rattle.core_context.specs.Issuable.{AreLetGo}
use Rattle.core_context.specs.Left.{IsIdleCore, IsLeft, KeepsSizes, IsEventAt}
use Rattle.core_context.proofs.Laws.{fill_is, fill_retired, left_core}

-- ---- how full front lists are

-- one track is another, of which it is known
pub fills_set : (fills : List ℕ) (ts : List Track) (c k fill : ℕ) (u : Track) → AreFills fills ts → c < 8 → length ts ≡ 8 → k ≡ c → fill ≡ front_fill u.context → AreFills (set fills k fill) (set ts c u)
fills_set fills ts c k fill u all lt count same is = record {
  eight = length-set fills k fill ∙ all.eight;
  each = λ d below. elim (cases_eq d c) [
    | inl here ↦ ap (λ i. get_or (set fills i fill) d 0) same ∙ ap (λ i. get_or (set fills c fill) i 0) here ∙ get_or-set_same fills c fill 0 (omega (arith, lt, all.eight)) ∙ is
        ∙ ap (λ (t : Track). front_fill t.context) (sym (ap (λ i. get_or (set ts c u) i no_track) here ∙ get_or-set_same ts c u no_track (omega (arith, lt, count))))
    | inr other ↦ ap (λ i. get_or (set fills i fill) d 0) same ∙ get_or-set_other fills c d fill 0 other ∙ all.each d below ∙ ap (λ (t : Track). front_fill t.context) (sym (get_or-set_other ts c d u no_track other))
  ];
}

-- one track is another, which is as full
pub fills_kept : (fills : List ℕ) (ts : List Track) (c : ℕ) (u : Track) → AreFills fills ts → c < 8 → length ts ≡ 8 → front_fill u.context ≡ front_fill (get_or ts c no_track).context → AreFills fills (set ts c u)
fills_kept fills ts c u all lt count is = record {
  eight = all.eight;
  each = λ d below. all.each d below ∙ elim (cases_eq d c) [
    | inl here ↦ ap (λ i. front_fill (get_or ts i no_track).context) here ∙ sym is ∙ ap (λ (t : Track). front_fill t.context) (sym (ap (λ i. get_or (set ts c u) i no_track) here ∙ get_or-set_same ts c u no_track (omega (arith, lt, count))))
    | inr other ↦ ap (λ (t : Track). front_fill t.context) (sym (get_or-set_other ts c d u no_track other))
  ];
}

-- ---- the machine

-- the room that there is stays
pub room_after : (p : Profile) (f g : Flow) (ts : List Track) (c : ℕ) (u : Track) → HasRoom p f ts → c < length ts → g.extra ≡ f.extra → g.places ≡ f.places
    → u.load_places ≡ (get_or ts c no_track).load_places → u.store_places ≡ (get_or ts c no_track).store_places → HasRoom p g (set ts c u)
room_after p f g ts c u h lt extra places loads stores = record {
  registers = extra ∙ h.registers;
  waiters = places ∙ h.waiters;
  loads = λ d below. at_place (λ (t : Track). t.load_places) loads d ∙ h.loads d below;
  stores = λ d below. at_place (λ (t : Track). t.store_places) stores d ∙ h.stores d below;
}
  where
    at_place : (field : Track → ℕ) → field u ≡ field (get_or ts c no_track) → (d : ℕ) → field (get_or (set ts c u) d no_track) ≡ field (get_or ts d no_track)
    at_place field same d = elim (cases_eq d c) [
      | inl is ↦ ap field (ap (λ i. get_or (set ts c u) i no_track) is ∙ get_or-set_same ts c u no_track lt) ∙ same ∙ ap (λ i. field (get_or ts i no_track)) (sym is)
      | inr other ↦ ap field (get_or-set_other ts c d u no_track other)
    ]

module _ {A : Type 0} where
  -- the track and the lane of a context, as it is shown
  pub record At (m : Inside A) (now : Machine) (c : ℕ) (t : Track) : Type 0 where
    pub in_lanes : c < length m.flow.lanes
    pub in_tracks : c < length m.tracks.items
    pub track : t ≡ get_or m.tracks.items c no_track
    pub core : IsCore (start (arc_value m.origins.c0) c) m.stamp m.profile.reorder_buffer (waiting_flow m.selected m.flow) [] c t
    pub context : t.context ≡ context_at now c

  pub at_context : (m : Inside A) (now : Machine) (c k : ℕ) (t : Track) → machine_of m ≡ now → IsMachine m → c < 8 → k ≡ c → t ≡ get_or m.tracks.items k t → At m now c t
  at_context m now c k t shows ok lt same read_k =
      let read : t ≡ get_or m.tracks.items c t = subst (λ i. t ≡ get_or m.tracks.items i t) same read_k in
      let in_tracks : c < length m.tracks.items = omega (arith, lt, ok.tracks) in
      let t-is : t ≡ get_or m.tracks.items c no_track = get_or_read m.tracks.items c t in_tracks read no_track in
      record {
        in_lanes = omega (arith, lt, ok.lanes);
        in_tracks = in_tracks;
        track = t-is;
        core = rw t-is (ok.cores c lt);
        context = ap (λ (u : Track). u.context) t-is ∙ sym (get_or-map (λ (u : Track). u.context) m.tracks.items c no_track no_context in_tracks) ∙ ap (λ (v : Machine). context_at v c) shows;
      }

  -- a context is live, as it is shown
  pub shown_live : (m : Inside A) (now : Machine) (c : ℕ) (t : Track) → machine_of m ≡ now → At m now c t → IsLive (start now.origin c) now.view.stamp (context_at now c)
  shown_live m now c t shows at_c =
      let origin : arc_value m.origins.c0 ≡ now.origin = ap (λ (v : Machine). v.origin) shows in
      let stamp : m.stamp ≡ now.view.stamp = ap (λ (v : Machine). v.view.stamp) shows in
      subst (λ s. IsLive (start now.origin c) s (context_at now c)) stamp
      (subst (λ o. IsLive (start o c) m.stamp (context_at now c)) origin
      (subst (λ x. IsLive (start (arc_value m.origins.c0) c) m.stamp x) at_c.context at_c.core.live))

  -- nothing was selected
  pub idle_names : (m : Inside A) (now : Machine) → machine_of m ≡ now → now.names ≡ [] → m.selected ≡ []
  idle_names m now shows idle = ap (λ (v : Machine). v.names) shows ∙ idle

  pub idle_core : (m : Inside A) (now : Machine) (c : ℕ) (t : Track) → machine_of m ≡ now → now.names ≡ [] → At m now c t → IsCore (start (arc_value m.origins.c0) c) m.stamp m.profile.reorder_buffer m.flow [] c t
  idle_core m now c t shows idle at_c = subst (λ names. IsCore (start (arc_value m.origins.c0) c) m.stamp m.profile.reorder_buffer (waiting_flow names m.flow) [] c t) (idle_names m now shows idle) at_c.core

  pub idle_core_at : (m : Inside A) (now : Machine) → machine_of m ≡ now → IsMachine m → now.names ≡ [] → (c : ℕ) → c < 8 → IsCore (start (arc_value m.origins.c0) c) m.stamp m.profile.reorder_buffer m.flow [] c (get_or m.tracks.items c no_track)
  idle_core_at m now shows ok idle c lt = subst (λ names. IsCore (start (arc_value m.origins.c0) c) m.stamp m.profile.reorder_buffer (waiting_flow names m.flow) [] c (get_or m.tracks.items c no_track)) (idle_names m now shows idle) (ok.cores c lt)

  -- so its track and the data flow stand for it
  pub is_idle : (m : Inside A) (now : Machine) (c : ℕ) (t : Track) → machine_of m ≡ now → now.names ≡ [] → c < 8 → At m now c t → IsIdleCore m.flow c t
  is_idle m now c t shows idle lt at_c = record {
    start = start (arc_value m.origins.c0) c;
    stamp = m.stamp;
    reorder = m.profile.reorder_buffer;
    is_context = lt;
    has_lane = at_c.in_lanes;
    core = idle_core m now c t shows idle at_c;
  }

  -- after an event of the context c, each context is a core
  pub cores_after : (m : Inside A) (now : Machine) (c : ℕ) (u : Track) (g : Flow) → machine_of m ≡ now → IsMachine m → now.names ≡ [] → c < 8
      → IsCore (start (arc_value m.origins.c0) c) m.stamp m.profile.reorder_buffer g [] c u → ((d : ℕ) → d ≢ c → IsLeft m.flow g d)
      → (d : ℕ) → d < 8 → IsCore (start (arc_value m.origins.c0) d) m.stamp m.profile.reorder_buffer g [] d (get_or (set m.tracks.items c u) d no_track)
  cores_after m now c u g shows ok idle lt core left d lt-d = by_context (d == c) refl
    where
      here : c < length m.tracks.items
      here = omega (arith, lt, ok.tracks)

      by_context : (b : Bool) → (d == c) ≡ b → IsCore (start (arc_value m.origins.c0) d) m.stamp m.profile.reorder_buffer g [] d (get_or (set m.tracks.items c u) d no_track)
      by_context true is =
          let same : d ≡ c = grind (arith, nat_tests, is) in
          rw (same, get_or-set_same m.tracks.items c u no_track here) core
      by_context false is =
          let other : d ≢ c = λ same. absurd (grind (arith, nat_tests, is, same)) in
          let before : IsCore (start (arc_value m.origins.c0) d) m.stamp m.profile.reorder_buffer m.flow [] d (get_or m.tracks.items d no_track) =
          subst (λ names. IsCore (start (arc_value m.origins.c0) d) m.stamp m.profile.reorder_buffer (waiting_flow names m.flow) [] d (get_or m.tracks.items d no_track)) (idle_names m now shows idle) (ok.cores d lt-d) in
          rw (get_or-set_other m.tracks.items c d u no_track other) (left_core (start (arc_value m.origins.c0) d) m.stamp m.stamp m.profile.reorder_buffer m.flow g [] d (get_or m.tracks.items d no_track) before (left d other) (omega arith))

  -- the machine after an event of the context c
  pub machine_after : (m n : Inside A) (now : Machine) (c k : ℕ) (u : Track) (g : Flow) → machine_of m ≡ now → IsMachine m → now.names ≡ [] → c < 8
      → IsCore (start (arc_value m.origins.c0) c) m.stamp m.profile.reorder_buffer g [] c u → ((d : ℕ) → d ≢ c → IsLeft m.flow g d) → KeepsSizes m.flow g
      → u.load_places ≡ (get_or m.tracks.items c no_track).load_places → u.store_places ≡ (get_or m.tracks.items c no_track).store_places
      → k ≡ c → n.origins ≡ m.origins → n.flow ≡ g → n.tracks.items ≡ set m.tracks.items k u → n.selected ≡ m.selected → n.cycle ≡ m.cycle → n.stamp ≡ m.stamp → n.fetch_room ≡ m.fetch_room → n.profile ≡ m.profile → AreFills n.fills (set m.tracks.items c u) → IsMachine n
  machine_after m n now c k u g shows ok idle lt core left sizes loads stores same origins flow tracks_k names cycle stamp room profile fills =
      let tracks : n.tracks.items ≡ set m.tracks.items c u = tracks_k ∙ ap (λ i. set m.tracks.items i u) same in
      let none = idle_names m now shows idle in
      record {
        cores = rw (origins, flow, tracks, names, stamp, profile, none) (cores_after m now c u g shows ok idle lt core left);
        origins = rw origins ok.origins;
        tracks = rw tracks (length-set m.tracks.items c u ∙ ok.tracks);
        lanes = rw flow (sizes.lanes ∙ ok.lanes);
        contexts = rw flow (sizes.contexts ok.contexts);
        let_go = λ over. subst AreLetGo (sym flow) (sizes.let_go (ok.let_go none));
        apart = rw (names, none) (λ i j d lt over. absurd (omega (arith, over)));
        supplied = rw (names, none) (λ k d over. absurd (omega (arith, over)));
        held = rw (names, none) (λ k d over. absurd (omega (arith, over)));
        waits = rw (names, none) (λ k d over. absurd (omega (arith, over)));
        stamps = rw (stamp, room, cycle) ok.stamps;
        room = rw (profile, flow, tracks) (room_after m.profile m.flow g m.tracks.items c u ok.room (omega (arith, lt, ok.tracks)) sizes.extra sizes.places loads stores);
        fills = rw tracks fills;
      }

  pub machine_after_event : (m n : Inside A) (now : Machine) (c k : ℕ) (t u : Track) (g : Flow) → machine_of m ≡ now → IsMachine m → now.names ≡ [] → c < 8 → At m now c t → IsEventAt c m.flow g t u
      → k ≡ c → n.origins ≡ m.origins → n.flow ≡ g → n.tracks.items ≡ set m.tracks.items k u → n.selected ≡ m.selected → n.cycle ≡ m.cycle → n.stamp ≡ m.stamp → n.fetch_room ≡ m.fetch_room → n.profile ≡ m.profile → AreFills n.fills (set m.tracks.items c u) → IsMachine n
  machine_after_event m n now c k t u g shows ok idle lt h event =
      machine_after m n now c k u g shows ok idle lt (event.kept (start (arc_value m.origins.c0) c) m.stamp m.profile.reorder_buffer (idle_core m now c t shows idle h)) event.others event.sizes
      (event.loads ∙ ap (λ (v : Track). v.load_places) h.track) (event.stores ∙ ap (λ (v : Track). v.store_places) h.track)

  -- the context's track stands for it still
  pub core_after : (m : Inside A) (now : Machine) (c : ℕ) (t u : Track) (g : Flow) → machine_of m ≡ now → now.names ≡ [] → At m now c t → IsEventAt c m.flow g t u → IsCore (start (arc_value m.origins.c0) c) m.stamp m.profile.reorder_buffer g [] c u
  core_after m now c t u g shows idle h event = event.kept (start (arc_value m.origins.c0) c) m.stamp m.profile.reorder_buffer (idle_core m now c t shows idle h)

  -- its front list is as full as its track says
  pub fills_read : (m : Inside A) (now : Machine) (c k fill : ℕ) (t u : Track) (g : Flow) → machine_of m ≡ now → IsMachine m → now.names ≡ [] → c < 8 → At m now c t → IsEventAt c m.flow g t u → k ≡ c
      → fill ≡ length u.context.flight - u.renamed + (if is_running u.context.status && is_open u.context.flight then 0 else front_places) → AreFills (set m.fills k fill) (set m.tracks.items c u)
  fills_read m now c k fill t u g shows ok idle lt h event same is =
      fills_set m.fills m.tracks.items c k fill u ok.fills lt ok.tracks same (is ∙ sym (fill_is (start (arc_value m.origins.c0) c) m.stamp m.profile.reorder_buffer g c u (core_after m now c t u g shows idle h event)))

  -- or as full as it was
  pub fills_still : (m : Inside A) (now : Machine) (c : ℕ) (t u : Track) → IsMachine m → c < 8 → At m now c t → front_fill u.context ≡ front_fill t.context → AreFills m.fills (set m.tracks.items c u)
  fills_still m now c t u ok lt h is = fills_kept m.fills m.tracks.items c u ok.fills lt ok.tracks (is ∙ ap (λ (s : Track). front_fill s.context) h.track)

  -- the oldest entry retires: where the context is parked, its front list has no room
  pub fills_retired : (m : Inside A) (now : Machine) (c : ℕ) (t u : Track) (g : Flow) → machine_of m ≡ now → IsMachine m → now.names ≡ [] → c < 8 → At m now c t → IsEventAt c m.flow g t u → IsGoing (first_done t.context.flight) → u ≡ retired t (step_on (first_done t.context.flight))
      → AreFills (if is_last t.context then set m.fills c front_places else m.fills) (set m.tracks.items c u)
  fills_retired m now c t u g shows ok idle lt h event going is = by_end (is_last t.context) refl
    where
      parks : is_last t.context ≡ true → front_fill u.context ≡ front_places
      parks last = rw (is, last) refl

      by_end : (b : Bool) → is_last t.context ≡ b → AreFills (if b then set m.fills c front_places else m.fills) (set m.tracks.items c u)
      by_end true last = fills_set m.fills m.tracks.items c c front_places u ok.fills lt ok.tracks refl (sym (parks last))
      by_end false goes = fills_still m now c t u ok lt h (fill_retired (start (arc_value m.origins.c0) c) m.stamp m.profile.reorder_buffer m.flow g c t u (idle_core m now c t shows idle h) (core_after m now c t u g shows idle h event) goes going is)

  -- and what it shows
  pub shown_after : (m : Inside A) (now : Machine) (c k : ℕ) (u : Track) (x : Context) → machine_of m ≡ now → k ≡ c → u.context ≡ x
      → (let v : Machine = record {
        origin = arc_value m.origins.c0;
        view = record { profile = m.profile; cycle = m.cycle; stamp = m.stamp; contexts = map (λ (t : Track). t.context) (set m.tracks.items k u) };
        names = m.selected;
        fetch_room = m.fetch_room;
      } in v) ≡ with_context now c x
  shown_after m now c k u x shows same context = rw (same, map-set (λ (t : Track). t.context) m.tracks.items c u, context, ← shows) refl

  -- it shows what it showed, where the context does
  pub shown_same : (m : Inside A) (now : Machine) (c k : ℕ) (u : Track) → machine_of m ≡ now → k ≡ c → u.context ≡ context_at now c
      → (let v : Machine = record {
        origin = arc_value m.origins.c0;
        view = record { profile = m.profile; cycle = m.cycle; stamp = m.stamp; contexts = map (λ (t : Track). t.context) (set m.tracks.items k u) };
        names = m.selected;
        fetch_room = m.fetch_room;
      } in v) ≡ now
  shown_same m now c k u shows same context = shown_after m now c k u (context_at now c) shows same context ∙ ap (with_contexts now) (set-get_or now.view.contexts c no_context)

  -- the context after an event
  pub shown_there : (m : Inside A) (c k : ℕ) (u : Track) → c < length m.tracks.items → k ≡ c → u.context ≡ get_or (map (λ (t : Track). t.context) (set m.tracks.items k u)) c no_context
  shown_there m c k u lt same =
      rw (same, map-set (λ (t : Track). t.context) m.tracks.items c u, get_or-set_same (map (λ (t : Track). t.context) m.tracks.items) c u.context no_context (omega (arith, lt, length-map m.tracks.items (λ (t : Track). t.context)))) refl

  -- how many entries a context has after an event
  pub shown_length : (m : Inside A) (c k : ℕ) (u : Track) → c < length m.tracks.items → k ≡ c → (cut before : ℕ) → cut + length u.context.flight ≡ before
      → cut + length (get_or (map (λ (t : Track). t.context) (set m.tracks.items k u)) c no_context).flight ≡ before
  shown_length m c k u lt same cut before fewer =
      rw (same, map-set (λ (t : Track). t.context) m.tracks.items c u, get_or-set_same (map (λ (t : Track). t.context) m.tracks.items) c u.context no_context (omega (arith, lt, length-map m.tracks.items (λ (t : Track). t.context)))) fewer

  -- the machine after a track was passed to a call that leaves it as it was
  pub machine_same : (m n : Inside A) (c k : ℕ) (u : Track) → IsMachine m → u ≡ get_or m.tracks.items c no_track → k ≡ c
      → n.origins ≡ m.origins → n.flow ≡ m.flow → n.tracks.items ≡ set m.tracks.items k u → n.selected ≡ m.selected → n.cycle ≡ m.cycle → n.stamp ≡ m.stamp → n.fetch_room ≡ m.fetch_room → n.profile ≡ m.profile → n.fills ≡ m.fills → IsMachine n
  machine_same m n c k u ok read same origins flow tracks_k names cycle stamp room profile fills =
      let tracks : n.tracks.items ≡ m.tracks.items = tracks_k ∙ ap (λ i. set m.tracks.items i u) same ∙ ap (set m.tracks.items c) read ∙ set-get_or m.tracks.items c no_track in
      record {
        cores = rw (origins, flow, tracks, names, stamp, profile) ok.cores;
        origins = rw origins ok.origins;
        tracks = rw tracks ok.tracks;
        lanes = rw flow ok.lanes;
        contexts = rw flow ok.contexts;
        let_go = rw (flow, names) ok.let_go;
        apart = rw names ok.apart;
        supplied = rw (names, flow) ok.supplied;
        held = rw (names, flow) ok.held;
        waits = rw (names, flow) ok.waits;
        stamps = rw (stamp, room, cycle) ok.stamps;
        room = rw (profile, flow, tracks) ok.room;
        fills = rw (fills, tracks) ok.fills;
      }

  -- the machine after so many entries of the context c were fetched: as many stamps were taken
  pub machine_fetched : (m n : Inside A) (now : Machine) (c k number : ℕ) (u : Track) → machine_of m ≡ now → IsMachine m → now.names ≡ [] → c < 8
      → IsCore (start (arc_value m.origins.c0) c) (m.stamp + number) m.profile.reorder_buffer m.flow [] c u
      → u.load_places ≡ (get_or m.tracks.items c no_track).load_places → u.store_places ≡ (get_or m.tracks.items c no_track).store_places → k ≡ c
      → n.origins ≡ m.origins → n.flow ≡ m.flow → n.tracks.items ≡ set m.tracks.items k u → n.selected ≡ m.selected → n.cycle ≡ m.cycle → n.stamp ≡ m.stamp + number → n.fetch_room + number ≡ m.fetch_room → n.profile ≡ m.profile → AreFills n.fills (set m.tracks.items c u) → IsMachine n
  machine_fetched m n now c k number u shows ok idle lt core loads stores same origins flow tracks_k names cycle stamp room profile fills =
      let tracks : n.tracks.items ≡ set m.tracks.items c u = tracks_k ∙ ap (λ i. set m.tracks.items i u) same in
      let none = idle_names m now shows idle in
      let stamps = ok.stamps in
      record {
        cores = rw (origins, flow, tracks, names, stamp, profile, none) cores;
        origins = rw origins ok.origins;
        tracks = rw tracks (length-set m.tracks.items c u ∙ ok.tracks);
        lanes = rw flow ok.lanes;
        contexts = rw flow ok.contexts;
        let_go = λ over. subst AreLetGo (sym flow) (ok.let_go none);
        apart = rw (names, none) (λ i j d lt over. absurd (omega (arith, over)));
        supplied = rw (names, none) (λ k d over. absurd (omega (arith, over)));
        held = rw (names, none) (λ k d over. absurd (omega (arith, over)));
        waits = rw (names, none) (λ k d over. absurd (omega (arith, over)));
        stamps = rw cycle (omega (arith, stamps, stamp, room));
        room = rw (profile, flow, tracks) (room_after m.profile m.flow m.flow m.tracks.items c u ok.room here refl refl loads stores);
        fills = rw tracks fills;
      }
    where
      here : c < length m.tracks.items
      here = omega (arith, lt, ok.tracks)

      cores : (d : ℕ) → d < 8 → IsCore (start (arc_value m.origins.c0) d) (m.stamp + number) m.profile.reorder_buffer m.flow [] d (get_or (set m.tracks.items c u) d no_track)
      cores d lt-d = by_context (d == c) refl
        where
          by_context : (b : Bool) → (d == c) ≡ b → IsCore (start (arc_value m.origins.c0) d) (m.stamp + number) m.profile.reorder_buffer m.flow [] d (get_or (set m.tracks.items c u) d no_track)
          by_context true is =
              let this : d ≡ c = grind (arith, nat_tests, is) in
              rw (this, get_or-set_same m.tracks.items c u no_track here) core
          by_context false is =
              let other : d ≢ c = λ this. absurd (grind (arith, nat_tests, is, this)) in
              let before : IsCore (start (arc_value m.origins.c0) d) m.stamp m.profile.reorder_buffer m.flow [] d (get_or m.tracks.items d no_track) =
              subst (λ names. IsCore (start (arc_value m.origins.c0) d) m.stamp m.profile.reorder_buffer (waiting_flow names m.flow) [] d (get_or m.tracks.items d no_track)) (idle_names m now shows idle) (ok.cores d lt-d) in
              rw (get_or-set_other m.tracks.items c d u no_track other) (left_core (start (arc_value m.origins.c0) d) m.stamp (m.stamp + number) m.profile.reorder_buffer m.flow m.flow [] d (get_or m.tracks.items d no_track) before (record { lane = refl; waits = refl }) (omega arith))

  -- and what it shows
  pub shown_fetched : (m : Inside A) (now : Machine) (c k number : ℕ) (u : Track) (room : ℕ) → machine_of m ≡ now → k ≡ c
      → (let v : Machine = record {
        origin = arc_value m.origins.c0;
        view = record { profile = m.profile; cycle = m.cycle; stamp = m.stamp + number; contexts = map (λ (t : Track). t.context) (set m.tracks.items k u) };
        names = m.selected;
        fetch_room = room;
      } in v) ≡ with_block now c u.context number room
  shown_fetched m now c k number u room shows same = rw (same, map-set (λ (t : Track). t.context) m.tracks.items c u, ← shows) refl

  -- each context is live, as it is shown
  pub all_live : (m : Inside A) (now : Machine) → machine_of m ≡ now → IsMachine m → (c : ℕ) → c < 8 → IsLive (start now.origin c) now.view.stamp (context_at now c)
  all_live m now shows ok c lt =
      let t = get_or m.tracks.items c no_track in
      shown_live m now c t shows (at_context m now c c t shows ok lt refl (get_or_default m.tracks.items c no_track t (omega (arith, lt, ok.tracks))))

  -- and has at most as many entries in flight as a reorder buffer and a front list may hold
  pub all_few : (m : Inside A) (now : Machine) → machine_of m ≡ now → IsMachine m → (c : ℕ) → c < 8 → length (context_at now c).flight ≤ 80
  all_few m now shows ok c lt =
      let t = get_or m.tracks.items c no_track in
      let at_c = at_context m now c c t shows ok lt refl (get_or_default m.tracks.items c no_track t (omega (arith, lt, ok.tracks))) in
      let same : length t.context.flight ≡ length (context_at now c).flight = ap (λ (x : Context). length x.flight) at_c.context in
      omega (arith, same, at_c.core.front, at_c.core.fits, m.profile.reorder_buffer_in_range.1)

  -- so the view is sound
  pub all_sound : (m : Inside A) (now : Machine) → machine_of m ≡ now → IsMachine m → IsSoundView now.view
  all_sound m now shows ok = record {
    flights = λ c d lt.
        let count : length now.view.contexts ≡ 8 = ap (λ (v : Machine). length v.view.contexts) (sym shows) ∙ length-map m.tracks.items (λ (t : Track). t.context) ∙ ok.tracks in
        let below : c < 8 = omega (arith, lt, count) in
        subst (λ (x : Context). IsSoundFlight now.view.stamp x) (get_or_default now.view.contexts c no_context d lt) (all_live m now shows ok c below).flight;
  }

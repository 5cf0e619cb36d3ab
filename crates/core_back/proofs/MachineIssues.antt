-- A selection, and the issue of the first entry that was selected, in the machine.
use Rattle.std.proofs.Common.{◌≡◌, ◌≢◌, ℕ, suc, ◌+◌, ◌<◌, Bool, true, false, List, [], ◌∷◌, length, get_or, drop, map, Option, Some, None, refl, sym, ap, subst, ◌∙◌, arith, inl, inr}
use Rattle.std.specs.Prelude.{◌||◌, ◌&&◌, ◌==◌, not, set, filter, All, AllPairs, IfSome}
use Rattle.std.proofs.lemmas.List.Elements.{All-tail, All-filter}
use Rattle.std.proofs.lemmas.Bool.{cases_eq, lt-ltb, and_parts, eqb-false, ne_eqb, not-true}
use Rattle.std.proofs.lemmas.Bool.Decides.{nat_tests}
use Rattle.std.specs.Arc.{arc_value}
use Rattle.std.proofs.lemmas.List.{get_or-set_same, get_or-set_other, length-set, map-set}
use Rattle.word_mask.specs.Mask.{has}
use Rattle.core_view.specs.declared.note.EntryId.{EntryId}
use Rattle.origin_set.specs.Start.{start}
use Rattle.core_view.specs.View.{Context, entry_at, seen_at}
use Rattle.core_view.specs.Events.{issue_event}
use Rattle.core_view.specs.Outcomes.{image_of, outcome_in}
use Rattle.core_view.specs.declared.entry.Execution.{Execution}
use Rattle.core_view.specs.declared.entry.Stage.TheVariants.{Queued}
use Rattle.core_back.specs.declared.machine.Machine.TheInside.{Inside}
use Rattle.data_flow.specs.Flow.{Flow, lane, node_at, queued, waits_in, waits_to_load, sources_at, released}
use Rattle.core_context.specs.FrontLists.{front_fill}
use Rattle.core_context.specs.Track.{Track, issued}
use Rattle.core_context.specs.Issuable.{IsSupplied, may_issue_at, must_wait, IsMarked, AreLetGo, AreHeld}
use Rattle.data_tags.specs.declared.delay.Kind.{Kind}
use Rattle.data_tags.specs.declared.delay.Lag.{Lag}
use Rattle.lawful_cycle.specs.Delays.{kind_of, address_in}
use Rattle.lawful_cycle.specs.Issue.{first_value, second_value, is_ready, outcome_at, address_at}
use Rattle.core_back.specs.Issued.{IsPerformedBy, IsIssuedBy, IsHeadWaiting}
use Rattle.core_context.specs.Steps.{IsRemarked}
use Rattle.core_context.specs.Cores.{is_selected, IsCore}
use Rattle.core_back.specs.Machine.{Machine, context_at, with_context, no_track}
use Rattle.core_back.specs.Shown.{machine_of, IsMachine, AreApart, IsSuppliedIn, marked_among, still_waits, unissued, waiting_flow, flow_left}
use Rattle.core_context.proofs.Laws.{remarked_twice, remarked_lane, held_kept, released_remarked, released_all, let_go_marked, core_answered, core_sources, issue_core, issue_other, eight-remarked, fill_issued, node_count, none_ready_held, eqb-flip}
use Rattle.core_back.proofs.Machines.{At, at_context, fills_kept, idle_names, idle_core_at, room_after}
use Rattle.core_back.proofs.Selections.{first_apart, rest_apart, IsReadyPlace, ready_place, name_selected, remarked_core, select_apart, select_supplied, select_waited}
use Rattle.core_back.proofs.HeldNames.{without_name, left_waiting, named_core, waits_without, held_marked, held_remarked, held_waiting, none_held, waits_remarked, given_remarked, dropped_let_go, some_waiting, are_released}
use Rattle.core_back.proofs.Chosen.{no_wait, is_chosen_by, chosen_asked, chosen_unasked}
use Rattle.core_back.proofs.CompletedTurns.{has_none}
use Rattle.core_back.proofs.Renamable.{track_flight}
use Rattle.core_back.specs.Selected.{IsChosenOf, IsChosen, IsSuppliedPlace}
use Rattle.issue_queue.specs.declared.entry.QueueView.{QueueView}
use Rattle.issue_queue.specs.Views.{view_of}
use Rattle.issue_queue.specs.Entry.{Entry as Waiting}
use Rattle.core_view.specs.declared.outcome.Outcome.{Outcome}
use Rattle.issue_queue.specs.IsSelected.{IsSelected}

-- a list that isn't empty is its first element and the others
first_and_rest : (names : List EntryId) (n : EntryId) → 0 < length names → n ≡ get_or names 0 n → names ≡ n ∷ drop 1 names
first_and_rest [] n some is = absurd (omega arith)
first_and_rest (m ∷ names) n some is = ap (λ x. x ∷ names) (sym is)

-- a context is that of its number
pub numbered : (found : Option ℕ) (c number : ℕ) → IfSome found (λ d. d ≡ number) → found ≡ Some c → c ≡ number
numbered found c number h is = subst (λ (o : Option ℕ). IfSome o (λ d. d ≡ number)) is h

-- one name is itself
itself : (n : EntryId) → is_selected (n ∷ []) n.context n.stamp ≡ true
itself n = name_selected (n ∷ []) 0 n (omega arith)

module _ {A : Type 0} where
  -- the first name, and what is known of the entry that it stands for
  pub record IsFirstName (m : Inside A) (now : Machine) (n : EntryId) (rest : List EntryId) (t : Track) : Type 0 where
    pub names : m.selected ≡ n ∷ rest
    pub shown : At m now n.context t
    -- the context is a core of what waits without it, where it is selected
    pub core : IsCore (start (arc_value m.origins.c0) n.context) m.stamp m.profile.reorder_buffer (without_name n (unissued (n ∷ rest) m.flow)) (n ∷ []) n.context t
    pub other : is_selected rest n.context n.stamp ≡ false
    pub waits : waits_in (unissued (n ∷ rest) m.flow) n.context n.stamp ≡ true
    pub held : IsMarked m.flow n.context n.stamp true
    pub supplied : IsSuppliedIn m.flow n

  pub first_name : (m : Inside A) (now : Machine) (n : EntryId) (k : ℕ) (t : Track) → machine_of m ≡ now → IsMachine m → 0 < length m.selected → n ≡ get_or m.selected 0 n → n.context < 8 → k ≡ n.context → t ≡ get_or m.tracks.items k t
      → IsFirstName m now n (drop 1 m.selected) t
  first_name m now n k t shows ok some is lt same read =
      let rest = drop 1 m.selected in
      let names : m.selected ≡ n ∷ rest = first_and_rest m.selected n some is in
      let h = at_context m now n.context k t shows ok lt same read in
      let waits = (subst (λ ns. All (λ s. waits_in (waiting_flow ns m.flow) s.context s.stamp ≡ true) ns) names ok.waits) 0 n (omega arith) in
      record {
        names = names;
        shown = h;
        core = named_core (subst (λ ns. IsCore (start (arc_value m.origins.c0) n.context) m.stamp m.profile.reorder_buffer (waiting_flow ns m.flow) [] n.context t) names h.core) n waits;
        other = first_apart n rest (subst (AllPairs AreApart) names ok.apart);
        waits = waits;
        held = (subst (All (λ s. IsMarked m.flow s.context s.stamp true)) names ok.held) 0 n (omega arith);
        supplied = (subst (All (IsSuppliedIn m.flow)) names ok.supplied) 0 n (omega arith);
      }

  -- its place
  pub first_place : (m : Inside A) (now : Machine) (n : EntryId) (rest : List EntryId) (t : Track) → IsFirstName m now n rest t → (i : ℕ) → i < length t.context.flight → (entry_at t.context i).stamp ≡ n.stamp → IsReadyPlace (without_name n (unissued (n ∷ rest) m.flow)) n.context t i
  first_place m now n rest t h i lt is = ready_place h.core n.stamp i (itself n) h.supplied lt is

  -- its entry is queued, with the values of its sources
  pub first_supplied : (m : Inside A) (now : Machine) (n : EntryId) (rest : List EntryId) (t : Track) → IsFirstName m now n rest t → IsSupplied m.flow n.context t n.stamp
  first_supplied m now n rest t h = record {
    queued = h.core.selected n.stamp (itself n);
    here = λ i lt is.
        let place = first_place m now n rest t h i lt is in
        record {
          known = place.known;
          stage = place.stage;
          sources = place.sources;
          answered = core_answered h.core i (omega (arith, place.renamed));
        };
  }

  -- the context of the first name is a core once its entry has issued
  pub issued_core : (m : Inside A) (now : Machine) (n : EntryId) (rest : List EntryId) (t : Track) → IsFirstName m now n rest t → (i : ℕ) (x : Execution) (a b : ℕ)
      → i < length t.context.flight → (entry_at t.context i).stamp ≡ n.stamp → sources_at (lane m.flow n.context) i ≡ Some (a, b) → may_issue_at t.context i a b ≡ true
      → x.outcome ≡ outcome_in (image_of t.context.state) (seen_at t.context i).bytes (entry_at t.context i).operation (entry_at t.context i).pc a b
      → IsCore (start (arc_value m.origins.c0) n.context) m.stamp m.profile.reorder_buffer (without_name n (unissued (n ∷ rest) m.flow)) [] n.context (issued t i x)
  issued_core m now n rest t h i x a b lt is sources clear outcome =
      issue_core h.core i x a b refl lt is (first_place m now n rest t h i lt is).stage sources clear outcome

  -- after the entry of a name has issued, each context is a core
  issued_cores : (m : Inside A) (now : Machine) (n : EntryId) (rest : List EntryId) (t u : Track) → IsMachine m → IsFirstName m now n rest t → n.context < 8
      → IsCore (start (arc_value m.origins.c0) n.context) m.stamp m.profile.reorder_buffer (without_name n (unissued (n ∷ rest) m.flow)) [] n.context u
      → (d : ℕ) → d < 8 → IsCore (start (arc_value m.origins.c0) d) m.stamp m.profile.reorder_buffer (without_name n (unissued (n ∷ rest) m.flow)) [] d (get_or (set m.tracks.items n.context u) d no_track)
  issued_cores m now n rest t u ok h lt core d lt-d = by_context (d == n.context) refl
    where
      here : n.context < length m.tracks.items
      here = omega (arith, lt, ok.tracks)

      by_context : (b : Bool) → (d == n.context) ≡ b → IsCore (start (arc_value m.origins.c0) d) m.stamp m.profile.reorder_buffer (without_name n (unissued (n ∷ rest) m.flow)) [] d (get_or (set m.tracks.items n.context u) d no_track)
      by_context true is =
          let same : d ≡ n.context = grind (arith, nat_tests, is) in
          rw (same, get_or-set_same m.tracks.items n.context u no_track here) core
      by_context false is =
          let other : d ≢ n.context = λ same. absurd (grind (arith, nat_tests, is, same)) in
          let before : IsCore (start (arc_value m.origins.c0) d) m.stamp m.profile.reorder_buffer (unissued (n ∷ rest) m.flow) [] d (get_or m.tracks.items d no_track) =
          subst (λ ns. IsCore (start (arc_value m.origins.c0) d) m.stamp m.profile.reorder_buffer (waiting_flow ns m.flow) [] d (get_or m.tracks.items d no_track)) h.names (ok.cores d lt-d) in
          rw (get_or-set_other m.tracks.items n.context d u no_track other) (issue_other (named_core before n h.waits) other)

  -- the others of the names, once the first has issued
  module _ (m : Inside A) (now : Machine) (n : EntryId) (rest : List EntryId) (t : Track) (ok : IsMachine m) (h : IsFirstName m now n rest t) where
    apart_rest : AllPairs AreApart (n ∷ rest)
    apart_rest = subst (AllPairs AreApart) h.names ok.apart

    rest_supplied : All (IsSuppliedIn m.flow) rest
    rest_supplied = All-tail (IsSuppliedIn m.flow) n rest (subst (All (IsSuppliedIn m.flow)) h.names ok.supplied)

    rest_held : All (λ s. IsMarked m.flow s.context s.stamp true) rest
    rest_held = All-tail (λ s. IsMarked m.flow s.context s.stamp true) n rest (subst (All (λ s. IsMarked m.flow s.context s.stamp true)) h.names ok.held)

    rest_waits : All (λ s. waits_in (without_name n (unissued (n ∷ rest) m.flow)) s.context s.stamp ≡ true) rest
    rest_waits i d lt =
        let s = get_or rest i d in
        let waits = All-tail (λ s. waits_in (unissued (n ∷ rest) m.flow) s.context s.stamp ≡ true) n rest (subst (λ ns. All (λ s. waits_in (waiting_flow ns m.flow) s.context s.stamp ≡ true) ns) h.names ok.waits) in
        let others : AreApart n s = apart_rest 0 (suc i) d (omega arith) (omega (arith, lt)) in
        let apart : ((n.context == s.context) && (n.stamp == s.stamp)) ≡ false = rw (eqb-flip n.context s.context, eqb-flip n.stamp s.stamp) others in
        waits_without n (unissued (n ∷ rest) m.flow) s.context s.stamp ∙ ap (λ b. waits_in (unissued (n ∷ rest) m.flow) s.context s.stamp && not (b || false)) apart ∙ ap (λ b. b && true) (waits i d lt)

    held_left : (names : List EntryId) → All (λ s. IsMarked m.flow s.context s.stamp true) names → All (λ s. IsMarked (flow_left names m.flow) s.context s.stamp true) names
    held_left [] marked = λ i d lt. absurd (omega (arith, lt))
    held_left (s ∷ names) marked = marked

    contexts_left : (names : List EntryId) → All (λ w. w.context < 8) (flow_left names m.flow).waiters
    contexts_left [] = All-filter (λ w. not w.held) (λ w. w.context < 8) m.flow.waiters ok.contexts
    contexts_left (s ∷ names) = ok.contexts

  -- the machine after the entry of the first name has issued
  pub issued_machine : (m w : Inside A) (now : Machine) (n : EntryId) (k : ℕ) (rest : List EntryId) (t : Track) (i : ℕ) (x : Execution) → IsMachine m → IsFirstName m now n rest t → n.context < 8
      → IsCore (start (arc_value m.origins.c0) n.context) m.stamp m.profile.reorder_buffer (without_name n (unissued (n ∷ rest) m.flow)) [] n.context (issued t i x)
      → k ≡ n.context → w.origins ≡ m.origins → w.flow ≡ flow_left rest m.flow → w.tracks.items ≡ set m.tracks.items k (issued t i x) → w.selected ≡ rest → w.cycle ≡ m.cycle → w.stamp ≡ m.stamp → w.fetch_room ≡ m.fetch_room → w.profile ≡ m.profile → w.fills ≡ m.fills → IsMachine w
  issued_machine m w now n k rest t i x ok h lt core same origins flow tracks_k selected cycle stamp room profile fills =
      let u : Track = issued t i x in
      let tracks : w.tracks.items ≡ set m.tracks.items n.context u = tracks_k ∙ ap (λ i. set m.tracks.items i u) same in
      let waiting : waiting_flow w.selected w.flow ≡ without_name n (unissued (n ∷ rest) m.flow) = ap (λ ns. waiting_flow ns w.flow) selected ∙ ap (waiting_flow rest) flow ∙ left_waiting m.flow n rest h.other h.held in
      record {
        cores = rw (origins, waiting, tracks, stamp, profile) (issued_cores m now n rest t u ok h lt core);
        origins = rw origins ok.origins;
        tracks = rw tracks (length-set m.tracks.items n.context u ∙ ok.tracks);
        lanes = rw flow ok.lanes;
        contexts = rw flow (contexts_left m now n rest t ok h rest);
        let_go = λ none. subst AreLetGo (sym flow) (subst (λ ns. AreLetGo (flow_left ns m.flow)) (sym (sym selected ∙ none)) (dropped_let_go m.flow.waiters));
        apart = rw selected (rest_apart n rest (apart_rest m now n rest t ok h));
        supplied = rw (selected, flow) (rest_supplied m now n rest t ok h);
        held = rw (selected, flow) (held_left m now n rest t ok h rest (rest_held m now n rest t ok h));
        waits = subst (λ f. All (λ s. waits_in f s.context s.stamp ≡ true) w.selected) (sym waiting) (subst (All (λ s. waits_in (without_name n (unissued (n ∷ rest) m.flow)) s.context s.stamp ≡ true)) (sym selected) (rest_waits m now n rest t ok h));
        stamps = rw (stamp, room, cycle) ok.stamps;
        room = rw (profile, flow, tracks) (room_after m.profile m.flow (flow_left rest m.flow) m.tracks.items n.context u ok.room h.shown.in_tracks refl refl (ap (λ (s : Track). s.load_places) h.shown.track) (ap (λ (s : Track). s.store_places) h.shown.track));
        fills = rw (fills, tracks) (fills_kept m.fills m.tracks.items n.context u ok.fills lt ok.tracks (fill_issued (start (arc_value m.origins.c0) n.context) m.stamp m.profile.reorder_buffer (waiting_flow m.selected m.flow) (without_name n (unissued (n ∷ rest) m.flow)) n.context t u h.shown.core core i x refl ∙ ap (λ (s : Track). front_fill s.context) h.shown.track));
      }

  -- and what it shows
  pub issued_shown : (m : Inside A) (now : Machine) (c k : ℕ) (rest : List EntryId) (u : Track) (x : Context) → machine_of m ≡ now → k ≡ c → u.context ≡ x
      → (let v : Machine = record {
        origin = arc_value m.origins.c0;
        view = record { profile = m.profile; cycle = m.cycle; stamp = m.stamp; contexts = map (λ (t : Track). t.context) (set m.tracks.items k u) };
        names = rest;
        fetch_room = m.fetch_room;
      } in v) ≡ record (with_context now c x) { names = rest }
  issued_shown m now c k rest u x shows same context = rw (same, map-set (λ (t : Track). t.context) m.tracks.items c u, context, ← shows) refl

  -- what is known of it
  pub is_performed : (m : Inside A) (now : Machine) (n : EntryId) (rest : List EntryId) (t : Track) → IsFirstName m now n rest t → (i : ℕ) (x : Execution) (a b : ℕ) (says : Kind → ℕ → Outcome → Lag → Type 0) (kind : Kind) (address latency : ℕ)
      → i < length t.context.flight → (entry_at t.context i).stamp ≡ n.stamp → sources_at (lane m.flow n.context) i ≡ Some (a, b) → may_issue_at t.context i a b ≡ true
      → x.outcome ≡ outcome_in (image_of t.context.state) (seen_at t.context i).bytes (entry_at t.context i).operation (entry_at t.context i).pc a b
      → kind ≡ kind_of (entry_at t.context i).operation → address ≡ address_in (entry_at t.context i).operation (entry_at t.context i).pc a b
      → says kind address x.outcome (record { cycles = latency; miss = x.miss }) → IsPerformedBy says t.context i latency x
  is_performed m now n rest t h i x a b says kind address latency lt is sources clear outcome kind-is address-is lag =
      let place = first_place m now n rest t h i lt is in
      let both_known = core_sources h.core i place.renamed a b sources in
      let first : first_value t.context i ≡ Some a = both_known.0 in
      let second : second_value t.context i ≡ Some b = both_known.1 in
      let same : x.outcome ≡ outcome_at t.context i = rw (first, second) outcome in
      let at : address ≡ address_at t.context i = rw (first, second) address-is in
      record {
        ready = rw (lt-ltb i (length t.context.flight) lt, place.stage, first, second) clear;
        outcome = same;
        lag = subst (λ o. says (kind_of (entry_at t.context i).operation) (address_at t.context i) o (record { cycles = latency; miss = x.miss })) same
            (subst (λ d. says (kind_of (entry_at t.context i).operation) d x.outcome (record { cycles = latency; miss = x.miss })) at
            (subst (λ k. says k address x.outcome (record { cycles = latency; miss = x.miss })) kind-is lag));
      }

  -- the entry of the first name has to wait
  pub head_waits : (m : Inside A) (now : Machine) (n : EntryId) (rest : List EntryId) (t : Track) → machine_of m ≡ now → IsFirstName m now n rest t → (i a b : ℕ)
      → i < length t.context.flight → (entry_at t.context i).stamp ≡ n.stamp → sources_at (lane m.flow n.context) i ≡ Some (a, b) → may_issue_at t.context i a b ≡ false → IsHeadWaiting now
  head_waits m now n rest t shows h i a b lt is sources waits =
      let context : t.context ≡ context_at now n.context = h.shown.context in
      let place = first_place m now n rest t h i lt is in
      let both_known = core_sources h.core i place.renamed a b sources in
      let first : first_value t.context i ≡ Some a = both_known.0 in
      let second : second_value t.context i ≡ Some b = both_known.1 in
      let unready : is_ready t.context i ≡ false = rw (lt-ltb i (length t.context.flight) lt, place.stage, first, second) waits in
      record {
        name = n;
        rest = rest;
        names = sym (ap (λ (v : Machine). v.names) shows) ∙ h.names;
        place = i;
        within = subst (λ (v : Context). i < length v.flight) context lt;
        stamp = subst (λ (v : Context). (entry_at v i).stamp ≡ n.stamp) context is;
        waits = subst (λ (v : Context). is_ready v i ≡ false) context unready;
      }

  -- the entry of the first name has issued
  pub is_issued : {says : ℕ → Kind → ℕ → Outcome → Lag → Type 0} (m : Inside A) (now : Machine) (n : EntryId) (k : ℕ) (rest : List EntryId) (t u : Track) (i : ℕ) (x : Execution) (latency : ℕ) (left : List EntryId) → machine_of m ≡ now → IsFirstName m now n rest t → k ≡ n.context
      → i < length t.context.flight → (entry_at t.context i).stamp ≡ n.stamp → u ≡ issued t i x → x.due ≡ m.cycle + latency → left ≡ rest → IsPerformedBy (says n.context) t.context i latency x
      → IsIssuedBy says now (record {
        origin = arc_value m.origins.c0;
        view = record { profile = m.profile; cycle = m.cycle; stamp = m.stamp; contexts = map (λ (v : Track). v.context) (set m.tracks.items k u) };
        names = left;
        fetch_room = m.fetch_room;
      }) (record { entry = n; latency = latency; miss = x.miss })
  is_issued {says = says} m now n k rest t u i x latency left shows h same lt is new due names performed =
      let context : t.context ≡ context_at now n.context = h.shown.context in
      record {
        place = i;
        execution = x;
        within = subst (λ (v : Context). i < length v.flight) context lt;
        stamp = subst (λ (v : Context). (entry_at v i).stamp ≡ n.stamp) context is;
        queued = subst (λ (v : Context). (entry_at v i).stage ≡ Queued) context (first_place m now n rest t h i lt is).stage;
        performed = subst (λ (v : Context). IsPerformedBy (says n.context) v i latency x) context performed;
        due = due ∙ ap (λ (v : Machine). v.view.cycle + latency) shows;
        miss = refl;
        names = sym (ap (λ (v : Machine). v.names) shows) ∙ h.names ∙ ap (λ ns. n ∷ ns) (sym names);
        after = issued_shown m now n.context k left u (issue_event (context_at now n.context) i x) shows same (ap (λ (v : Track). v.context) new ∙ ap (λ (v : Context). issue_event v i x) context);
      }

-- ---- a selection

-- names have the values of their sources still, where only what waits has changed
same_supplied : (f g : Flow) (names : List EntryId) → g ≡ record f { waiters = g.waiters } → All (IsSuppliedIn f) names → All (IsSuppliedIn g) names
same_supplied f g names same supplied i d lt =
    let n = get_or names i d in
    let lanes : lane g n.context ≡ lane f n.context = ap (λ (h : Flow). lane h n.context) same in
    rw lanes (supplied i d lt)

-- ---- context by context

-- a bit goes, and every other stays
module _ (left next n : ℕ) (word : (p : ℕ) → has next p ≡ (has left p && not (p == n))) where
  other_bit : (d : ℕ) → d ≢ n → has next d ≡ has left d
  other_bit d other = word d ∙ ap (λ b. has left d && not b) (ne_eqb d n other) ∙ and_true (has left d)
    where
      and_true : (b : Bool) → (b && true) ≡ b
      and_true true = refl
      and_true false = refl

  left_before : (d : ℕ) → has next d ≡ true → (has left d ≡ true) × (d ≢ n)
  left_before d set = let parts = and_parts (has left d) (not (d == n)) (sym (word d) ∙ set) in (parts.0, eqb-false d n (not-true (d == n) parts.1))

module _ {A : Type 0} where
  -- the loads of the contexts that are not left were asked of, and nothing but what is held has changed
  pub record IsHeldBut (m h : Inside A) (left : ℕ) : Type 0 where
    pub origins : h.origins ≡ m.origins
    pub flow : IsRemarked m.flow h.flow
    pub tracks : h.tracks.items ≡ m.tracks.items
    pub cycle : h.cycle ≡ m.cycle
    pub stamp : h.stamp ≡ m.stamp
    pub room : h.fetch_room ≡ m.fetch_room
    pub profile : h.profile ≡ m.profile
    pub fills : h.fills ≡ m.fills
    pub known : (c : ℕ) → has left c ≡ true → c < 8
    pub held : (c : ℕ) → c < 8 → has left c ≡ false → AreHeld h.flow c (get_or m.tracks.items c no_track)
    pub rest : (c : ℕ) → has left c ≡ true → (k : ℕ) → IsMarked h.flow c k false

  -- all are let go first: those of a context without a ready one are then held as they have to be
  pub held_first : (m h : Inside A) (now : Machine) (left : ℕ) → machine_of m ≡ now → IsMachine m → now.names ≡ [] → h.flow ≡ m.flow
      → ((c : ℕ) → has left c ≡ true → c < 8)
      → ((c place : ℕ) → has left c ≡ false → place < length (lane h.flow c).nodes → waits_to_load h.flow c (node_at (lane h.flow c) place).operands.stamp ≡ true → sources_at (lane h.flow c) place ≡ None)
      → h.origins ≡ m.origins → h.tracks ≡ m.tracks → h.cycle ≡ m.cycle → h.stamp ≡ m.stamp → h.fetch_room ≡ m.fetch_room → h.profile ≡ m.profile → h.fills ≡ m.fills → IsHeldBut m h left
  held_first m h now left shows ok idle same known lacking origins tracks cycle stamp room profile fills =
      let free : AreLetGo m.flow = ok.let_go (idle_names m now shows idle) in
      let is : h.flow ≡ record m.flow { waiters = map released m.flow.waiters } = same ∙ are_released m.flow free in
      record {
        origins = origins;
        flow = released_remarked m.flow h.flow is;
        tracks = ap (λ v. v.items) tracks;
        cycle = cycle;
        stamp = stamp;
        room = room;
        profile = profile;
        fills = fills;
        known = known;
        held = λ c lt clear.
            let core = idle_core_at m now shows ok idle c lt in
            none_ready_held core h.flow is (λ place. lacking c place clear);
        rest = λ c set k. let_go_marked h.flow (released_all m.flow h.flow is) c k;
      }

  -- where no context is left, all loads are held as they have to be
  pub held_in_all : (m h : Inside A) (left : ℕ) → IsHeldBut m h left → left ≡ 0 → (c : ℕ) → c < 8 → AreHeld h.flow c (get_or m.tracks.items c no_track)
  held_in_all m h left so_far over c lt = so_far.held c lt (ap (λ w. has w c) over ∙ has_none c)

  -- the machine as it was before
  pub record IsHeldFrom (now : Machine) (h : Inside A) (left : ℕ) : Type 0 where
    pub machine : Inside A
    pub shows : machine_of machine ≡ now
    pub ok : IsMachine machine
    pub so_far : IsHeldBut machine h left

  -- a context that is left
  pub context_next : (m h : Inside A) (now : Machine) (left n k : ℕ) (t : Track) → machine_of m ≡ now → IsMachine m → IsHeldBut m h left → has left n ≡ true → k ≡ n → t ≡ get_or h.tracks.items k t → At m now n t
  context_next m h now left n k t shows ok so_far set same read = at_context m now n k t shows ok (so_far.known n set) same (subst (λ (ts : List Track). t ≡ get_or ts k t) so_far.tracks read)

  pub held_nodes : (m h : Inside A) (now : Machine) (left n : ℕ) (t : Track) → At m now n t → IsHeldBut m h left → length (lane h.flow n).nodes ≡ t.renamed
  held_nodes m h now left n t at_n so_far = rw (remarked_lane m.flow h.flow n so_far.flow) (node_count at_n.core)

  -- its loads are asked of
  pub held_next : (m h w : Inside A) (now : Machine) (left next n : ℕ) (t : Track) → At m now n t → IsHeldBut m h left → ((p : ℕ) → has next p ≡ (has left p && not (p == n)))
      → IsRemarked h.flow w.flow → AreHeld w.flow n t → ((d j : ℕ) (b : Bool) → d ≢ n → IsMarked h.flow d j b → IsMarked w.flow d j b)
      → w.origins ≡ h.origins → w.tracks ≡ h.tracks → w.cycle ≡ h.cycle → w.stamp ≡ h.stamp → w.fetch_room ≡ h.fetch_room → w.profile ≡ h.profile → w.fills ≡ h.fills → IsHeldBut m w next
  held_next m h w now left next n t at_n so_far word marks here others origins tracks cycle stamp room profile fills = record {
    origins = origins ∙ so_far.origins;
    flow = remarked_twice m.flow h.flow w.flow so_far.flow marks;
    tracks = ap (λ v. v.items) tracks ∙ so_far.tracks;
    cycle = cycle ∙ so_far.cycle;
    stamp = stamp ∙ so_far.stamp;
    room = room ∙ so_far.room;
    profile = profile ∙ so_far.profile;
    fills = fills ∙ so_far.fills;
    known = λ d set. so_far.known d (left_before left next n word d set).0;
    held = λ d lt clear. elim (cases_eq d n) [
      | inl same ↦ rw (same, ← at_n.track) here
      | inr other ↦ held_kept h.flow w.flow d (get_or m.tracks.items d no_track) marks (λ j b. others d j b other) (so_far.held d lt (sym (other_bit left next n word d other) ∙ clear))
    ];
    rest = λ d set j. let before = left_before left next n word d set in others d j false before.1 (so_far.rest d before.0 j);
  }

  -- the machine once names were selected among what waits, marked in any way, and are held since, and nothing else
  pub selected_machine : (m w : Inside A) (now : Machine) (h f : Flow) {key : Waiting → ℕ} {width : ℕ} {rest : List Waiting} {names : List EntryId} → machine_of m ≡ now → IsMachine m → now.names ≡ []
      → IsRemarked m.flow h → IsSelected key width (queued h) rest names → IsRemarked m.flow f → AreLetGo f → w.flow ≡ record f { waiters = map (marked_among names true) f.waiters }
      → w.origins ≡ m.origins → w.tracks.items ≡ m.tracks.items → w.selected ≡ names → w.cycle ≡ m.cycle → w.stamp ≡ m.stamp → w.fetch_room ≡ m.fetch_room → w.profile ≡ m.profile → w.fills ≡ m.fills → IsMachine w
  selected_machine m w now h f {names = names} shows ok idle asked s marks free is origins tracks selected cycle stamp room profile fills =
      let all : IsRemarked m.flow w.flow = remarked_twice m.flow f w.flow marks (held_remarked names f w.flow is) in
      let waiting : waiting_flow w.selected w.flow ≡ w.flow = ap (λ ns. waiting_flow ns w.flow) selected ∙ held_waiting names f w.flow free is in
      record {
        cores = rw (origins, stamp, profile, waiting, tracks) (λ c lt. remarked_core (idle_core_at m now shows ok idle c lt) all);
        origins = rw origins ok.origins;
        tracks = rw tracks ok.tracks;
        lanes = ap (λ (g : Flow). length g.lanes) all.flow ∙ ok.lanes;
        contexts = eight-remarked m.flow w.flow all ok.contexts;
        let_go = λ none. none_held names f w.flow (sym selected ∙ none) free is;
        apart = rw selected (select_apart s);
        supplied = rw selected (λ i d lt.
            let n = get_or names i d in
            rw (remarked_lane m.flow w.flow n.context all, ← remarked_lane m.flow h n.context asked) (select_supplied h s i d lt));
        held = rw selected (held_marked names f w.flow (ap (λ (g : Flow). g.waiters) is));
        waits = subst (λ g. All (λ n. waits_in g n.context n.stamp ≡ true) w.selected) (sym waiting) (subst (All (λ n. waits_in w.flow n.context n.stamp ≡ true)) (sym selected) (λ i d lt.
            let n = get_or names i d in
            waits_remarked m.flow w.flow n.context n.stamp all ∙ sym (waits_remarked m.flow h n.context n.stamp asked) ∙ select_waited h s n.context n.stamp (name_selected names i d lt)));
        stamps = rw (stamp, room, cycle) ok.stamps;
        room = rw (profile, tracks) (record {
          registers = ap (λ (g : Flow). g.extra) all.flow ∙ ok.room.registers;
          waiters = ap (λ (g : Flow). g.places) all.flow ∙ ok.room.waiters;
          loads = ok.room.loads;
          stores = ok.room.stores;
        });
        fills = rw (fills, tracks) ok.fills;
      }

  -- and what it shows
  pub selected_shown : (m h : Inside A) (now : Machine) (left : ℕ) (names : List EntryId) → machine_of m ≡ now → IsHeldBut m h left
      → (let v : Machine = record {
        origin = arc_value h.origins.c0;
        view = record { profile = h.profile; cycle = h.cycle; stamp = h.stamp; contexts = map (λ (t : Track). t.context) h.tracks.items };
        names = names;
        fetch_room = h.fetch_room;
      } in v) ≡ record now { names = names }
  selected_shown m h now left names shows so_far = rw (so_far.origins, so_far.cycle, so_far.stamp, so_far.tracks, so_far.room, so_far.profile, ← shows) refl

  -- and what was chosen of the view, where loads were asked
  pub selected_choice : (m h : Inside A) (now : Machine) (left : ℕ) (key : QueueView → ℕ) (width : ℕ) (rest : List Waiting) (names : List EntryId) → machine_of m ≡ now → IsMachine m → now.names ≡ [] → IsHeldBut m h left → left ≡ 0
      → IsSelected (λ e. key (view_of e)) width (queued h.flow) rest names → IsChosen key width now.view names
  selected_choice m h now left key width rest names shows ok idle so_far over s =
      chosen_asked (is_chosen_by must_wait h.flow now.view (λ c. get_or m.tracks.items c no_track)
      (λ c lt. remarked_core (idle_core_at m now shows ok idle c lt) so_far.flow)
      (held_in_all m h left so_far over) (eight-remarked m.flow h.flow so_far.flow ok.contexts) (λ c lt. track_flight m now c shows ok lt) key width rest names s)

  -- and where they weren't
  pub supplied_choice : (m : Inside A) (now : Machine) (key : QueueView → ℕ) (width : ℕ) (rest : List Waiting) (names : List EntryId) → machine_of m ≡ now → IsMachine m → now.names ≡ []
      → IsSelected (λ e. key (view_of e)) width (queued m.flow) rest names → IsChosenOf (IsSuppliedPlace now.view) key width now.view names
  supplied_choice m now key width rest names shows ok idle s =
      let free = ok.let_go (idle_names m now shows idle) in
      chosen_unasked (is_chosen_by no_wait m.flow now.view (λ c. get_or m.tracks.items c no_track)
      (λ c lt. idle_core_at m now shows ok idle c lt)
      (λ c lt i below stage. let_go_marked m.flow free c (entry_at (get_or m.tracks.items c no_track).context i).stamp) ok.contexts (λ c lt. track_flight m now c shows ok lt) key width rest names s)

  -- what was selected and has not issued is given back
  pub given_machine : (m w : Inside A) (now : Machine) → machine_of m ≡ now → IsMachine m → 0 < length m.selected
      → w.flow ≡ record m.flow { waiters = filter (λ v. not v.held) (map (marked_among m.selected false) m.flow.waiters) }
      → w.origins ≡ m.origins → w.tracks ≡ m.tracks → w.selected ≡ [] → w.cycle ≡ m.cycle → w.stamp ≡ m.stamp → w.fetch_room ≡ m.fetch_room → w.profile ≡ m.profile → w.fills ≡ m.fills → IsMachine w
  given_machine m w now shows ok some is origins tracks_are selected cycle stamp room profile fills =
      let tracks : w.tracks.items ≡ m.tracks.items = ap (λ v. v.items) tracks_are in
      let marks : IsRemarked (unissued m.selected m.flow) w.flow = given_remarked m.selected m.flow w.flow is in
      let before : waiting_flow m.selected m.flow ≡ unissued m.selected m.flow = some_waiting m.selected m.flow some in
      let waiting : waiting_flow w.selected w.flow ≡ w.flow = ap (λ ns. waiting_flow ns w.flow) selected in
      record {
        cores = rw (origins, stamp, profile, waiting, tracks) (λ c lt. remarked_core (subst (λ f. IsCore (start (arc_value m.origins.c0) c) m.stamp m.profile.reorder_buffer f [] c (get_or m.tracks.items c no_track)) before (ok.cores c lt)) marks);
        origins = rw origins ok.origins;
        tracks = rw tracks ok.tracks;
        lanes = ap (λ (g : Flow). length g.lanes) is ∙ ok.lanes;
        contexts = eight-remarked (unissued m.selected m.flow) w.flow marks (All-filter (still_waits m.selected) (λ v. v.context < 8) m.flow.waiters ok.contexts);
        let_go = λ none. subst AreLetGo (sym is) (dropped_let_go (map (marked_among m.selected false) m.flow.waiters));
        apart = rw selected (λ i j d lt over. absurd (omega (arith, over)));
        supplied = rw selected (λ k d over. absurd (omega (arith, over)));
        held = rw selected (λ k d over. absurd (omega (arith, over)));
        waits = rw selected (λ k d over. absurd (omega (arith, over)));
        stamps = rw (stamp, room, cycle) ok.stamps;
        room = rw (profile, tracks) (record {
          registers = ap (λ (g : Flow). g.extra) is ∙ ok.room.registers;
          waiters = ap (λ (g : Flow). g.places) is ∙ ok.room.waiters;
          loads = ok.room.loads;
          stores = ok.room.stores;
        });
        fills = rw (fills, tracks) ok.fills;
      }

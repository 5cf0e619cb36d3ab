-- The machine at its start.
use Rattle.std.proofs.Common.{◌≡◌, ◌≢◌, ℕ, zero, suc, ◌+◌, ◌-◌, ◌<◌, ◌≤◌, ◌%◌, List, [], ◌∷◌, length, map, slice_index, get_or, Some, None, refl, arith, ap, sym, subst, ◌∙◌, ◌++◌, length-append, below_more}
use Rattle.std.proofs.Math.ListN.{length-set}
use Rattle.std.specs.Prelude.{set, ◌&&◌, if◌then◌else◌, count_by}
use Rattle.std.proofs.lemmas.List.{get_or-replicate, set-set, set-get_or, ext_get_or, get_or-set_same, get_or-set_other, get_or_append_left}
use Rattle.std.proofs.lemmas.Bool.{true≢false}
use Rattle.hart_step.specs.State.{State}
use Rattle.core_view.specs.declared.note.EntryId.{EntryId}
use Rattle.hart_step.specs.Next.{after}
use Rattle.paged_memory.specs.Cells.{rights_at}
use Rattle.join_law.specs.Eight.{place_of}
use Rattle.join_law.specs.declared.places.Eight.{Eight}
use Rattle.origin_set.specs.OriginValue.{OriginValue}
use Rattle.origin_set.specs.Start.{start, start_memory}
use Rattle.checkpoint.specs.MarkValue.{MarkValue, state_of}
use Rattle.checkpoint.specs.Aligned.{IsMarkOf, IsAligned}
use Rattle.core_view.specs.View.{Context, IsTextApart}
use Rattle.core_view.proofs.Stored.{apart_at_start}
use Rattle.core_view.proofs.Live.{first_live}
use Rattle.data_flow.specs.Flow.{Lane, Flow, no_lane, lane, with_lane, with_register, first_lane, first_flow}
use Rattle.core_profile.specs.declared.profile.Profile.{Profile}
use Rattle.core_view.specs.Flight.{is_open}
use Rattle.lawful_cycle.specs.Fetch.{front_places, is_fetched, is_running}
use Rattle.core_context.specs.FrontLists.{front_fill}
use Rattle.core_context.specs.Track.{Track, first_track}
use Rattle.core_back.specs.Machine.{no_track, no_context}
use Rattle.core_context.specs.Cores.{is_selected, IsCore, front_room}
use Rattle.core_back.specs.First.{IsFirstContext, IsTarget, IsFirstTrack, AreFirstTracks, AreSet, IsLaneOf, AreFirstLanes}

-- ---- the origins

-- eight values of eight marks, place by place
pub origins_at : {X : Type 0} (f : X → OriginValue) (os : Eight X) (marks : Eight MarkValue)
    → f os.c0 ≡ marks.c0.origin → f os.c1 ≡ marks.c1.origin → f os.c2 ≡ marks.c2.origin → f os.c3 ≡ marks.c3.origin
    → f os.c4 ≡ marks.c4.origin → f os.c5 ≡ marks.c5.origin → f os.c6 ≡ marks.c6.origin → f os.c7 ≡ marks.c7.origin
    → (c : ℕ) → c < 8 → f (place_of os c) ≡ (place_of marks c).origin
origins_at f os marks e0 e1 e2 e3 e4 e5 e6 e7 zero h = e0
origins_at f os marks e0 e1 e2 e3 e4 e5 e6 e7 (suc zero) h = e1
origins_at f os marks e0 e1 e2 e3 e4 e5 e6 e7 (suc (suc zero)) h = e2
origins_at f os marks e0 e1 e2 e3 e4 e5 e6 e7 (suc (suc (suc zero))) h = e3
origins_at f os marks e0 e1 e2 e3 e4 e5 e6 e7 (suc (suc (suc (suc zero)))) h = e4
origins_at f os marks e0 e1 e2 e3 e4 e5 e6 e7 (suc (suc (suc (suc (suc zero))))) h = e5
origins_at f os marks e0 e1 e2 e3 e4 e5 e6 e7 (suc (suc (suc (suc (suc (suc zero)))))) h = e6
origins_at f os marks e0 e1 e2 e3 e4 e5 e6 e7 (suc (suc (suc (suc (suc (suc (suc n))))))) h = e7

-- ---- the tracks

get_or-last : (ts : List Track) (t : Track) (n : ℕ) → length ts ≡ n → get_or (ts ++ t ∷ []) n no_track ≡ t
get_or-last [] t zero e = refl
get_or-last [] t (suc n) e = absurd (omega (arith, e))
get_or-last (u ∷ ts) t zero e = absurd (omega (arith, e))
get_or-last (u ∷ ts) t (suc n) e = get_or-last ts t n (omega (arith, e))

one_more_track : (p : Profile) (marks : Eight MarkValue) (targets : List ℕ) (n : ℕ) (ts : List Track) (t : Track)
    → AreFirstTracks p marks targets n ts → IsFirstTrack p (place_of marks n) (slice_index targets n) t
    → AreFirstTracks p marks targets (n + 1) (ts ++ t ∷ [])
one_more_track p marks targets n ts t all one = record {
  count = let e = all.count in length-append ts (t ∷ []) ∙ omega (arith, e);
  each = below_more (λ c. IsFirstTrack p (place_of marks c) (slice_index targets c) (get_or (ts ++ t ∷ []) c no_track)) n earlier last;
}
  where
    earlier : (c : ℕ) → c < n → IsFirstTrack p (place_of marks c) (slice_index targets c) (get_or (ts ++ t ∷ []) c no_track)
    earlier c lt = let e = all.count in subst (λ (u : Track). IsFirstTrack p (place_of marks c) (slice_index targets c) u) (sym (get_or_append_left ts (t ∷ []) no_track c (omega (arith, e)))) (all.each c lt)

    last : IsFirstTrack p (place_of marks n) (slice_index targets n) (get_or (ts ++ t ∷ []) n no_track)
    last = subst (λ (u : Track). IsFirstTrack p (place_of marks n) (slice_index targets n) u) (sym (get_or-last ts t n all.count)) one

-- one more track, that of the next mark
pub first_tracks_more : (p : Profile) (marks : Eight MarkValue) (targets : List ℕ) (n d : ℕ) (ts us : List Track) (mark : MarkValue) (t : Track)
    → AreFirstTracks p marks targets n ts → d ≡ n → mark ≡ place_of marks d → IsFirstTrack p mark (slice_index targets n) t → us ≡ ts ++ t ∷ []
    → AreFirstTracks p marks targets (n + 1) us
first_tracks_more p marks targets n d ts us mark t all same is one pushed =
    subst (λ (vs : List Track). AreFirstTracks p marks targets (n + 1) vs) (sym pushed)
    (one_more_track p marks targets n ts t all
    (subst (λ (m : MarkValue). IsFirstTrack p m (slice_index targets n) t) (is ∙ ap (λ (k : ℕ). place_of marks k) same) one))

-- ---- the registers

set_with : (old : Flow) (c : ℕ) (registers : List ℕ) (n value : ℕ) (f g : Flow) → n < 32 → AreSet old c registers n f → value ≡ slice_index registers n
    → (lane g c).registers ≡ set (lane f c).registers n value → g ≡ with_lane old c (record (lane old c) { registers = (lane g c).registers }) → AreSet old c registers (n + 1) g
set_with old c registers n value f g lt h is registers_are flow = record {
  flow = flow;
  count = ap length registers_are ∙ length-set (lane f c).registers n value ∙ h.count;
  each = below_more (λ r. slice_index (lane g c).registers r ≡ slice_index registers r) n earlier last;
}
  where
    earlier : (r : ℕ) → r < n → slice_index (lane g c).registers r ≡ slice_index registers r
    earlier r below = let ne : r ≢ n = omega arith in ap (λ (rs : List ℕ). get_or rs r 0) registers_are ∙ get_or-set_other (lane f c).registers n r value 0 ne ∙ h.each r below

    last : slice_index (lane g c).registers n ≡ slice_index registers n
    last = let e = h.count in ap (λ (rs : List ℕ). get_or rs n 0) registers_are ∙ get_or-set_same (lane f c).registers n value 0 (omega (arith, e)) ∙ is

-- one more register is set
pub set_more : (old : Flow) (c : ℕ) (registers : List ℕ) (n r value : ℕ) (f g : Flow)
    → c < length old.lanes → n < 32 → AreSet old c registers n f → value ≡ slice_index registers n → r ≡ n
    → g ≡ with_lane f c (with_register (lane f c) r value) → AreSet old c registers (n + 1) g
set_more old c registers n r value f g in_lanes lt h is same step =
    let old_lane : Lane = record (lane old c) { registers = (lane f c).registers } in
    let new_lane : Lane = record (lane old c) { registers = set (lane f c).registers n value } in
    let at_f : lane f c ≡ old_lane = ap (λ (e : Flow). lane e c) h.flow ∙ get_or-set_same old.lanes c old_lane no_lane in_lanes in
    let here : with_register (lane f c) n value ≡ new_lane = ap (λ (l : Lane). with_register l n value) at_f in
    let flow : g ≡ with_lane old c new_lane =
    step ∙ ap (λ (k : ℕ). with_lane f c (with_register (lane f c) k value)) same ∙ ap (λ (l : Lane). with_lane f c l) here ∙ ap (λ (e : Flow). with_lane e c new_lane) h.flow
    ∙ ap (λ (ls : List Lane). record old { lanes = ls }) (set-set old.lanes c old_lane new_lane) in
    let registers_are : (lane g c).registers ≡ set (lane f c).registers n value =
    ap (λ (e : Flow). (lane e c).registers) flow ∙ ap (λ (l : Lane). l.registers) (get_or-set_same old.lanes c new_lane no_lane in_lanes) in
    set_with old c registers n value f g lt h is registers_are (flow ∙ ap (λ (rs : List ℕ). with_lane old c (record (lane old c) { registers = rs })) (sym registers_are))

pub set_none : (old : Flow) (c : ℕ) (registers : List ℕ) → length (lane old c).registers ≡ 32 → slice_index (lane old c).registers 0 ≡ slice_index registers 0 → AreSet old c registers 1 old
set_none old c registers count zero_is = record {
  flow = sym (ap (λ (ls : List Lane). record old { lanes = ls }) (set-get_or old.lanes c no_lane));
  count = count;
  each = only;
}
  where
    only : (r : ℕ) → r < 1 → slice_index (lane old c).registers r ≡ slice_index registers r
    only zero lt = zero_is
    only (suc r) lt = absurd (omega arith)

-- all are set
pub set_all : (old : Flow) (c : ℕ) (registers : List ℕ) (f : Flow) → length registers ≡ 32 → AreSet old c registers 32 f → f ≡ with_lane old c (record (lane old c) { registers = registers })
set_all old c registers f count h =
    let e = h.count in
    h.flow ∙ ap (λ (rs : List ℕ). with_lane old c (record (lane old c) { registers = rs }))
    (ext_get_or 0 (lane f c).registers registers (e ∙ sym count) (λ r lt. h.each r (omega (arith, e))))

-- ---- the data flow

pub first_lanes_none : (p : Profile) (marks : Eight MarkValue) (extra room places : ℕ) → extra ≡ p.extra_registers → room ≡ p.reorder_buffer → places ≡ p.issue_queue → AreFirstLanes p marks 0 (first_flow extra room places)
first_lanes_none p marks extra room places extra-is room-is places-is = record {
  count = refl;
  waiters = refl;
  extra = extra-is;
  places = places-is;
  set = λ c lt. absurd (omega arith);
  others = λ c le lt. get_or-replicate 8 c (first_lane room) no_lane lt ∙ ap first_lane room-is;
}

one_more_lane : (p : Profile) (marks : Eight MarkValue) (n : ℕ) (f g : Flow) (s : State) → n < 8 → AreFirstLanes p marks n f → state_of (place_of marks n) ≡ Some s
    → g ≡ with_lane f n (record (lane f n) { registers = s.registers }) → AreFirstLanes p marks (n + 1) g
one_more_lane p marks n f g s lt h reached step = record {
  count = ap (λ (e : Flow). length e.lanes) step ∙ length-set f.lanes n new_lane ∙ h.count;
  waiters = ap (λ (e : Flow). e.waiters) step ∙ h.waiters;
  extra = ap (λ (e : Flow). e.extra) step ∙ h.extra;
  places = ap (λ (e : Flow). e.places) step ∙ h.places;
  set = below_more (λ c. IsLaneOf (place_of marks c) p.reorder_buffer (lane g c)) n earlier last;
  others = λ c le below. let ne : c ≢ n = omega arith in ap (λ (e : Flow). lane e c) step ∙ get_or-set_other f.lanes n c new_lane no_lane ne ∙ h.others c (omega arith) below;
}
  where
    new_lane : Lane
    new_lane = record (lane f n) { registers = s.registers }

    earlier : (c : ℕ) → c < n → IsLaneOf (place_of marks c) p.reorder_buffer (lane g c)
    earlier c below t is = let ne : c ≢ n = omega arith in ap (λ (e : Flow). lane e c) step ∙ get_or-set_other f.lanes n c new_lane no_lane ne ∙ h.set c below t is

    last : IsLaneOf (place_of marks n) p.reorder_buffer (lane g n)
    last t is =
        let e = h.count in
        let same : s ≡ t = cc in
        ap (λ (e : Flow). lane e n) step ∙ get_or-set_same f.lanes n new_lane no_lane (omega (arith, e))
        ∙ ap (λ (l : Lane). record l { registers = s.registers }) (h.others n (omega arith) lt) ∙ ap (λ (u : State). record { registers = u.registers; nodes = []; room = p.reorder_buffer }) same

-- one more context has the registers of its mark
pub first_lanes_more : (p : Profile) (marks : Eight MarkValue) (n d : ℕ) (f g : Flow) (mark : MarkValue) (s : State) (registers : List ℕ) → n < 8 → AreFirstLanes p marks n f
    → d ≡ n → mark ≡ place_of marks d → state_of mark ≡ Some s → registers ≡ s.registers → g ≡ with_lane f d (record (lane f d) { registers = registers })
    → AreFirstLanes p marks (n + 1) g
first_lanes_more p marks n d f g mark s registers lt h same is reached registers_are step =
    one_more_lane p marks n f g s lt h
    (ap (λ (k : ℕ). state_of (place_of marks k)) (sym same) ∙ ap (λ (m : MarkValue). state_of m) (sym is) ∙ reached)
    (step ∙ ap (λ (k : ℕ). with_lane f k (record (lane f k) { registers = registers })) same ∙ ap (λ (rs : List ℕ). with_lane f n (record (lane f n) { registers = rs })) registers_are)

-- the lane of the next context
pub next_lane : (p : Profile) (marks : Eight MarkValue) (n d : ℕ) (f : Flow) → n < 8 → AreFirstLanes p marks n f → d ≡ n → lane f d ≡ first_lane p.reorder_buffer
next_lane p marks n d f lt h same = ap (λ (k : ℕ). lane f k) same ∙ h.others n (omega arith) lt

-- ---- a context

-- no address may be both written and executed at the start
apart_of : (o : OriginValue) (c : ℕ) → IsTextApart (rights_at (start o c).memory)
apart_of o c = elim (place_of o.programs c) as (λ p. IsTextApart (rights_at (start_memory p))) [ None ↦ apart_at_start [] [] | Some p ↦ apart_at_start p.words p.bytes ]

-- a track and the data flow stand for a context that starts in a state
first_core_at : (o : OriginValue) (c count target reorder load_places store_places : ℕ) (s : State) (f : Flow) (names : List EntryId) → count ≤ target → after count (start o c) ≡ Some s → s.pc % 4 ≡ 0 → slice_index s.registers 0 ≡ 0
    → f.waiters ≡ [] → names ≡ [] → lane f c ≡ record { registers = s.registers; nodes = []; room = reorder } → IsCore (start o c) 0 reorder f names c (first_track count target s (reorder + front_room) load_places store_places)
first_core_at o c count target reorder load_places store_places s f names le reached aligned zero_register waiters empty is = record {
  live = first_live (start o c) 0 count target s le reached aligned zero_register (apart_of o c);
  registers = ap (λ (l : Lane). l.registers) is;
  nodes = ap (λ (l : Lane). l.nodes) is;
  room = ap (λ (l : Lane). l.room) is;
  within = omega arith;
  fits = omega arith;
  front = omega arith;
  capacity = refl;
  are_renamed = tt;
  are_fetched = tt;
  waiting = rw waiters refl;
  selected = λ k h. absurd (true≢false (sym h ∙ ap (λ ns. is_selected ns c k) empty));
}

-- the marks are of the origin of the first one
pub mark_of_first : (o : OriginValue) (marks : Eight MarkValue) (c : ℕ) → IsAligned marks → o ≡ marks.c0.origin → c < 8 → IsMarkOf o c (place_of marks c)
mark_of_first o marks c aligned same lt = let h = aligned c lt in record { of_origin = h.of_origin ∙ sym same; of_context = h.of_context }

-- and all origins are the first one
pub origin_of_first : (o p : OriginValue) (marks : Eight MarkValue) (c : ℕ) → IsAligned marks → o ≡ marks.c0.origin → c < 8 → p ≡ (place_of marks c).origin → p ≡ o
origin_of_first o p marks c aligned same lt is = is ∙ (mark_of_first o marks c aligned same lt).of_origin

-- so for the track of a mark
pub first_core : (p : Profile) (o : OriginValue) (c target : ℕ) (mark : MarkValue) (f : Flow) (names : List EntryId) (t : Track) → IsMarkOf o c mark → IsTarget mark target → f.waiters ≡ [] → names ≡ [] → IsLaneOf mark p.reorder_buffer (lane f c)
    → IsFirstTrack p mark target t → IsCore (start o c) 0 p.reorder_buffer f names c t
first_core p o c target mark f names t of bounds waiters empty lane_is first =
    let reached : after mark.count (start o c) ≡ Some t.context.state =
    ap (λ (q : OriginValue). after mark.count (start q c)) (sym of.of_origin) ∙ ap (λ (d : ℕ). after mark.count (start mark.origin d)) (sym of.of_context) ∙ first.reached in
    subst (λ (u : Track). IsCore (start o c) 0 p.reorder_buffer f names c u) (sym first.first)
    (first_core_at o c mark.count target p.reorder_buffer p.load_queue p.store_queue t.context.state f names bounds.above reached first.aligned first.zero_register waiters empty (lane_is t.context.state first.reached))

-- the context of a track
pub context_of_track : (ts : List Track) (c : ℕ) → get_or (map (λ t. t.context) ts) c no_context ≡ (get_or ts c no_track).context
context_of_track [] c = refl
context_of_track (t ∷ ts) zero = refl
context_of_track (t ∷ ts) (suc c) = context_of_track ts c

pub count_of_tracks : (ts : List Track) → length (map (λ t. t.context) ts) ≡ length ts
count_of_tracks [] = refl
count_of_tracks (t ∷ ts) = ap suc (count_of_tracks ts)

pub first_context_at : (p : Profile) (mark : MarkValue) (target : ℕ) (ts : List Track) (c : ℕ) → IsFirstTrack p mark target (get_or ts c no_track) → IsFirstContext mark target (get_or (map (λ t. t.context) ts) c no_context)
first_context_at p mark target ts c h = subst (λ (x : Context). IsFirstContext mark target x) (sym (context_of_track ts c)) (record { reached = h.reached; first = ap (λ (t : Track). t.context) h.first })

-- ---- how full front lists are

pub fill_empty : (t : Track) (fill : ℕ) → t.context.flight ≡ [] → fill ≡ length t.context.flight - t.renamed + (if is_running t.context.status && is_open t.context.flight then 0 else front_places) → fill ≡ front_fill t.context
fill_empty t fill empty is =
    let none : length t.context.flight ≡ 0 = ap (λ es. length es) empty in
    let counted : count_by is_fetched t.context.flight ≡ 0 = ap (λ es. count_by is_fetched es) empty in
    omega (arith, is, none, counted)

-- Entries of a context that are renamed one by one, and listed.
use Rattle.std.proofs.Common.{◌≡◌, ℕ, ◌+◌, ◌<◌, ◌≤◌, List, [], ◌∷◌, ◌++◌, length, refl, sym, ap, ◌∙◌, subst, arith, append-nil, append_assoc}
use Rattle.std.specs.Prelude.{set}
use Rattle.std.specs.Arc.{arc_value}
use Rattle.std.proofs.lemmas.List.{length_push, length-set, map-append, get_or-set_same, set-get_or, set-set}
use Rattle.origin_set.specs.Start.{start}
use Rattle.core_profile.specs.declared.profile.Profile.{Profile}
use Rattle.core_view.specs.declared.entry.Entry.{Entry}
use Rattle.core_view.specs.declared.note.EntryId.{EntryId}
use Rattle.core_view.specs.View.{Context, entry_at}
use Rattle.core_view.specs.Events.{rename_event}
use Rattle.data_flow.specs.Flow.{Flow}
use Rattle.core_context.specs.FrontLists.{front_fill}
use Rattle.core_context.specs.Left.{IsEventAt, IsLeft, KeepsSizes}
use Rattle.core_context.specs.Renamable.{IsRenamable}
use Rattle.core_context.specs.Track.{Track}
use Rattle.lawful_cycle.specs.Rename.{CanRename}
use Rattle.core_context.proofs.Laws.{fill_renamed}
use Rattle.core_back.specs.declared.machine.Machine.TheInside.{Inside}
use Rattle.core_back.specs.Machine.{Machine, context_at, with_context, with_contexts, no_context}
use Rattle.core_back.specs.Shown.{machine_of, IsMachine}
use Rattle.core_back.specs.Fetched.{ids_of, IsRenamed, AreRenamed, IsRenamedOf, AreRenamedOf, IsRunOf}
use Rattle.core_back.proofs.Machines.{At, at_context, core_after, fills_set, idle_core, machine_after_event, shown_after}
use Rattle.core_back.proofs.Renamable.{is_counted, can_rename, may_not_rename}

-- ---- one after another

left_twice : (f g h : Flow) (d : ℕ) → IsLeft f g d → IsLeft g h d → IsLeft f h d
left_twice f g h d one more = record { lane = more.lane ∙ one.lane; waits = more.waits ∙ one.waits }

sizes_twice : (f g h : Flow) → KeepsSizes f g → KeepsSizes g h → KeepsSizes f h
sizes_twice f g h one more = record {
  lanes = more.lanes ∙ one.lanes;
  extra = more.extra ∙ one.extra;
  places = more.places ∙ one.places;
  contexts = λ all. more.contexts (one.contexts all);
  let_go = λ free. more.let_go (one.let_go free);
}

event_none : (c : ℕ) (f : Flow) (t : Track) → IsEventAt c f f t t
event_none c f t = record {
  kept = λ start stamp reorder core. core;
  others = λ d ne. record { lane = refl; waits = refl };
  sizes = record { lanes = refl; extra = refl; places = refl; contexts = λ all. all; let_go = λ free. free };
  loads = refl;
  stores = refl;
}

event_twice : (c : ℕ) (f g h : Flow) (t u v : Track) → IsEventAt c f g t u → IsEventAt c g h u v → IsEventAt c f h t v
event_twice c f g h t u v one more = record {
  kept = λ start stamp reorder core. more.kept start stamp reorder (one.kept start stamp reorder core);
  others = λ d ne. left_twice f g h d (one.others d ne) (more.others d ne);
  sizes = sizes_twice f g h one.sizes more.sizes;
  loads = more.loads ∙ one.loads;
  stores = more.stores ∙ one.stores;
}

-- ---- a run

module _ (p : Profile) (cycle c limit : ℕ) where
  renamed_more : (stamp : ℕ) (f g h : Flow) (t u v : Track) (stamps : List ℕ) → AreRenamedOf p cycle c limit f t stamps g u → IsRenamedOf p cycle c limit stamp g u h v → AreRenamedOf p cycle c limit f t (stamps ++ stamp ∷ []) h v
  renamed_more stamp f g h t u v [] (flow, track) one = (h, v, rw (flow, track) at one, (refl, refl))
  renamed_more stamp f g h t u v (first ∷ stamps) (k, w, is, renamed) one = (k, w, is, renamed_more stamp k g h w u v stamps renamed one)

  pub run_none : (width : ℕ) (f : Flow) (t : Track) (ids : List EntryId) → length ids ≤ width → IsRunOf p cycle c limit width f t f t ids ids
  run_none width f t ids most = record { stamps = []; renamed = (refl, refl); listed = sym (append-nil ids); most = most }

  -- one more is listed last
  pub run_more : (width stamp : ℕ) (f g h : Flow) (t u v : Track) (before ids : List EntryId) → length ids < width → IsRenamedOf p cycle c limit stamp g u h v → IsRunOf p cycle c limit width f t g u before ids
      → IsRunOf p cycle c limit width f t h v before (ids ++ record { context = c; stamp = stamp } ∷ [])
  run_more width stamp f g h t u v before ids room one run =
      let id : EntryId = record { context = c; stamp = stamp } in
      record {
        stamps = run.stamps ++ stamp ∷ [];
        renamed = renamed_more stamp f g h t u v run.stamps run.renamed one;
        listed = ap (λ (is : List EntryId). is ++ id ∷ []) run.listed ∙ append_assoc before (ids_of c run.stamps) (id ∷ [])
            ∙ ap (λ (is : List EntryId). before ++ is) (sym (map-append (λ (k : ℕ). record { context = c; stamp = k }) run.stamps (stamp ∷ [])));
        most = let long = length_push ids id in omega (arith, room, long);
      }

-- ---- a run in the machine

-- what a run of a context makes of the machine
pub record IsRunAt {A : Type 0} (c limit : ℕ) (m : Inside A) (now : Machine) (t u : Track) (g : Flow) (stamps : List ℕ) : Type 0 where
  pub renamed : AreRenamed c limit now stamps (with_context now c u.context)
  pub event : IsEventAt c m.flow g t u
  pub fill : front_fill t.context ≡ front_fill u.context + length stamps
  pub long : length u.context.flight ≡ length t.context.flight
  pub target : u.context.target ≡ t.context.target

module _ {A : Type 0} (c limit : ℕ) (lt : c < 8) where
  -- the machine with another track and data flow
  abbrev machine_with : Inside A → Flow → Track → Inside A
  machine_with m f v = record m {
    flow = f;
    tracks = record m.tracks { items = set m.tracks.items c v; ok = (m.tracks.ok.0 ∙ sym (length-set m.tracks.items c v), m.tracks.ok.1) };
    fills = set m.fills c (front_fill v.context);
  }

  -- after an event of it
  module _ (m : Inside A) (now : Machine) (t v : Track) (f : Flow) (shows : machine_of m ≡ now) (ok : IsMachine m) (idle : now.names ≡ []) (h : At m now c t) (event : IsEventAt c m.flow f t v) where
    abbrev n : Inside A
    n = machine_with m f v

    after : machine_of n ≡ with_context now c v.context
    after = shown_after m now c c v v.context shows refl refl

    now_ok : IsMachine n
    now_ok = machine_after_event m n now c c t v f shows ok idle lt h event refl refl refl refl refl refl refl refl refl (fills_set m.fills m.tracks.items c c (front_fill v.context) v ok.fills lt ok.tracks refl refl)

    now_idle : (machine_of n).names ≡ []
    now_idle = ap (λ (q : Machine). q.names) after ∙ idle

    now_at : At n (machine_of n) c v
    now_at = at_context n (machine_of n) c c v refl now_ok lt refl (sym (get_or-set_same m.tracks.items c v v h.in_tracks))

    -- what could not be renamed of its track can't be in the machine
    pub run_cannot : ((stamp : ℕ) → stamp ≤ limit → ¬ (IsRenamable f v m.profile m.cycle stamp)) → (e : Entry) → e.stamp ≤ limit → ¬ (CanRename (with_context now c v.context).view c e)
    run_cannot cannot = subst (λ (q : Machine). (e : Entry) → e.stamp ≤ limit → ¬ (CanRename q.view c e)) after (may_not_rename n (machine_of n) c v (is_counted n (machine_of n) c v refl now_ok now_idle lt now_at) limit cannot)

    is_one : (stamp : ℕ) → IsRenamedOf m.profile m.cycle c limit stamp m.flow t f v → IsRenamed now (machine_of n) c stamp
    is_one stamp one = record {
      place = t.renamed;
      within = subst (λ (x : Context). t.renamed < length x.flight) h.context one.can.some;
      stamp_is = ap (λ (x : Context). (entry_at x t.renamed).stamp) (sym h.context) ∙ one.can.stamp_is;
      fetched = ap (λ (x : Context). (entry_at x t.renamed).stage) (sym h.context) ∙ one.fetched;
      can = can_rename m now c t stamp lt (is_counted m now c t shows ok idle lt h) one.can;
      after = shown_after m now c c v (rename_event now.view.cycle (context_at now c) t.renamed) shows refl
          (ap (λ (w : Track). w.context) one.after ∙ ap (λ (x : Context). rename_event m.cycle x t.renamed) h.context ∙ ap (λ (q : Machine). rename_event q.view.cycle (context_at now c) t.renamed) shows);
    }

    -- one more comes first
    run_past : (stamp : ℕ) → IsRenamedOf m.profile m.cycle c limit stamp m.flow t f v → (u : Track) (g : Flow) (stamps : List ℕ) → IsRunAt c limit n (machine_of n) v u g stamps → IsRunAt c limit m now t u g (stamp ∷ stamps)
    run_past stamp one u g stamps rest =
        let same : with_context (machine_of n) c u.context ≡ with_context now c u.context = ap (λ (q : Machine). with_context q c u.context) after ∙ ap (with_contexts now) (set-set now.view.contexts c v.context u.context) in
        let fill_one : front_fill t.context ≡ front_fill v.context + 1 =
        fill_renamed (start (arc_value m.origins.c0) c) m.stamp m.profile.reorder_buffer m.flow f c t v (idle_core m now c t shows idle h) (core_after m now c t v f shows idle h event) m.cycle one.can.some one.after in
        record {
          renamed = (machine_of n, one.within, is_one stamp one, subst (λ (q : Machine). AreRenamed c limit (machine_of n) stamps q) same rest.renamed);
          event = event_twice c m.flow f g t v u event rest.event;
          fill = omega (arith, fill_one, rest.fill);
          long = rest.long ∙ ap (λ (w : Track). length w.context.flight) one.after ∙ length-set t.context.flight t.renamed _;
          target = rest.target ∙ ap (λ (w : Track). w.context.target) one.after;
        }

  pub run_at : (stamps : List ℕ) (m : Inside A) (now : Machine) (t u : Track) (g : Flow) → machine_of m ≡ now → IsMachine m → now.names ≡ [] → At m now c t → AreRenamedOf m.profile m.cycle c limit m.flow t stamps g u → IsRunAt c limit m now t u g stamps
  run_at [] m now t u g shows ok idle h (flow, track) = rw (flow, track) (record {
    renamed = ap (with_context now c) h.context ∙ ap (with_contexts now) (set-get_or now.view.contexts c no_context);
    event = event_none c m.flow t;
    fill = omega arith;
    long = refl;
    target = refl;
  })
  run_at (stamp ∷ stamps) m now t u g shows ok idle h (f, v, one, steps) =
      run_past m now t v f shows ok idle h one.event stamp one u g stamps
      (run_at stamps (machine_with m f v) (machine_of (machine_with m f v)) v u g refl (now_ok m now t v f shows ok idle h one.event) (now_idle m now t v f shows ok idle h one.event) (now_at m now t v f shows ok idle h one.event) steps)

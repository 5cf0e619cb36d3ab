-- How full a front list is, event by event.
use Rattle.std.proofs.Common.{◌≡◌, ℕ, ◌+◌, ◌-◌, ◌<◌, false, [], length, drop, refl, sym, ap, ◌∙◌, arith}
use Rattle.std.specs.Prelude.{set, ◌&&◌, if◌then◌else◌}
use Rattle.std.proofs.lemmas.List.{length-set, length-drop}
use Rattle.hart_step.specs.State.{State}
use Rattle.core_view.specs.declared.entry.Entry.{Entry}
use Rattle.core_view.specs.declared.entry.Execution.{Execution}
use Rattle.core_view.specs.declared.entry.Stage.TheVariants.{Issued}
use Rattle.core_view.specs.declared.outcome.Outcome.TheVariants.{Goes}
use Rattle.core_view.specs.declared.status.Status.TheVariants.{Parked, Running}
use Rattle.core_view.specs.Events.{completed_entry, renamed_stage, with_stage}
use Rattle.core_view.specs.Flight.{is_open, pc_past}
use Rattle.core_view.specs.View.{Context, entry_at}
use Rattle.core_view.proofs.Live.{flight_running}
use Rattle.lawful_cycle.specs.Fetch.{front_places, is_running}
use Rattle.data_flow.specs.Flow.{Flow}
use Rattle.entry_stages.specs.Heads.{IsGoing, first_done, step_on}
use Rattle.core_context.specs.Track.{Track, finished, is_last, issued, renamed_one, retired}
use Rattle.core_context.specs.Cores.{IsCore}
use Rattle.core_context.specs.Ends.{IsEnd}
use Rattle.core_context.specs.FrontLists.{front_fill}
use Rattle.core_context.proofs.Ends.{end_retired, open_set}
use Rattle.core_context.proofs.RenamedAreOldest.{fetched_count}
use Rattle.core_context.proofs.Retires.{is_first_done, oldest_goes, oldest_renamed}

-- what is added where nothing can be fetched
abbrev bar : Context → ℕ
bar x = if is_running x.status && is_open x.flight then 0 else front_places

module _ (start : State) (stamp reorder : ℕ) (f : Flow) (c : ℕ) (t : Track) (core : IsCore start stamp reorder f [] c t) where
  -- by how many entries are renamed
  pub fill_is : front_fill t.context ≡ length t.context.flight - t.renamed + bar t.context
  fill_is = ap (λ n. n + bar t.context) (fetched_count t.renamed t.context.flight core.are_renamed core.are_fetched)

-- an event that leaves the status and the end of the flight as they were
module _ (start : State) (stamp reorder : ℕ) (f g : Flow) (c : ℕ) (t u : Track) (before : IsCore start stamp reorder f [] c t) (after : IsCore start stamp reorder g [] c u) where
  fills_by : u.context.status ≡ t.context.status → is_open u.context.flight ≡ is_open t.context.flight → front_fill u.context + (length t.context.flight - t.renamed) ≡ front_fill t.context + (length u.context.flight - u.renamed)
  fills_by status ends =
      let bars : bar u.context ≡ bar t.context = rw (status, ends) refl in
      omega (arith, bars, fill_is start stamp reorder f c t before, fill_is start stamp reorder g c u after)

  -- an entry comes further, and stays fetched or renamed
  at_stage : (i : ℕ) (e : Entry) → u.context.status ≡ t.context.status → u.context.flight ≡ set t.context.flight i e → e.operation ≡ (entry_at t.context i).operation → u.renamed ≡ t.renamed → front_fill u.context ≡ front_fill t.context
  at_stage i e status is operation renamed =
      let fills = fills_by status (ap is_open is ∙ open_set t.context.flight i e operation) in
      let long : length u.context.flight ≡ length t.context.flight = ap (λ es. length es) is ∙ length-set t.context.flight i e in
      omega (arith, fills, long, renamed)

  pub fill_issued : (i : ℕ) (x : Execution) → u ≡ issued t i x → front_fill u.context ≡ front_fill t.context
  fill_issued i x is = at_stage i (with_stage (entry_at t.context i) (Issued x)) (ap (λ (v : Track). v.context.status) is) (ap (λ (v : Track). v.context.flight) is) refl (ap (λ (v : Track). v.renamed) is)

  pub fill_finished : (i : ℕ) (x : Execution) → u ≡ finished t i x → front_fill u.context ≡ front_fill t.context
  fill_finished i x is = at_stage i (completed_entry (entry_at t.context i) x) (ap (λ (v : Track). v.context.status) is) (ap (λ (v : Track). v.context.flight) is) refl (ap (λ (v : Track). v.renamed) is)

  -- the oldest fetched entry is renamed
  pub fill_renamed : (cycle : ℕ) → t.renamed < length t.context.flight → u ≡ renamed_one cycle t → front_fill t.context ≡ front_fill u.context + 1
  fill_renamed cycle some is =
      let e = entry_at t.context t.renamed in
      let flight : u.context.flight ≡ set t.context.flight t.renamed (with_stage e (renamed_stage cycle e.operation)) = ap (λ (v : Track). v.context.flight) is in
      let fills = fills_by (ap (λ (v : Track). v.context.status) is) (ap is_open flight ∙ open_set t.context.flight t.renamed (with_stage e (renamed_stage cycle e.operation)) refl) in
      let long : length u.context.flight ≡ length t.context.flight = ap (λ es. length es) flight ∙ length-set t.context.flight t.renamed (with_stage e (renamed_stage cycle e.operation)) in
      let count : u.renamed ≡ t.renamed + 1 = ap (λ (v : Track). v.renamed) is in
      omega (arith, fills, long, count, some)

  -- the oldest entry retires, and the context runs on
  pub fill_retired : is_last t.context ≡ false → IsGoing (first_done t.context.flight) → u ≡ retired t (step_on (first_done t.context.flight)) → front_fill u.context ≡ front_fill t.context
  fill_retired goes going is =
      let step = step_on (first_done t.context.flight) in
      let d = is_first_done t.context.flight (Goes step) going in
      let first = oldest_renamed start stamp reorder f c t d.execution step before d.some d.stage in
      let runs : t.context.status ≡ Running = flight_running start stamp t.context d.some before.live in
      let status : u.context.status ≡ Running = ap (λ (v : Track). v.context.status) is ∙ ap (λ b. if b then Parked else Running) goes in
      let flight : u.context.flight ≡ drop 1 t.context.flight = ap (λ (v : Track). v.context.flight) is ∙ ap (λ b. if b then [] else drop 1 t.context.flight) goes in
      let count : u.renamed ≡ t.renamed - 1 = ap (λ (v : Track). v.renamed) is ∙ ap (λ b. if b then 0 else t.renamed - 1) goes in
      let end : IsEnd t.context.state.pc (pc_past t.context.state.pc t.context.flight) (is_open t.context.flight) t.context.flight = record { pc_is = refl; open_is = refl } in
      let stop = oldest_goes start stamp reorder f c t d.execution step before d.some d.stage d.outcome in
      let ends = end_retired t.context.state.pc (entry_at t.context 0).followed (pc_past t.context.state.pc t.context.flight) (is_open t.context.flight) t.context.flight (drop 1 t.context.flight) end d.some refl refl stop in
      let fills = fills_by (status ∙ sym runs) (ap is_open flight ∙ sym ends.open_is) in
      let long : length u.context.flight ≡ length t.context.flight - 1 = ap (λ es. length es) flight ∙ length-drop 1 t.context.flight in
      omega (arith, fills, long, count, first, before.within)

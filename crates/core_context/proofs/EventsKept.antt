-- What each event keeps of its context, of the others, and of the sizes.
use Rattle.std.proofs.Common.{◌≡◌, ℕ, ◌+◌, ◌-◌, ◌<◌, Bool, true, false, [], length, take, drop, Some, refl, sym, ap, subst, ◌∙◌, arith}
use Rattle.std.specs.Prelude.{◌==◌, if◌then◌else◌}
use Rattle.std.proofs.lemmas.List.{length-drop}
use Rattle.std.specs.List.{list_any}
use Rattle.hart_step.specs.declared.stop.Stop.{Stop}
use Rattle.core_view.specs.declared.outcome.Step.{Step}
use Rattle.core_view.specs.declared.outcome.Outcome.TheVariants.{Goes, Stops}
use Rattle.core_view.specs.declared.entry.Execution.{Execution}
use Rattle.core_view.specs.declared.entry.Stage.TheVariants.{Issued}
use Rattle.core_view.specs.View.{entry_at}
use Rattle.core_view.specs.declared.status.Status.{Status}
use Rattle.core_view.specs.declared.status.Status.TheVariants.{Running, Parked}
use Rattle.core_view.specs.Outcomes.{moved}
use Rattle.core_view.specs.Flight.{is_open, pc_past, is_open_guess}
use Rattle.core_view.specs.Operations.{operation_at}
use Rattle.core_view.specs.Events.{MayFollow}
use Rattle.data_flow.specs.Flow.{Flow, lane, with_lane, without_oldest, cut_flow}
use Rattle.core_context.specs.Track.{Track, is_last, retired, stepped, parked, stopped, completed, renamed_one, fetched_one}
use Rattle.core_context.specs.Steps.{retired_flow, completed_flow, renamed_flow}
use Rattle.entry_stages.specs.Heads.{first_done}
use Rattle.core_context.specs.Cores.{front_room}
use Rattle.core_context.specs.Left.{IsEventAt, KeepsCores}
use Rattle.core_context.proofs.OtherContexts.{cut_flow_left, retired_flow_left, completed_flow_left}
use Rattle.core_context.proofs.FlowSizes.{sizes_same, sizes-cut_flow, sizes-retired_flow, sizes-completed_flow}
use Rattle.core_context.proofs.Retires.{is_first_done, retire_core, stop_core}
use Rattle.core_context.proofs.Completes.{complete_core}
use Rattle.core_context.proofs.Fetches.{fetch_core}
use Rattle.core_context.proofs.Renames.{rename_core, renamed_flow_left, sizes-renamed_flow}

pub retire_kept : (f : Flow) (c : ℕ) (t : Track) (step : Step) → c < length f.lanes → first_done t.context.flight ≡ Some (Goes step) → IsEventAt c f (retired_flow f c (is_last t.context)) t (retired t step)
retire_kept f c t step lt done =
    let d = is_first_done t.context.flight (Goes step) done in
    record {
      kept = λ start stamp reorder core. retire_core start stamp reorder f c t d.execution step lt core d.some d.stage d.outcome;
      others = λ e other. retired_flow_left f c e (is_last t.context) other;
      sizes = sizes-retired_flow f c (is_last t.context);
      loads = refl;
      stores = refl;
    }

pub stop_kept : (f : Flow) (c : ℕ) (t : Track) (why : Stop) → c < length f.lanes → first_done t.context.flight ≡ Some (Stops why) → IsEventAt c f (cut_flow f c 0) t (stopped t why)
stop_kept f c t why lt done =
    let d = is_first_done t.context.flight (Stops why) done in
    record {
      kept = λ start stamp reorder core. stop_core start stamp reorder f c t d.execution why lt core d.some d.stage d.outcome;
      others = λ e other. cut_flow_left f c e 0 other;
      sizes = sizes-cut_flow f c 0;
      loads = refl;
      stores = refl;
    }

pub complete_kept : (f : Flow) (c : ℕ) (t : Track) (i : ℕ) (x : Execution) → c < length f.lanes → i < length t.context.flight → (entry_at t.context i).stage ≡ Issued x → IsEventAt c f (completed_flow f c i x t) t (completed t i x)
complete_kept f c t i x lt within stage = record {
  kept = λ start stamp reorder core. complete_core start stamp reorder f c t i x lt core within stage;
  others = λ e other. completed_flow_left f c e i x t other;
  sizes = sizes-completed_flow f c i x t;
  loads = refl;
  stores = refl;
}

pub rename_kept : (f : Flow) (c : ℕ) (t : Track) (cycle reorder : ℕ) → c < 8 → c < length f.lanes → t.renamed < length t.context.flight → t.renamed < reorder → (lane f c).room ≡ reorder
    → IsEventAt c f (renamed_flow f c (entry_at t.context t.renamed) (list_any is_open_guess (take t.renamed t.context.flight))) t (renamed_one cycle t)
rename_kept f c t cycle reorder below lt some fits room =
    let e = entry_at t.context t.renamed in
    let speculative = list_any is_open_guess (take t.renamed t.context.flight) in
    record {
      kept = λ start stamp size core. rename_core core cycle lt some (omega (arith, fits, room, core.room));
      others = λ d other. renamed_flow_left f c d e speculative other;
      sizes = sizes-renamed_flow f c e speculative below;
      loads = refl;
      stores = refl;
    }

-- where nothing happens
pub nothing_kept : (f : Flow) (c : ℕ) (t : Track) → IsEventAt c f f t t
nothing_kept f c t = record {
  kept = λ start stamp reorder core. core;
  others = λ d other. record { lane = refl; waits = refl };
  sizes = sizes_same f;
  loads = refl;
  stores = refl;
}

-- ---- by what a retirement does, at the target or before it

module _ (f g : Flow) (c : ℕ) (t u : Track) (step : Step) (lt : c < length f.lanes) (done : first_done t.context.flight ≡ Some (Goes step)) (committed : g ≡ with_lane f c (without_oldest (lane f c))) (track : u ≡ stepped t step) where
  last_is : (u.context.count == u.context.target) ≡ is_last t.context
  last_is = ap (λ (v : Track). v.context.count == v.context.target) track

  -- retired, by whether it was the last
  abbrev retired_if : Bool → Track
  retired_if last = record t {
    context = record {
      status = if last then Parked else Running;
      count = t.context.count + 1;
      target = t.context.target;
      state = moved t.context.state (entry_at t.context 0).operation step;
      flight = if last then [] else drop 1 t.context.flight;
    };
    renamed = if last then 0 else t.renamed - 1;
  }

  by_last : (last : Bool) → is_last t.context ≡ last → IsEventAt c f (retired_flow f c last) t (retired t step)
  by_last last is = subst (λ b. IsEventAt c f (retired_flow f c b) t (retired t step)) is (retire_kept f c t step lt done)

  pub parked_is : (v : Track) → v ≡ parked u → (u.context.count == u.context.target) ≡ true → v ≡ retired t step
  parked_is v is at = is ∙ ap parked track ∙ ap retired_if (sym at ∙ last_is)

  pub parked_kept : (v : Track) (h : Flow) → v ≡ parked u → h ≡ cut_flow g c 0 → (u.context.count == u.context.target) ≡ true → IsEventAt c f h t v
  parked_kept v h is cut at = rw (cut, committed, parked_is v is at) (by_last true (sym last_is ∙ at))

  pub running_is : t.context.status ≡ Running → (u.context.count == u.context.target) ≡ false → u ≡ retired t step
  running_is running before = track ∙ ap (λ (s : Status). record (retired_if false) { context = record (retired_if false).context { status = s } }) running ∙ ap retired_if (sym before ∙ last_is)

  pub running_kept : t.context.status ≡ Running → (u.context.count == u.context.target) ≡ false → IsEventAt c f g t u
  running_kept running before = rw (committed, running_is running before) (by_last false (sym last_is ∙ before))

  -- how many entries are left
  pub one_fewer : length u.context.flight + 1 ≡ length t.context.flight
  one_fewer =
      let some = (is_first_done t.context.flight (Goes step) done).some in
      omega (arith, some, ap (λ (v : Track). length v.context.flight) track, length-drop 1 t.context.flight)

-- ---- a fetch

pub fetch_kept : (stamp c : ℕ) (t : Track) (cycle followed : ℕ) → t.context.status ≡ Running → is_open t.context.flight ≡ true → length t.context.flight < t.renamed + front_room
    → MayFollow (operation_at t.context.state.memory (pc_past t.context.state.pc t.context.flight)) (pc_past t.context.state.pc t.context.flight) followed → KeepsCores stamp c t (fetched_one stamp cycle followed t)
fetch_kept stamp c t cycle followed running open_ room may = record { kept = λ start reorder f core. fetch_core core cycle followed running open_ room may; loads = refl; stores = refl }

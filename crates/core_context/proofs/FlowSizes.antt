-- An event keeps the numbers of contexts, registers and places.
use Rattle.std.proofs.Common.{◌≡◌, ℕ, ◌<◌, Bool, true, false, take, Option, Some, None, refl, ◌∙◌}
use Rattle.std.specs.Prelude.{not, if◌then◌else◌}
use Rattle.std.proofs.lemmas.List.Elements.{All-filter}
use Rattle.core_view.specs.declared.entry.Execution.{Execution}
use Rattle.core_view.specs.Flight.{result_in}
use Rattle.data_flow.specs.Flow.{Lane, Flow, lane, with_lane, with_result, without_oldest, is_waiter_from, cut_flow}
use Rattle.core_view.specs.Operations.{is_guessed}
use Rattle.core_view.specs.View.{entry_at}
use Rattle.core_context.specs.Track.{Track, cut_stamp, completed}
use Rattle.core_context.specs.Queued.{up_to_guess}
use Rattle.core_context.specs.Steps.{cut_if, retired_flow, finished_flow, cut_by, settled_flow, completed_flow}
use Rattle.core_context.proofs.Settles.{contexts-settled, let_go-settled}
use Rattle.core_context.proofs.OtherContexts.{count-with_lane, count-cut_flow}
use Rattle.core_context.specs.Left.{KeepsSizes}

pub sizes_same : (f : Flow) → KeepsSizes f f
sizes_same f = record { lanes = refl; extra = refl; places = refl; contexts = λ all. all; let_go = λ all. all }

sizes_twice : (f g h : Flow) → KeepsSizes f g → KeepsSizes g h → KeepsSizes f h
sizes_twice f g h a b = record { lanes = b.lanes ∙ a.lanes; extra = b.extra ∙ a.extra; places = b.places ∙ a.places; contexts = λ all. b.contexts (a.contexts all); let_go = λ all. b.let_go (a.let_go all) }

pub sizes-with_lane : (f : Flow) (c : ℕ) (l : Lane) → KeepsSizes f (with_lane f c l)
sizes-with_lane f c l = record { lanes = count-with_lane f c l; extra = refl; places = refl; contexts = λ all. all; let_go = λ all. all }

pub sizes-cut_flow : (f : Flow) (c k : ℕ) → KeepsSizes f (cut_flow f c k)
sizes-cut_flow f c k = record { lanes = count-cut_flow f c k; extra = refl; places = refl; contexts = All-filter (λ w. not (is_waiter_from c k w)) (λ w. w.context < 8) f.waiters; let_go = All-filter (λ w. not (is_waiter_from c k w)) (λ w. w.held ≡ false) f.waiters }

pub sizes-retired_flow : (f : Flow) (c : ℕ) (last : Bool) → KeepsSizes f (retired_flow f c last)
sizes-retired_flow f c true = let g : Flow = with_lane f c (without_oldest (lane f c)) in sizes_twice f g (cut_flow g c 0) (sizes-with_lane f c (without_oldest (lane f c))) (sizes-cut_flow g c 0)
sizes-retired_flow f c false = sizes-with_lane f c (without_oldest (lane f c))

pub sizes-finished_flow : (f : Flow) (c i : ℕ) (value : Option ℕ) → KeepsSizes f (finished_flow f c i value)
sizes-finished_flow f c i None = sizes_same f
sizes-finished_flow f c i (Some value) = sizes-with_lane f c (with_result (lane f c) i value)

sizes-cut_if : (f : Flow) (c : ℕ) (stamp : Option ℕ) → KeepsSizes f (cut_if f c stamp)
sizes-cut_if f c None = sizes_same f
sizes-cut_if f c (Some k) = sizes-cut_flow f c k

pub sizes-completed_flow : (f : Flow) (c i : ℕ) (x : Execution) (t : Track) → KeepsSizes f (completed_flow f c i x t)
sizes-completed_flow f c i x t = by_guess (is_guessed (entry_at t.context i).operation)
  where
    g : Flow
    g = cut_by f c i x t.context

    cut : KeepsSizes f g
    cut = sizes_twice f (finished_flow f c i (result_in x.outcome)) g (sizes-finished_flow f c i (result_in x.outcome)) (sizes-cut_if (finished_flow f c i (result_in x.outcome)) c (cut_stamp t.context i x))

    by_guess : (b : Bool) → KeepsSizes f (if b then settled_flow g c (completed t i x) else g)
    by_guess true = sizes_twice f g (settled_flow g c (completed t i x)) cut (record { lanes = refl; extra = refl; places = refl; contexts = contexts-settled g c (up_to_guess (take (completed t i x).renamed (completed t i x).context.flight)); let_go = let_go-settled g c (up_to_guess (take (completed t i x).renamed (completed t i x).context.flight)) })
    by_guess false = cut

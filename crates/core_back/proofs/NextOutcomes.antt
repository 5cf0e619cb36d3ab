-- The outcome of the oldest entry, once it is done, is what plain RV64I does next.
use Rattle.std.proofs.Common.{◌≡◌, ℕ, List, [], ◌∷◌, get_or, Option, Some, None, sym}
use Rattle.std.specs.Prelude.{IfSome}
use Rattle.hart_step.specs.State.{State}
use Rattle.hart_step.specs.Next.{next}
use Rattle.core_view.specs.declared.outcome.Outcome.{Outcome}
use Rattle.core_view.specs.declared.outcome.Outcome.TheVariants.{Goes, Stops}
use Rattle.core_view.specs.declared.entry.Entry.{Entry}
use Rattle.core_view.specs.Outcomes.{image_of, moved_by}
use Rattle.core_view.specs.Flight.{seen_of, IsSound}
use Rattle.core_view.specs.View.{Context, no_entry, IsLive}
use Rattle.core_view.proofs.Retired.{sound_retire, sound_stop}
use Rattle.core_context.specs.Heads.{first_done}
use Rattle.core_context.proofs.Laws.{is_first_done}
use Rattle.core_back.specs.Machine.{IsNextOf}

head_next : (start : State) (stamp : ℕ) (x : Context) (o : Outcome) → IsLive start stamp x → first_done x.flight ≡ Some o → IsNextOf x o
head_next start stamp x o live done = by_flight x.flight live.flight.sound done
  where
    by_outcome : (e : Entry) (es : List Entry) (o : Outcome) → IsSound (image_of x.state) (seen_of x.state) x.state.pc (e ∷ es) → first_done (e ∷ es) ≡ Some o → next x.state ≡ moved_by x.state e.operation o
    by_outcome e es (Goes step) sound done = let d = is_first_done (e ∷ es) (Goes step) done in (sound_retire x.state e d.execution step es live.zero_register live.apart d.stage d.outcome sound).leads
    by_outcome e es (Stops why) sound done = let d = is_first_done (e ∷ es) (Stops why) done in sound_stop x.state e d.execution why es live.zero_register d.stage d.outcome sound

    by_flight : (es : List Entry) → IsSound (image_of x.state) (seen_of x.state) x.state.pc es → first_done es ≡ Some o → next x.state ≡ moved_by x.state (get_or es 0 no_entry).operation o
    by_flight [] sound done = absurd cc
    by_flight (e ∷ es) sound done = by_outcome e es o sound done

pub some_next : (start : State) (stamp : ℕ) (x : Context) (r : Option Outcome) → IsLive start stamp x → r ≡ first_done x.flight → IfSome r (IsNextOf x)
some_next start stamp x None live is = tt
some_next start stamp x (Some o) live is = head_next start stamp x o live (sym is)

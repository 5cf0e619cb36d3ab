-- A flight by hand in which the distance falls cycle by cycle. The front delay is 2 and the greatest lag 4. An instruction is
-- fetched in cycle 0, renamed in cycle 2 and issued in cycle 3 with a lag of 3, so it is due in cycle 6, and retires in cycle 7.
use Rattle.std.proofs.Common.{◌≡◌, ℕ, [], ◌∷◌, refl, arith}
use Rattle.hart_step.specs.State.{State}
use Rattle.core_profile.specs.declared.profile.Profile.{Profile}
use Rattle.core_view.specs.declared.entry.Stage.{Stage}
use Rattle.core_view.specs.declared.entry.Stage.TheVariants.{Fetched, Queued, Issued, Done}
use Rattle.core_view.specs.View.{View}
use Rattle.lawful_cycle.specs.Distance.{distance}
use Rattle.lawful_cycle.proofs.OneContext.{view_of}
use Rattle.lawful_cycle.proofs.Examples.{context, entry, went_on}

module _ (s : State) (p : Profile) where
  -- before this cycle context 0 runs with nothing in flight
  abbrev idle_before : ℕ → View
  idle_before cycle = view_of p cycle 0 (context s 0 [])

  -- before this cycle it has the instruction alone in flight
  abbrev flight_before : ℕ → Stage → View
  flight_before cycle stage = view_of p cycle 1 (context s 0 (entry 0 stage ∷ []))

  before_0 : p.front_delay ≡ 2 → distance 4 (idle_before 0) ≡ 9
  before_0 delay = omega (arith, delay)

  before_1 : p.front_delay ≡ 2 → distance 4 (flight_before 1 Fetched) ≡ 8
  before_1 delay = omega (arith, delay)

  before_2 : p.front_delay ≡ 2 → distance 4 (flight_before 2 Fetched) ≡ 7
  before_2 delay = omega (arith, delay)

  before_3 : distance 4 (flight_before 3 Queued) ≡ 6
  before_3 = refl

  before_4 : distance 4 (flight_before 4 (Issued (went_on 0 6))) ≡ 4
  before_4 = refl

  before_5 : distance 4 (flight_before 5 (Issued (went_on 0 6))) ≡ 3
  before_5 = refl

  before_6 : distance 4 (flight_before 6 (Issued (went_on 0 6))) ≡ 2
  before_6 = refl

  before_7 : distance 4 (flight_before 7 (Done (went_on 0 6))) ≡ 1
  before_7 = refl

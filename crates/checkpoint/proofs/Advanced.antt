-- How a mark goes on.
use Rattle.std.proofs.Common.{◌≡◌, ◌+◌, ◌^◌, ◌≤◌, ℕ, Option, Some, refl, ◌∙◌, ap, subst, arith}
use Rattle.checkpoint.proofs.Trajectory.{after-+}
use Rattle.checkpoint.specs.MarkValue.{Advances}
use Rattle.hart_step.specs.Next.{after, Ran}
use Rattle.hart_step.specs.State.{State}
use Rattle.hart_step.specs.declared.stop.Stop.{Stop}
use Rattle.origin_set.specs.OriginValue.{OriginValue}
use Rattle.origin_set.specs.Start.{start}

-- a run from a mark's state, after which the count is as many more as it did
module _ (n k : ℕ) (s t : State) (why : Option Stop) (old new : ℕ) where
  pub within : (seen : ℕ) → old ≡ seen → seen + n ≤ 2 ^ 60 → new ≡ old + k → Ran n s k why t → new ≤ 2 ^ 60
  within seen e h counted ran = omega (arith, e, h, counted, ran.within)

  module _ (origin : OriginValue) (context : ℕ) (counted : new ≡ old + k) (here : after old (start origin context) ≡ Some s) (ran : Ran n s k why t) where
    -- the new mark is on its trajectory
    pub reaches : after new (start origin context) ≡ Some t
    reaches = ap (λ (count : ℕ). after count (start origin context)) counted ∙ after-+ old k (start origin context) s here ∙ ran.reached

    pub advances : Advances n (record { origin = origin; context = context; count = old }) k why (record { origin = origin; context = context; count = new })
    advances = record {
      ran = λ u e. let same : s ≡ u = cc in (t, reaches, subst (λ v. Ran n v k why t) same ran);
      count = counted;
      origin = refl;
      context = refl;
    }

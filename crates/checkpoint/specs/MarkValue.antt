-- What a mark is: how far a context of an origin has come. Its state follows from that.
use Rattle.std.specs.Prelude.{◌≡◌, ℕ, ◌+◌, Option, Some}
use Rattle.hart_step.specs.Next.{after, Ran}
use Rattle.hart_step.specs.State.{State}
use Rattle.hart_step.specs.declared.stop.Stop.{Stop}
use Rattle.origin_set.specs.OriginValue.{OriginValue}
use Rattle.origin_set.specs.Start.{start}

-- a context of an origin, so many instructions from its start
pub record MarkValue : Type 0 where
  pub origin : OriginValue
  pub context : ℕ
  pub count : ℕ

-- the state that plain RV64I reaches from the context's start in that count, if it does
abbrev pub state_of : MarkValue → Option State
state_of mark = after mark.count (start mark.origin mark.context)

-- k of at most n instructions were done from the state of the old mark, as a hart runs them, and the new mark is k further
pub record Advances (n : ℕ) (old : MarkValue) (k : ℕ) (why : Option Stop) (new : MarkValue) : Type 0 where
  pub ran : (s : State) → state_of old ≡ Some s → (t : State) × (state_of new ≡ Some t) × Ran n s k why t
  pub count : new.count ≡ old.count + k
  pub origin : new.origin ≡ old.origin
  pub context : new.context ≡ old.context

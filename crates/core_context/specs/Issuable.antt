-- Which entries may issue: a load waits where the newest older store that has completed and shares a byte with it has only some of its bytes.
use Rattle.std.specs.Prelude.{◌≡◌, ℕ, ◌+◌, ◌<◌, Bool, true, false, not, length, take, All, Option, Some, None, is_some}
use Rattle.hart_step.specs.declared.effect.Effect.{Effect}
use Rattle.core_view.specs.declared.entry.Stage.TheVariants.{Queued}
use Rattle.core_view.specs.declared.outcome.Outcome.{Outcome}
use Rattle.core_view.specs.Outcomes.{image_of, outcome_in, outcome_with}
use Rattle.core_view.specs.Flight.{seen_of, IsSound, IsGrowing}
use Rattle.core_view.specs.Queues.{AllRenamed}
use Rattle.core_view.specs.View.{Context, entry_at, seen_at}
use Rattle.lawful_cycle.specs.Issue.{is_clear_on}
use Rattle.data_flow.specs.Flow.{Flow, Waiter, is_waiter, lane, sources_at}
use Rattle.data_tags.specs.declared.delay.Kind.{Kind}
use Rattle.data_tags.specs.declared.delay.Lag.{Lag}
use Rattle.lawful_cycle.specs.Delays.{kind_of, address_in}
use Rattle.entry_stages.specs.Effects.{answered_in}
use Rattle.core_context.specs.Queued.{queued_at}
use Rattle.core_context.specs.Track.{Track, issued}

-- the entry at a place may issue on the values of its sources
abbrev pub may_issue_at : Context → ℕ → ℕ → ℕ → Bool
may_issue_at x i a b = is_clear_on (take i x.flight) (entry_at x i).operation (entry_at x i).pc a b

-- what the entry at a place does on the values of its sources
abbrev pub performed_at : Context → ℕ → ℕ → ℕ → Outcome
performed_at x i a b = outcome_in (image_of x.state) (seen_at x i).bytes (entry_at x i).operation (entry_at x i).pc a b

-- what an effect of it comes to, where memory gives what the effect asks for
abbrev pub effected_at : Context → ℕ → Effect → Outcome
effected_at x i e = outcome_with (entry_at x i).pc e (answered_in x.state (seen_at x i).bytes e)

-- the queues of loads and stores give what the flight says of the entry at a place
pub record IsAnswered (x : Context) (i : ℕ) : Type 0 where
  pub renamed : AllRenamed (take i x.flight)
  pub growing : IsGrowing 0 x.flight
  pub sound : IsSound (image_of x.state) (seen_of x.state) x.state.pc x.flight

-- what waits under a stamp of a context is held, or let go
abbrev pub IsMarked : Flow → ℕ → ℕ → Bool → Type 0
IsMarked f c k held = All (λ (w : Waiter). is_waiter c k w ≡ true → w.held ≡ held) f.waiters

-- nothing is held
abbrev pub AreLetGo : Flow → Type 0
AreLetGo f = All (λ (w : Waiter). w.held ≡ false) f.waiters

-- the entry at a place has to wait for an older store, on the values of its sources, if both are there
abbrev pub must_wait : Context → ℕ → Option (ℕ × ℕ) → Bool
must_wait x i None = false
must_wait x i (Some values) = not (may_issue_at x i values.0 values.1)

-- each queued entry of a context is held exactly where it has to wait
abbrev pub AreHeld : Flow → ℕ → Track → Type 0
AreHeld f c t = (i : ℕ) → i < t.renamed → (entry_at t.context i).stage ≡ Queued → IsMarked f c (entry_at t.context i).stamp (must_wait t.context i (sources_at (lane f c) i))

-- the entry of a context and stamp may issue on the values of its sources
abbrev pub IsClear : Flow → ℕ → Track → ℕ → Type 0
IsClear f c t k = (i a b : ℕ) → i < t.renamed → (entry_at t.context i).stamp ≡ k → sources_at (lane f c) i ≡ Some (a, b) → may_issue_at t.context i a b ≡ true

-- the entry of a context at a place has all to be asked with: it is queued, and has the values of its sources
pub record IsSuppliedAt (f : Flow) (c : ℕ) (t : Track) (i : ℕ) : Type 0 where
  pub known : i < length (lane f c).nodes
  pub stage : (entry_at t.context i).stage ≡ Queued
  pub sources : is_some (sources_at (lane f c) i) ≡ true
  pub answered : IsAnswered t.context i

-- one with a stamp is queued, and has the values of its sources
pub record IsSupplied (f : Flow) (c : ℕ) (t : Track) (k : ℕ) : Type 0 where
  pub queued : queued_at k t.context.flight ≡ true
  pub here : (i : ℕ) → i < length t.context.flight → (entry_at t.context i).stamp ≡ k → IsSuppliedAt f c t i

-- the entry of a context at a place may issue: on the values of its sources it is clear
pub record IsIssuableAt (f : Flow) (c : ℕ) (t : Track) (i : ℕ) : Type 0 where
  pub supplied : IsSuppliedAt f c t i
  pub clear : (a b : ℕ) → sources_at (lane f c) i ≡ Some (a, b) → may_issue_at t.context i a b ≡ true

-- one with a stamp is queued, and may issue
pub record IsIssuable (f : Flow) (c : ℕ) (t : Track) (k : ℕ) : Type 0 where
  pub queued : queued_at k t.context.flight ≡ true
  pub here : (i : ℕ) → i < length t.context.flight → (entry_at t.context i).stamp ≡ k → IsIssuableAt f c t i

-- the entry of a context and stamp has to wait for an older store, on the values of its sources
pub record HasToWait (f : Flow) (c k : ℕ) (t : Track) : Type 0 where
  pub place : ℕ
  pub first : ℕ
  pub second : ℕ
  pub within : place < length t.context.flight
  pub stamp : (entry_at t.context place).stamp ≡ k
  pub sources : sources_at (lane f c) place ≡ Some (first, second)
  pub waits : may_issue_at t.context place first second ≡ false

-- it has issued in a cycle on the values of its sources, on which it was clear, after a lag that a delay states
pub record HasIssued (says : Kind → ℕ → Outcome → Lag → Type 0) (f : Flow) (c k cycle : ℕ) (old new : Track) (lag : Lag) : Type 0 where
  pub place : ℕ
  pub first : ℕ
  pub second : ℕ
  pub within : place < length old.context.flight
  pub stamp : (entry_at old.context place).stamp ≡ k
  pub sources : sources_at (lane f c) place ≡ Some (first, second)
  pub clear : may_issue_at old.context place first second ≡ true
  pub stated : let e = entry_at old.context place in says (kind_of e.operation) (address_in e.operation e.pc first second) (performed_at old.context place first second) lag
  pub after : new ≡ issued old place (record { due = cycle + lag.cycles; miss = lag.miss; outcome = performed_at old.context place first second })

-- What an event at one context keeps, of it and of the others.
use Rattle.std.specs.Prelude.{◌≡◌, ◌≢◌, ℕ, ◌+◌, ◌<◌, [], length, All}
use Rattle.hart_step.specs.State.{State}
use Rattle.data_flow.specs.Flow.{Flow, lane}
use Rattle.core_context.specs.Track.{Track}
use Rattle.core_context.specs.Queued.{waiting_of}
use Rattle.core_context.specs.Issuable.{AreLetGo}
use Rattle.core_context.specs.Cores.{IsCore}

-- track and data flow stand for a context of which nothing was selected
pub record IsIdleCore (f : Flow) (c : ℕ) (t : Track) : Type 0 where
  pub start : State
  pub stamp : ℕ
  pub reorder : ℕ
  pub is_context : c < 8
  pub has_lane : c < length f.lanes
  pub core : IsCore start stamp reorder f [] c t

-- a track stands so for a context of which the next entry has this stamp
pub record IsBefore (stamp c : ℕ) (t : Track) : Type 0 where
  pub start : State
  pub reorder : ℕ
  pub flow : Flow
  pub core : IsCore start stamp reorder flow [] c t

-- a context is in another data flow what it was, and waits for the same
pub record IsLeft (f g : Flow) (d : ℕ) : Type 0 where
  pub lane : lane g d ≡ lane f d
  pub waits : waiting_of g d ≡ waiting_of f d

-- there are as many contexts, registers and places as there were, what waits is of the eight contexts still, and nothing is held that was not
pub record KeepsSizes (f g : Flow) : Type 0 where
  pub lanes : length g.lanes ≡ length f.lanes
  pub extra : g.extra ≡ f.extra
  pub places : g.places ≡ f.places
  pub contexts : All (λ w. w.context < 8) f.waiters → All (λ w. w.context < 8) g.waiters
  pub let_go : AreLetGo f → AreLetGo g

-- after an event at a context its track and the data flow stand for what they stood for, and the rest is as it was
pub record IsEventAt (c : ℕ) (f g : Flow) (t u : Track) : Type 0 where
  pub kept : (start : State) (stamp reorder : ℕ) → IsCore start stamp reorder f [] c t → IsCore start stamp reorder g [] c u
  pub others : (d : ℕ) → d ≢ c → IsLeft f g d
  pub sizes : KeepsSizes f g
  pub loads : u.load_places ≡ t.load_places
  pub stores : u.store_places ≡ t.store_places

-- after a fetch of the entry of a stamp a track stands for what it stood for, before the next stamp
pub record KeepsCores (stamp c : ℕ) (t u : Track) : Type 0 where
  pub kept : (start : State) (reorder : ℕ) (f : Flow) → IsCore start stamp reorder f [] c t → IsCore start (stamp + 1) reorder f [] c u
  pub loads : u.load_places ≡ t.load_places
  pub stores : u.store_places ≡ t.store_places

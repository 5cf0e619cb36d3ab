-- How an entry issues.
use Rattle.std.specs.Prelude.{◌≡◌, ℕ, ◌+◌, ◌<◌, Bool, true, false, List, [], ◌∷◌, ◌++◌, length}
use Rattle.data_tags.specs.declared.delay.Kind.{Kind}
use Rattle.data_tags.specs.declared.delay.Lag.{Lag}
use Rattle.core_view.specs.declared.outcome.Outcome.{Outcome}
use Rattle.core_view.specs.declared.entry.Execution.{Execution}
use Rattle.core_view.specs.declared.entry.Stage.TheVariants.{Queued}
use Rattle.core_view.specs.declared.note.Issue.{Issue}
use Rattle.core_view.specs.Events.{issue_event}
use Rattle.core_view.specs.View.{Context, entry_at}
use Rattle.lawful_cycle.specs.Delays.{kind_of, IsLagOf}
use Rattle.lawful_cycle.specs.Issue.{is_ready, operation_at_place, outcome_at, address_at}
use Rattle.core_view.specs.declared.note.EntryId.{EntryId}
use Rattle.issue_queue.specs.declared.entry.QueueView.{QueueView}
use Rattle.core_back.specs.Selected.{IsChosen}
use Rattle.core_back.specs.Machine.{Machine, context_at, with_context}

-- what is known of an entry that issues: it was ready, its outcome is made now, and its lag is as `says` has it
pub record IsPerformedBy (says : Kind → ℕ → Outcome → Lag → Type 0) (x : Context) (i latency : ℕ) (execution : Execution) : Type 0 where
  pub ready : is_ready x i ≡ true
  pub outcome : execution.outcome ≡ outcome_at x i
  pub lag : says (kind_of (operation_at_place x i)) (address_at x i) (outcome_at x i) (record { cycles = latency; miss = execution.miss })

-- the first of the names that were selected issues: the entry of that stamp was queued, and is due after the lag
pub record IsIssuedBy (says : ℕ → Kind → ℕ → Outcome → Lag → Type 0) (old new : Machine) (n : Issue) : Type 0 where
  pub place : ℕ
  pub execution : Execution
  pub within : place < length (context_at old n.entry.context).flight
  pub stamp : (entry_at (context_at old n.entry.context) place).stamp ≡ n.entry.stamp
  pub queued : (entry_at (context_at old n.entry.context) place).stage ≡ Queued
  pub performed : IsPerformedBy (says n.entry.context) (context_at old n.entry.context) place n.latency execution
  pub due : execution.due ≡ old.view.cycle + n.latency
  pub miss : execution.miss ≡ n.miss
  pub names : old.names ≡ n.entry ∷ new.names
  pub after : new ≡ record (with_context old n.entry.context (issue_event (context_at old n.entry.context) place execution)) { names = new.names }

-- its lag is one that the delay states
abbrev pub IsIssued : (ℕ → Kind → ℕ → Lag → Bool) → Machine → Machine → Issue → Type 0
IsIssued delays old new n = IsIssuedBy (λ c. IsLagOf (delays c)) old new n

-- the first of the names that were selected has to wait: its entry isn't ready
pub record IsHeadWaiting (m : Machine) : Type 0 where
  pub name : EntryId
  pub rest : List EntryId
  pub names : m.names ≡ name ∷ rest
  pub place : ℕ
  pub within : place < length (context_at m name.context).flight
  pub stamp : (entry_at (context_at m name.context) place).stamp ≡ name.stamp
  pub waits : is_ready (context_at m name.context) place ≡ false

-- these issue one by one, and take a delay from a state to a state
abbrev pub AreIssued : {T : Type 0} → (T → T → ℕ → Kind → ℕ → Outcome → Lag → Type 0) → T → T → Machine → Machine → List Issue → Type 0
AreIssued {T = T} says s t old new [] = (new ≡ old) × (t ≡ s)
AreIssued {T = T} says s t old new (i ∷ issues) = (next : Machine) × (u : T) × IsIssuedBy (says s u) old next i × AreIssued says u t next new issues

-- what was selected and has not issued went back, and the first ready entries issued, at most so many
pub record IsIssuedAnew {T : Type 0} (key : QueueView → ℕ) (says : T → T → ℕ → Kind → ℕ → Outcome → Lag → Type 0) (s t : T) (width : ℕ) (old new : Machine) (before after : List Issue) : Type 0 where
  pub first : Machine
  pub selected : first ≡ record old { names = first.names }
  pub choice : IsChosen key width old.view first.names
  pub issues : List Issue
  pub issued : AreIssued says s t first new issues
  pub listed : after ≡ before ++ issues
  pub idle : new.names ≡ []

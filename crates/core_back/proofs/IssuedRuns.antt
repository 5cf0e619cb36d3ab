-- Entries that issue one after another, as a list.
use Rattle.std.proofs.Common.{ℕ, Bool, ◌<◌, List, [], ◌∷◌, ◌++◌, sym, subst, refl, append-nil, append_assoc}
use Rattle.issue_queue.specs.declared.entry.QueueView.{QueueView}
use Rattle.data_tags.specs.declared.delay.Kind.{Kind}
use Rattle.data_tags.specs.declared.delay.Lag.{Lag}
use Rattle.core_view.specs.declared.note.Issue.{Issue}
use Rattle.core_view.specs.Flight.{IsGrowing}
use Rattle.core_back.specs.Issued.{IsIssuedBy, IsIssued, AreIssued}
use Rattle.core_back.specs.Issuing.{IsIssuing}
use Rattle.core_back.specs.Machine.{Machine, context_at}
use Rattle.core_back.proofs.IssueViews.{issuing_next, timed_next, chosen_in_flight}
use Rattle.core_view.specs.declared.outcome.Outcome.{Outcome}
use Rattle.lawful_cycle.specs.Queries.{IsLagBy}
use Rattle.lawful_cycle.specs.Steps.{GoesBy, IsTimedAt}

-- one whose lag is what the delay stepped got a lag that the delay states
abbrev pub stated_issue : {T : Type 0} (may : ℕ → Kind → ℕ → Lag → Bool) (answer : T → ℕ → Kind → ℕ → Lag) (queried : T → ℕ → Kind → ℕ → T) (s t : T) (m n : Machine) (i : Issue) → IsIssuedBy (IsLagBy may answer queried s t) m n i → IsIssued may m n i
stated_issue may answer queried s t m n i h = record {
  place = h.place;
  execution = h.execution;
  within = h.within;
  stamp = h.stamp;
  queued = h.queued;
  performed = record { ready = h.performed.ready; outcome = h.performed.outcome; lag = h.performed.lag.stated };
  due = h.due;
  miss = h.miss;
  names = h.names;
  after = h.after;
}

-- one more issues
pub issued_more : {T : Type 0} (says : T → T → ℕ → Kind → ℕ → Outcome → Lag → Type 0) (r s t : T) (m n u : Machine) (issues : List Issue) (i : Issue) → AreIssued says r s m n issues → IsIssuedBy (says s t) n u i → AreIssued says r t m u (issues ++ i ∷ [])
issued_more says r s t m n u [] i run one = (u, t, subst (λ v. IsIssuedBy (says r t) v u i) run.0 (subst (λ q. IsIssuedBy (says q t) n u i) run.1 one), (refl, refl))
issued_more says r s t m n u (j ∷ issues) i run one = (run.0, run.1, run.2, issued_more says run.1 s t run.0 n u issues i run.3 one)

-- what issues one after another, after what issued before
module _ {T : Type 0} (key : QueueView → ℕ) (may : ℕ → Kind → ℕ → Lag → Bool) (answer : T → ℕ → Kind → ℕ → Lag) (queried : T → ℕ → Kind → ℕ → T) (width : ℕ) (m : Machine) (growing : (c : ℕ) → c < 8 → IsGrowing 0 (context_at m c).flight) where
  pub issuing_run : (s t : T) (n u : Machine) (issues more : List Issue) → IsIssuing key may width m n issues → AreIssued (IsLagBy may answer queried) s t n u more → IsIssuing key may width m u (issues ++ more)
  issuing_run s t n u issues [] h run = subst (IsIssuing key may width m u) (sym (append-nil issues)) (subst (λ v. IsIssuing key may width m v issues) (sym run.0) h)
  issuing_run s t n u issues (i ∷ more) h run =
      subst (IsIssuing key may width m u) (append_assoc issues (i ∷ []) more) (issuing_run run.1 t run.0 u (issues ++ i ∷ []) more (issuing_next key may width m n run.0 issues (issues ++ i ∷ []) i growing h (stated_issue may answer queried s run.1 n run.0 i run.2) refl) run.3)

  -- of each of them the delay was queried, in their order
  pub timed_run : (s t : T) (n u : Machine) (issues more : List Issue) → IsIssuing key may width m n issues → AreIssued (IsLagBy may answer queried) s t n u more → GoesBy (IsTimedAt answer queried m.view) more s t
  timed_run s t n u issues [] h run = run.1
  timed_run s t n u issues (i ∷ more) h run =
      let one = stated_issue may answer queried s run.1 n run.0 i run.2 in (
        run.1,
        timed_next may h.choice.chosen m n run.0 issues i growing (chosen_in_flight m.view h.choice.chosen h.choice.choice.ready) h.issued one answer queried s run.1 run.2.performed.lag.timed,
        timed_run run.1 t run.0 u (issues ++ i ∷ []) more (issuing_next key may width m n run.0 issues (issues ++ i ∷ []) i growing h one refl) run.3,
      )

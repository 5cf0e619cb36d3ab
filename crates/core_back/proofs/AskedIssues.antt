-- The entries that were selected unasked issue one by one, each asked as it issues: once all have issued, that was lawful.
use Rattle.std.proofs.Common.{◌≡◌, ℕ, ◌<◌, Bool, List, [], ◌∷◌, ◌++◌, length, map, get_or, refl, sym, ap, subst, arith, inl, inr}
use Rattle.std.specs.Prelude.{All}
use Rattle.std.proofs.lemmas.Bool.{cases_lt}
use Rattle.std.proofs.lemmas.List.{length_push}
use Rattle.std.proofs.lemmas.List.Elements.{All-weaker, All-from_get_or}
use Rattle.issue_queue.specs.declared.entry.QueueView.{QueueView}
use Rattle.data_tags.specs.declared.delay.Kind.{Kind}
use Rattle.data_tags.specs.declared.delay.Lag.{Lag}
use Rattle.core_view.specs.declared.note.EntryId.{EntryId}
use Rattle.core_view.specs.declared.note.Issue.{Issue}
use Rattle.core_view.specs.Flight.{IsGrowing}
use Rattle.lawful_cycle.specs.Issue.{id_in, IsReadyIn, no_place, IsIssue}
use Rattle.core_back.specs.Issued.{IsIssued}
use Rattle.core_back.specs.Selected.{IsSuppliedPlace, IsChosenOf}
use Rattle.core_back.specs.Machine.{Machine, context_at}
use Rattle.core_back.specs.Issuing.{HaveIssued, IsIssuing, IsIssuingAsked}
use Rattle.core_back.proofs.IssuedFlights.{IsInFlight, supplied_in_flight, ready_place_supplied}
use Rattle.core_back.proofs.IssueViews.{issued_first, issued_count, issue_named, issued_next, next_ready, timed_next, issuing_done}
use Rattle.core_back.specs.Issued.{IsIssuedBy}
use Rattle.core_back.proofs.IssuedRuns.{stated_issue}
use Rattle.lawful_cycle.specs.Queries.{IsLagBy}
use Rattle.lawful_cycle.specs.Steps.{IsTimedAt}

pub asked_first : (key : QueueView → ℕ) (delays : ℕ → Kind → ℕ → Lag → Bool) (width : ℕ) (m n : Machine) (issues : List Issue) → length m.view.contexts ≡ 8 → n.view ≡ m.view → issues ≡ [] → IsChosenOf (IsSuppliedPlace m.view) key width m.view n.names → IsIssuingAsked key delays width m n issues
asked_first key delays width m n issues count same none c = record {
  chosen = c.chosen;
  issued = issued_first delays c.chosen m n issues count same none c.names_are;
  supplied = c.choice.ready;
  once = c.choice.once;
  in_order = c.choice.in_order;
  most = c.choice.most;
  used_up = λ p ready. c.choice.used_up p (ready_place_supplied m.view p ready);
  first = λ p ready. c.choice.first p (ready_place_supplied m.view p ready);
  ready = λ j lt. let empty = ap (λ (ns : List Issue). length ns) none in absurd (omega (arith, lt, empty));
}

pub asked_next : (key : QueueView → ℕ) (delays : ℕ → Kind → ℕ → Lag → Bool) (width : ℕ) (m n u : Machine) (issues more : List Issue) (i : Issue) → ((c : ℕ) → c < 8 → IsGrowing 0 (context_at m c).flight) → IsIssuingAsked key delays width m n issues → IsIssued delays n u i → more ≡ issues ++ i ∷ []
    → IsIssuingAsked key delays width m u more
asked_next key delays width m n u issues more i growing h one pushed = record {
  chosen = h.chosen;
  issued = subst (HaveIssued delays h.chosen m u) (sym pushed) (issued_next delays h.chosen m n u issues i growing inside h.issued one);
  supplied = h.supplied;
  once = h.once;
  in_order = h.in_order;
  most = h.most;
  used_up = h.used_up;
  first = h.first;
  ready = subst (λ (ns : List Issue). (j : ℕ) → j < length ns → IsReadyIn m.view (get_or h.chosen j no_place)) (sym pushed) ready;
}
  where
    inside : All (IsInFlight m.view) h.chosen
    inside = All-weaker (IsSuppliedPlace m.view) (IsInFlight m.view) (supplied_in_flight m.view) h.chosen h.supplied

    ready : (j : ℕ) → j < length (issues ++ i ∷ []) → IsReadyIn m.view (get_or h.chosen j no_place)
    ready j lt = elim (cases_lt j (length issues)) [
      | inl less ↦ h.ready j less
      | inr ge ↦
          let pushes = length_push issues i in
          let at : length issues ≡ j = omega (arith, ge, lt, pushes) in
          subst (λ k. IsReadyIn m.view (get_or h.chosen k no_place)) at (next_ready delays h.chosen m n u issues i growing inside h.issued one)
    ]

-- of the next the delay was queried
pub timed_asked : {T : Type 0} (key : QueueView → ℕ) (delays : ℕ → Kind → ℕ → Lag → Bool) (answer : T → ℕ → Kind → ℕ → Lag) (queried : T → ℕ → Kind → ℕ → T) (width : ℕ) (m n u : Machine) (s t : T) (issues : List Issue) (i : Issue)
    → ((c : ℕ) → c < 8 → IsGrowing 0 (context_at m c).flight) → IsIssuingAsked key delays width m n issues → IsIssuedBy (IsLagBy delays answer queried s t) n u i → IsTimedAt answer queried m.view i s t
timed_asked key delays answer queried width m n u s t issues i growing h one =
    timed_next delays h.chosen m n u issues i growing (All-weaker (IsSuppliedPlace m.view) (IsInFlight m.view) (supplied_in_flight m.view) h.chosen h.supplied) h.issued (stated_issue delays answer queried s t n u i one) answer queried s t one.performed.lag.timed

-- ---- all that was chosen is ready

-- then it is as if each had been asked before
pub asked_before : (key : QueueView → ℕ) (delays : ℕ → Kind → ℕ → Lag → Bool) (width : ℕ) (m n : Machine) (issues : List Issue) (h : IsIssuingAsked key delays width m n issues) → All (IsReadyIn m.view) h.chosen → IsIssuing key delays width m n issues
asked_before key delays width m n issues h ready = record {
  names = map (id_in m.view) h.chosen;
  choice = record { chosen = h.chosen; names_are = refl; choice = record { ready = ready; once = h.once; in_order = h.in_order; most = h.most; used_up = h.used_up; first = h.first } };
  issued = h.issued;
}

pub asked_again : (key : QueueView → ℕ) (delays : ℕ → Kind → ℕ → Lag → Bool) (width : ℕ) (m n : Machine) (issues : List Issue) → IsIssuing key delays width m n issues → IsIssuingAsked key delays width m n issues
asked_again key delays width m n issues h = record {
  chosen = h.choice.chosen;
  issued = h.issued;
  supplied = All-weaker (IsReadyIn m.view) (IsSuppliedPlace m.view) (ready_place_supplied m.view) h.choice.chosen h.choice.choice.ready;
  once = h.choice.choice.once;
  in_order = h.choice.choice.in_order;
  most = h.choice.choice.most;
  used_up = h.choice.choice.used_up;
  first = h.choice.choice.first;
  ready = λ j lt. h.choice.choice.ready j no_place (issue_named delays h.choice.chosen m n issues h.issued j lt).0;
}

-- all have issued
pub asked_done : (key : QueueView → ℕ) (delays : ℕ → Kind → ℕ → Lag → Bool) (width : ℕ) (m n : Machine) (issues : List Issue) → IsIssuingAsked key delays width m n issues → width ≡ m.view.profile.issue_width → n.names ≡ [] → IsIssue key delays m.view n.view issues
asked_done key delays width m n issues h is none =
    issuing_done key delays width m n issues (asked_before key delays width m n issues h (All-from_get_or (IsReadyIn m.view) h.chosen no_place (λ j lt. h.ready j (omega (arith, lt, count))))) is none
  where
    count : length issues ≡ length h.chosen
    count = let all = issued_count delays h.chosen m n issues h.issued in let left = ap (λ (ids : List EntryId). length ids) none in omega (arith, all, left)

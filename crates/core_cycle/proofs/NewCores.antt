-- A new core never stalls, with an order that puts sure entries first.
use Rattle.std.proofs.Common.{◌≡◌, ℕ, ◌<◌, ◌≤◌, List, [], length, ap, ◌∙◌, arith}
use Rattle.std.specs.Prelude.{slice_index}
use Rattle.std.proofs.lemmas.List.{get_or_default}
use Rattle.join_law.specs.Eight.{place_of}
use Rattle.join_law.specs.declared.places.Eight.{Eight}
use Rattle.origin_set.specs.Start.{start}
use Rattle.checkpoint.specs.MarkValue.{MarkValue}
use Rattle.core_profile.specs.declared.profile.Profile.{Profile}
use Rattle.issue_queue.specs.declared.entry.QueueView.{QueueView}
use Rattle.core_view.specs.View.{Context}
use Rattle.lawful_cycle.specs.Views.{context_in, no_context as no_context_seen}
use Rattle.lawful_cycle.specs.Distance.{PutsSureFirst, NeverStalls}
use Rattle.lawful_cycle.proofs.Laws.{empty_steady, after_wide}
use Rattle.core_back.specs.Machine.{Machine, context_at, no_context}
use Rattle.core_back.specs.First.{IsFirst}

module _ (profile : Profile) (marks : Eight MarkValue) (targets : List ℕ) (m : Machine) (first : IsFirst profile marks targets m) where
  same_context : (c : ℕ) → c < 8 → context_in m.view c ≡ context_at m c
  same_context c lc = let count = first.count in get_or_default m.view.contexts c no_context_seen no_context (omega (arith, lc, count))

  new_empty : (c : ℕ) → c < 8 → (context_in m.view c).flight ≡ []
  new_empty c lc = ap (λ (x : Context). x.flight) (same_context c lc ∙ (first.contexts c lc).first)

  new_wide : (c : ℕ) → c < 8 → length (context_in m.view c).state.registers ≡ 32
  new_wide c lc =
      let mark = place_of marks c in
      ap (λ (x : Context). length x.state.registers) (same_context c lc)
      ∙ after_wide mark.count (start mark.origin mark.context) (context_at m c).state (first.contexts c lc).reached

  pub new_count : (c : ℕ) → c < 8 → (context_in m.view c).count ≡ (place_of marks c).count
  new_count c lc = ap (λ (x : Context). x.count) (same_context c lc ∙ (first.contexts c lc).first)

  pub new_target : (c : ℕ) → c < 8 → (context_in m.view c).target ≡ slice_index targets c
  new_target c lc = ap (λ (x : Context). x.target) (same_context c lc ∙ (first.contexts c lc).first)

  pub new_never_stalls : (order : QueueView → ℕ) (greatest : ℕ) → PutsSureFirst order → 1 ≤ greatest → ((c : ℕ) → c < 8 → (place_of marks c).count ≤ slice_index targets c) → NeverStalls order greatest m.view
  new_never_stalls order greatest sure some le = record {
    sure = sure;
    some = some;
    steady = empty_steady greatest m.view new_empty new_wide;
    within = λ c lc. let here = le c lc in let count = new_count c lc in let target = new_target c lc in omega (arith, here, count, target);
  }

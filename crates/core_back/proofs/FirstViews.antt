-- What a machine shows at first is a first view, and marks, a profile and targets decide the machine.
use Rattle.std.proofs.Common.{◌≡◌, ℕ, ◌<◌, List, refl, sym, ap, ◌∙◌}
use Rattle.std.specs.Prelude.{slice_index, Option, Some}
use Rattle.hart_step.specs.State.{State}
use Rattle.origin_set.specs.OriginValue.{OriginValue}
use Rattle.origin_set.specs.Start.{start}
use Rattle.join_law.specs.declared.places.Eight.{Eight}
use Rattle.join_law.specs.Eight.{place_of}
use Rattle.checkpoint.specs.MarkValue.{MarkValue}
use Rattle.core_profile.specs.declared.profile.Profile.{Profile}
use Rattle.core_view.specs.declared.note.EntryId.{EntryId}
use Rattle.core_view.specs.View.{Context, View, first_context}
use Rattle.lawful_cycle.specs.Runs.{IsFirstView}
use Rattle.lawful_cycle.proofs.Laws.{same_views}
use Rattle.core_back.specs.Machine.{Machine, context_at}
use Rattle.core_back.specs.First.{IsFirstContext, IsFirst}

-- the view is the first one of the marks' contexts, from the starts of these, at their counts
pub first_view : (profile : Profile) (marks : Eight MarkValue) (targets : List ℕ) (m : Machine) → IsFirst profile marks targets m
    → IsFirstView profile (λ c. start (place_of marks c).origin (place_of marks c).context) (λ c. (place_of marks c).count) (λ c. slice_index targets c) m.view
first_view profile marks targets m h = record {
  profile_is = h.profile_is;
  cycle = h.cycle;
  stamp = h.stamp;
  count = h.count;
  states = λ c. (context_at m c).state;
  reached = λ c lc. (h.contexts c lc).reached;
  contexts = λ c lc. (h.contexts c lc).first;
}

-- a context starts in one way
first_context_once : (mark : MarkValue) (t u : ℕ) (x y : Context) → t ≡ u → IsFirstContext mark t x → IsFirstContext mark u y → x ≡ y
first_context_once mark t u x y same a b =
    a.first ∙ ap (first_context mark.count t) (some_is_one (sym a.reached ∙ b.reached)) ∙ ap (λ k. first_context mark.count k y.state) same ∙ sym b.first
  where
    some_is_one : {s r : State} → ◌≡◌ {A = Option State} (Some s) (Some r) → s ≡ r
    some_is_one e = cc

-- a machine starts in one way from marks
pub first_decided : (profile : Profile) (marks : Eight MarkValue) (targets others : List ℕ) (m n : Machine) → ((c : ℕ) → c < 8 → slice_index targets c ≡ slice_index others c) → IsFirst profile marks targets m → IsFirst profile marks others n → m ≡ n
first_decided profile marks targets others m n same a b =
    parts m.origin n.origin m.view n.view m.names n.names m.fetch_room n.fetch_room (a.origin ∙ sym b.origin)
    (same_views m.view n.view a.count b.count (a.profile_is ∙ sym b.profile_is) (a.cycle ∙ sym b.cycle) (a.stamp ∙ sym b.stamp)
    (λ c lc. first_context_once (place_of marks c) (slice_index targets c) (slice_index others c) (context_at m c) (context_at n c) (same c lc) (a.contexts c lc) (b.contexts c lc)))
    (a.names ∙ sym b.names) (a.fetch_room ∙ sym b.fetch_room)
  where
    parts : (o p : OriginValue) (v w : View) (j k : List EntryId) (r s : ℕ) → o ≡ p → v ≡ w → j ≡ k → r ≡ s → ◌≡◌ {A = Machine} (record { origin = o; view = v; names = j; fetch_room = r }) (record { origin = p; view = w; names = k; fetch_room = s })
    parts o p v w j k r s e f g h = rw (e, f, g, h) refl

-- Events keep the origin, the profile, the cycle, what may be fetched, and the targets.
use Rattle.std.proofs.Common.{◌≡◌, ℕ, zero, suc, ◌≤◌, List, [], ◌∷◌, length, get_or, refl, ap, ◌∙◌, arith}
use Rattle.std.specs.Prelude.{set}
use Rattle.core_view.specs.declared.note.Issue.{Issue}
use Rattle.core_view.specs.declared.note.EntryId.{EntryId}
use Rattle.core_view.specs.View.{Context}
use Rattle.core_view.specs.Events.{issue_event}
use Rattle.data_tags.specs.declared.delay.Kind.{Kind}
use Rattle.data_tags.specs.declared.delay.Lag.{Lag}
use Rattle.core_back.specs.Issued.{IsIssuedBy}
use Rattle.core_back.specs.Machine.{Machine, IsAlike, no_context, context_at, with_context}
use Rattle.core_view.specs.declared.outcome.Outcome.{Outcome}

pub alike_none : (m : Machine) → IsAlike m m
alike_none m = record { origin = refl; profile = refl; cycle = refl; room = refl; targets = λ c lt. refl }

pub alike_chain : (a b d : Machine) → IsAlike a b → IsAlike b d → IsAlike a d
alike_chain a b d h k = record { origin = k.origin ∙ h.origin; profile = k.profile ∙ h.profile; cycle = k.cycle ∙ h.cycle; room = k.room ∙ h.room; targets = λ c lt. k.targets c lt ∙ h.targets c lt }

set_target : (xs : List Context) (c : ℕ) (x : Context) (d : ℕ) → x.target ≡ (get_or xs c no_context).target → (get_or (set xs c x) d no_context).target ≡ (get_or xs d no_context).target
set_target [] c x d h = refl
set_target (y ∷ ys) zero x zero h = h
set_target (y ∷ ys) zero x (suc d) h = refl
set_target (y ∷ ys) (suc c) x zero h = refl
set_target (y ∷ ys) (suc c) x (suc d) h = set_target ys c x d h

-- one context is another, of the same target
pub alike_set : (m n : Machine) (c : ℕ) (x : Context) → n.origin ≡ m.origin → n.view.profile ≡ m.view.profile → n.view.cycle ≡ m.view.cycle → n.fetch_room ≡ m.fetch_room → n.view.contexts ≡ set m.view.contexts c x → x.target ≡ (context_at m c).target → IsAlike m n
alike_set m n c x origin profile cycle room contexts target =
    record { origin = origin; profile = profile; cycle = cycle; room = room; targets = λ d lt. ap (λ (xs : List Context). (get_or xs d no_context).target) contexts ∙ set_target m.view.contexts c x d target }

pub alike_with : (m n : Machine) (c : ℕ) (x : Context) → n ≡ with_context m c x → x.target ≡ (context_at m c).target → IsAlike m n
alike_with m n c x e target = alike_set m n c x (ap (λ (k : Machine). k.origin) e) (ap (λ (k : Machine). k.view.profile) e) (ap (λ (k : Machine). k.view.cycle) e) (ap (λ (k : Machine). k.fetch_room) e) (ap (λ (k : Machine). k.view.contexts) e) target

-- the first of the names that were selected issues
pub issue_alike : {says : ℕ → Kind → ℕ → Outcome → Lag → Type 0} (m n : Machine) (i : Issue) → IsIssuedBy says m n i → IsAlike m n
issue_alike m n i is =
    alike_set m n i.entry.context (issue_event (context_at m i.entry.context) is.place is.execution) (ap (λ (k : Machine). k.origin) is.after) (ap (λ (k : Machine). k.view.profile) is.after) (ap (λ (k : Machine). k.view.cycle) is.after) (ap (λ (k : Machine). k.fetch_room) is.after)
    (ap (λ (k : Machine). k.view.contexts) is.after) refl

pub none_left : (names : List EntryId) → length names ≤ 0 → names ≡ []
none_left [] le = refl
none_left (n ∷ ns) le = absurd (omega arith)

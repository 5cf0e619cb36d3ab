-- Laws of latencies, for callers to cite.
use Rattle.std.proofs.Common.{◌≡◌, ℕ, ◌≤◌, sym, subst, ◌∙◌, refl}
use Rattle.std.proofs.Math.Bridge.{le_prop}
use Rattle.core_profile.specs.declared.profile.Profile.{Profile}
use Rattle.data_tags.specs.declared.latencies.Latencies.{Latencies}
use Rattle.data_tags.specs.Latency.{HasLatenciesOf}

-- a number from 1 to 200
abbrev IsRange : ℕ → Type 0
IsRange n = (1 ≤ n) × (n ≤ 200)

abbrev Ranged : Type 0
Ranged = (n : ℕ) × IsRange n

-- such numbers are equal where their values are
same_ranged : (n m : ℕ) (a : IsRange n) (b : IsRange m) → n ≡ m → ◌≡◌ {A = Ranged} (n, a) (m, b)
same_ranged n m a b is = subst (λ k. (c : IsRange k) → ◌≡◌ {A = Ranged} (n, a) (k, c)) is (λ c. same (le_prop a.0 c.0) (le_prop a.1 c.1)) b
  where
    same : {c : IsRange n} → a.0 ≡ c.0 → a.1 ≡ c.1 → ◌≡◌ {A = Ranged} (n, a) (n, c)
    same {c} p q = λ i. (n, (p i, q i))

made : Ranged → Ranged → Ranged → Ranged → Ranged → Latencies
made a b s h m = record { alu = a.0; branch = b.0; store = s.0; hit = h.0; miss = m.0; alu_in_range = a.1; branch_in_range = b.1; store_in_range = s.1; hit_in_range = h.1; miss_in_range = m.1 }

-- a profile's latencies are one
pub one_latencies : (profile : Profile) (k l : Latencies) → HasLatenciesOf profile k → HasLatenciesOf profile l → k ≡ l
unfolding made
one_latencies profile k l a b =
    parts (k.alu, k.alu_in_range) (l.alu, l.alu_in_range) (k.branch, k.branch_in_range) (l.branch, l.branch_in_range) (k.store, k.store_in_range) (l.store, l.store_in_range) (k.hit, k.hit_in_range) (l.hit, l.hit_in_range) (k.miss, k.miss_in_range) (l.miss, l.miss_in_range)
    (same_ranged k.alu l.alu k.alu_in_range l.alu_in_range (a.alu_is ∙ sym b.alu_is))
    (same_ranged k.branch l.branch k.branch_in_range l.branch_in_range (a.branch_is ∙ sym b.branch_is))
    (same_ranged k.store l.store k.store_in_range l.store_in_range (a.store_is ∙ sym b.store_is))
    (same_ranged k.hit l.hit k.hit_in_range l.hit_in_range (a.hit_is ∙ sym b.hit_is))
    (same_ranged k.miss l.miss k.miss_in_range l.miss_in_range (a.miss_is ∙ sym b.miss_is))
  where
    parts : (a a' b b' s s' h h' m m' : Ranged) → a ≡ a' → b ≡ b' → s ≡ s' → h ≡ h' → m ≡ m' → made a b s h m ≡ made a' b' s' h' m'
    parts a a' b b' s s' h h' m m' p q r t u = rw (p, q, r, t, u) refl

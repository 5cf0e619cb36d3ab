-- Each move keeps the rule of a deque.
use Rattle.std.proofs.Common.{◌≡◌, ◌≢◌, ℕ, zero, suc, ◌+◌, ◌<◌, List, [], ◌∷◌, ◌++◌, set, refl, sym, ap, subst, ⊎_elim, arith}
use Rattle.std.specs.List.{sum_by}
use Rattle.std.proofs.lemmas.List.Sums.{sum_by-append, sum_by_push, sum_by-cons}
use mathlib.Core.Option.{some, some-injective, some-ne-none}
use lib.ListN.{get_elem?}
use Rattle.atomic_table.proofs.Lists.{at_set, at_snoc}
use Rattle.crossbeam_deque.specs.Tasks.{Takes, Pushes, Forks, Merges, Finds}
use Rattle.worker_pool.specs.declared.hand.Hand.{Hand}
use Rattle.worker_pool.specs.Rule.{whole, hand, IdleIsEmpty, Balanced, Drawn, AllTaken, Put, keeps_rest, one_part, both}

sum_set : (f : Hand → ℕ) (views : List Hand) (port : ℕ) (v w : Hand) → get_elem? views port ≡ some v → sum_by f (set views port w) + f v ≡ sum_by f views + f w
sum_set f [] port v w e = absurd (some-ne-none v (sym e))
sum_set f (x ∷ xs) zero v w e = let is : f x ≡ f v = ap f (some-injective x v e) in omega (arith, sum_by-cons f x xs, sum_by-cons f w xs)
sum_set f (x ∷ xs) (suc port) v w e = let r = sum_set f xs port v w e in omega (arith, sum_by-cons f x xs, sum_by-cons f x (set xs port w))

idle_set : (views : List Hand) (port : ℕ) (w : Hand) → (w.parts ≡ 0 → (w.dealt ≡ []) × (w.taken ≡ [])) → IdleIsEmpty views → IdleIsEmpty (set views port w)
idle_set views port w mine others j u e none = ⊎_elim
    (λ (x : (j ≡ port) × (w ≡ u)). subst (λ (y : Hand). y.parts ≡ 0 → (y.dealt ≡ []) × (y.taken ≡ [])) x.1 mine none)
    (λ (x : (j ≢ port) × (get_elem? views j ≡ some u)). others j u x.1 none)
    (at_set views port j w u e)

drawn : (port : ℕ) (v : Hand) (xs items : List ℕ) (views : List Hand) → 0 < v.parts → Balanced (xs ++ items) views → get_elem? views port ≡ some v → Balanced items (set views port (hand v.parts v.dealt (v.taken ++ xs)))
drawn port v xs items views part r at = let w = hand v.parts v.dealt (v.taken ++ xs) in record {
  parts = (let s = sum_set (λ u. u.parts) views port v w at in let p = r.parts in omega arith);
  jobs = λ h.
      let s = sum_set (λ u. sum_by h u.dealt) views port v w at in
      let t = sum_set (λ u. sum_by h u.taken) views port v w at in
      let p = r.jobs h in
      omega (arith, sum_by-append h v.taken xs, sum_by-append h xs items);
  idle = idle_set views port w (λ none. absurd (omega arith)) r.idle;
}

no_parts : (f : Hand → ℕ) (views : List Hand) → ((j : ℕ) (u : Hand) → get_elem? views j ≡ some u → f u ≡ 0) → sum_by f views ≡ 0
no_parts f [] all = refl
no_parts f (x ∷ xs) all = let a = all 0 x refl in let r = no_parts f xs (λ j u e. all (suc j) u e) in omega (arith, sum_by-cons f x xs)

each_none : (views : List Hand) (j : ℕ) (u : Hand) → sum_by (λ v. v.parts) views ≡ 0 → get_elem? views j ≡ some u → u.parts ≡ 0
each_none [] j u z e = absurd (some-ne-none u (sym e))
each_none (x ∷ xs) zero u z e = let is : x.parts ≡ u.parts = ap (λ (y : Hand). y.parts) (some-injective x u e) in let c = sum_by-cons (λ (v : Hand). v.parts) x xs in omega arith
each_none (x ∷ xs) (suc j) u z e = let c = sum_by-cons (λ (v : Hand). v.parts) x xs in each_none xs j u (omega arith) e

-- a pass with every part knows what was dealt, what was taken and what is left
alone : (port : ℕ) (v : Hand) (items : List ℕ) (views : List Hand) → v.parts ≡ whole → Balanced items views → get_elem? views port ≡ some v → (h : ℕ → ℕ) → sum_by h v.dealt ≡ sum_by h v.taken + sum_by h items
alone port v items views all r at h =
    let w = hand 0 [] [] in
    let vs = set views port w in
    let idle = idle_set views port w (λ _. (refl, refl)) r.idle in
    let none : sum_by (λ u. u.parts) vs ≡ 0 = let s = sum_set (λ u. u.parts) views port v w at in let p = r.parts in omega arith in
    let dealt : sum_by (λ u. sum_by h u.dealt) vs ≡ 0 = no_parts (λ u. sum_by h u.dealt) vs (λ j u e. ap (sum_by h) (idle j u e (each_none vs j u none e)).0) in
    let taken : sum_by (λ u. sum_by h u.taken) vs ≡ 0 = no_parts (λ u. sum_by h u.taken) vs (λ j u e. ap (sum_by h) (idle j u e (each_none vs j u none e)).1) in
    let s = sum_set (λ u. sum_by h u.dealt) views port v w at in
    let t = sum_set (λ u. sum_by h u.taken) views port v w at in
    let p = r.jobs h in
    omega arith

pub steals : (port : ℕ) (v : Hand) → 0 < v.parts → Takes Balanced port v 1 (Drawn v)
steals port v part xs items views _ _ r at = (hand v.parts v.dealt (v.taken ++ xs), drawn port v xs items views part r at, refl)

pub finds : (port : ℕ) (v : Hand) → Finds Balanced port v (AllTaken v)
finds port v views r at all h = let a = alone port v [] views all r at h in omega arith

pub puts : (port : ℕ) (v : Hand) (xs : List ℕ) → 0 < v.parts → Pushes Balanced port v xs (Put v xs)
puts port v xs part items views r at = let w = hand v.parts (v.dealt ++ xs) v.taken in (
  w,
  record {
    parts = (let s = sum_set (λ u. u.parts) views port v w at in let p = r.parts in omega arith);
    jobs = λ h.
        let s = sum_set (λ u. sum_by h u.dealt) views port v w at in
        let t = sum_set (λ u. sum_by h u.taken) views port v w at in
        let p = r.jobs h in
        omega (arith, sum_by-append h v.dealt xs, sum_by-append h items xs);
    idle = idle_set views port w (λ none. absurd (omega arith)) r.idle;
  },
  refl,
)

pub forks : (port : ℕ) (v : Hand) → 1 < v.parts → Forks Balanced port v (keeps_rest v) (one_part v)
forks port v parts items views r at = let a = keeps_rest v in let b = one_part v in let vs = set views port a in record {
  parts = (let s = sum_set (λ u. u.parts) views port v a at in let t = sum_by_push (λ (u : Hand). u.parts) vs b in let p = r.parts in omega arith);
  jobs = λ h.
      let s = sum_set (λ u. sum_by h u.dealt) views port v a at in
      let t = sum_set (λ u. sum_by h u.taken) views port v a at in
      let s' = sum_by_push (λ (u : Hand). sum_by h u.dealt) vs b in
      let t' = sum_by_push (λ (u : Hand). sum_by h u.taken) vs b in
      let p = r.jobs h in
      omega arith;
  idle = λ j u e none. ⊎_elim
      (λ was. idle_set views port a (λ none'. absurd (omega arith)) r.idle j u was none)
      (λ (is : b ≡ u). let p : 1 ≡ u.parts = ap (λ (y : Hand). y.parts) is in absurd (omega arith))
      (at_snoc vs b u j e);
}

pub joins : (port : ℕ) (v : Hand) (other : ℕ) (w : Hand) → 0 < v.parts → Merges Balanced port v other w (both v w) (hand 0 [] [])
joins port v other w part items views r at apart at' = let b = both v w in let vs = set views port b in let z = hand 0 [] [] in record {
  parts = (let s = sum_set (λ u. u.parts) views port v b at in let t = sum_set (λ u. u.parts) vs other w z at' in let p = r.parts in omega arith);
  jobs = λ h.
      let s = sum_set (λ u. sum_by h u.dealt) views port v b at in
      let s' = sum_set (λ u. sum_by h u.dealt) vs other w z at' in
      let t = sum_set (λ u. sum_by h u.taken) views port v b at in
      let t' = sum_set (λ u. sum_by h u.taken) vs other w z at' in
      let p = r.jobs h in
      omega (arith, sum_by-append h v.dealt w.dealt, sum_by-append h v.taken w.taken);
  idle = idle_set vs other z (λ _. (refl, refl)) (idle_set views port b (λ none. absurd (omega arith)) r.idle);
}

pub begins : Balanced [] (hand whole [] [] ∷ [])
begins = record { parts = refl; jobs = λ h. refl; idle = λ j u e none. at_first j u e none }
  where
    at_first : (j : ℕ) (u : Hand) → get_elem? (hand whole [] [] ∷ []) j ≡ some u → u.parts ≡ 0 → (u.dealt ≡ []) × (u.taken ≡ [])
    at_first zero u e none = let p : whole ≡ u.parts = ap (λ (y : Hand). y.parts) (some-injective (hand whole [] []) u e) in absurd (omega arith)
    at_first (suc j) u e none = absurd (some-ne-none u (sym e))

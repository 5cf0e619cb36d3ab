-- Logs that are one job longer.
use Rattle.std.proofs.Common.{ℕ, List, [], ◌∷◌, ◌++◌, Option, None, Some, sym, ap, ◌∙◌, subst, append-nil}
use Rattle.join_law.specs.Laws.{JoinLaws}
use Rattle.join_law.specs.JoinOf.{IsJoinOf}
use Rattle.join_law.proofs.JoinLemmas.{IsJoinOf-one, IsJoinOf-append}
use Rattle.worker_pool.specs.Results.{AreResults, AllResultsKin, IsSumOf}

module _ {J N : Type 0} (gives : ℕ → J → Type 0) where
  pub results_push : (es : List (ℕ × Option N)) (rs : List J) (k : ℕ) (n : N) (r : J) → AreResults gives es rs → gives k r → AreResults gives (es ++ (k, Some n) ∷ []) (rs ++ r ∷ [])
  results_push [] [] k n r h g = (g, tt)
  results_push [] (s ∷ rs) k n r h g = absurd h
  results_push ((j, None) ∷ es) rs k n r h g = results_push es rs k n r h g
  results_push ((j, Some m) ∷ es) [] k n r h g = absurd h
  results_push ((j, Some m) ∷ es) (s ∷ rs) k n r h g = (h.0, results_push es rs k n r h.1 g)

  pub results_refused : (es : List (ℕ × Option N)) (rs : List J) (k : ℕ) → AreResults gives es rs → AreResults gives (es ++ (k, None) ∷ []) rs
  results_refused [] [] k h = tt
  results_refused [] (s ∷ rs) k h = absurd h
  results_refused ((j, None) ∷ es) rs k h = results_refused es rs k h
  results_refused ((j, Some m) ∷ es) [] k h = absurd h
  results_refused ((j, Some m) ∷ es) (s ∷ rs) k h = (h.0, results_refused es rs k h.1)

  pub results_append : (es fs : List (ℕ × Option N)) (rs ss : List J) → AreResults gives es rs → AreResults gives fs ss → AreResults gives (es ++ fs) (rs ++ ss)
  results_append [] fs [] ss h g = g
  results_append [] fs (s ∷ rs) ss h g = absurd h
  results_append ((j, None) ∷ es) fs rs ss h g = results_append es fs rs ss h g
  results_append ((j, Some m) ∷ es) fs [] ss h g = absurd h
  results_append ((j, Some m) ∷ es) fs (s ∷ rs) ss h g = (h.0, results_append es fs rs ss h.1 g)

module _ {J : Type 0} {is_kin : J → J → Type 0} {joined : J → J → J} (laws : JoinLaws is_kin joined) (gives : ℕ → J → Type 0) (kin : AllResultsKin gives is_kin) where
  -- a total is kin to each result
  pub total_kin : (rs : List J) (total r : J) (k : ℕ) → IsSumOf gives is_kin joined rs (Some total) → gives k r → is_kin total r
  total_kin rs total r k h g = let some = h.1 in laws.kin_along total some.1 r (laws.kin_back some.1 total some.3) (kin some.0 k some.1 r some.2 g)

  pub sum_first : (rs : List J) (r : J) (k : ℕ) → gives k r → IsSumOf gives is_kin joined rs None → IsSumOf gives is_kin joined (rs ++ r ∷ []) (Some r)
  sum_first rs r k g none = (subst (λ (xs : List J). IsJoinOf is_kin joined (xs ++ r ∷ []) r) (sym none) (IsJoinOf-one laws r), (k, r, g, laws.kin_self r))

  pub sum_more : (rs : List J) (total r : J) (k : ℕ) → gives k r → IsSumOf gives is_kin joined rs (Some total) → IsSumOf gives is_kin joined (rs ++ r ∷ []) (Some (joined total r))
  sum_more rs total r k g h = let near = total_kin rs total r k h g in let some = h.1 in (
    IsJoinOf-append laws rs (r ∷ []) total r near h.0 (IsJoinOf-one laws r),
    (some.0, some.1, some.2, laws.kin_along some.1 total (joined total r) some.3 (laws.kin_joined total r near)),
  )

module _ {J : Type 0} {is_kin : J → J → Type 0} {joined : J → J → J} (laws : JoinLaws is_kin joined) (gives : ℕ → J → Type 0) where
  -- a total that is kin to each result is kin to a join of results
  pub sum_kin : (rs : List J) (total sum : J) → ((k : ℕ) (r : J) → gives k r → is_kin total r) → IsSumOf gives is_kin joined rs (Some sum) → is_kin total sum
  sum_kin rs total sum kin h = let some = h.1 in laws.kin_along total some.1 sum (kin some.0 some.1 some.2) some.3

  pub sum_none : (before rs : List J) (total : J) → IsJoinOf is_kin joined before total → IsSumOf gives is_kin joined rs None → IsJoinOf is_kin joined (before ++ rs) total
  sum_none before rs total is none = subst (λ (xs : List J). IsJoinOf is_kin joined xs total) (sym (append-nil before) ∙ ap (λ (xs : List J). before ++ xs) (sym none)) is

  pub sum_joined : (before rs : List J) (total sum : J) → ((k : ℕ) (r : J) → gives k r → is_kin total r) → IsJoinOf is_kin joined before total → IsSumOf gives is_kin joined rs (Some sum) → IsJoinOf is_kin joined (before ++ rs) (joined total sum)
  sum_joined before rs total sum kin is h = IsJoinOf-append laws before rs total sum (sum_kin rs total sum kin h) is h.0

  pub joined_kin : (total sum r : J) → is_kin total sum → is_kin total r → is_kin (joined total sum) r
  joined_kin total sum r near kin = laws.kin_along (joined total sum) total r (laws.kin_back total (joined total sum) (laws.kin_joined total sum near)) kin

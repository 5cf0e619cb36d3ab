-- States that go on along a list.
use Rattle.std.proofs.Common.{◌≡◌, ℕ, zero, suc, ◌<◌, List, [], ◌∷◌, ◌++◌, length, get_or, arith, refl, sym, ◌∙◌, subst}
use Rattle.lawful_cycle.specs.Steps.{GoesBy}

-- one list after another
pub goes_on : {X S : Type 0} (R : X → S → S → Type 0) (xs ys : List X) (s u t : S) → GoesBy R xs s u → GoesBy R ys u t → GoesBy R (xs ++ ys) s t
goes_on R [] ys s u t a b = subst (λ r. GoesBy R ys r t) a b
goes_on R (x ∷ xs) ys s u t a b = (a.0, a.1, goes_on R xs ys a.0 u t a.2 b)

-- one more
pub goes_once : {X S : Type 0} (R : X → S → S → Type 0) (xs : List X) (x : X) (s u t : S) → GoesBy R xs s u → R x u t → GoesBy R (xs ++ x ∷ []) s t
goes_once R xs x s u t a b = goes_on R xs (x ∷ []) s u t a (t, b, refl)

-- where each decides the state after it, they all do
pub goes_one : {X S : Type 0} (R : X → S → S → Type 0) → ((x : X) (s t u : S) → R x s t → R x s u → t ≡ u) → (xs : List X) (s t u : S) → GoesBy R xs s t → GoesBy R xs s u → t ≡ u
goes_one R one [] s t u a b = a ∙ sym b
goes_one R one (x ∷ xs) s t u a b = goes_one R one xs a.0 t u a.2 (subst (λ r. GoesBy R xs r u) (sym (one x s a.0 b.0 a.1 b.1)) b.2)

-- ---- by places

-- the state before the one at a place
pub state_at : {X S : Type 0} (R : X → S → S → Type 0) (xs : List X) (s t : S) → GoesBy R xs s t → ℕ → S
state_at R [] s t h j = s
state_at R (x ∷ xs) s t h zero = s
state_at R (x ∷ xs) s t h (suc j) = state_at R xs h.0 t h.2 j

pub state_first : {X S : Type 0} (R : X → S → S → Type 0) (xs : List X) (s t : S) (h : GoesBy R xs s t) → state_at R xs s t h 0 ≡ s
unfolding state_at
state_first R [] s t h = refl
state_first R (x ∷ xs) s t h = refl

pub state_last : {X S : Type 0} (R : X → S → S → Type 0) (xs : List X) (s t : S) (h : GoesBy R xs s t) → state_at R xs s t h (length xs) ≡ t
unfolding state_at
state_last R [] s t h = sym h
state_last R (x ∷ xs) s t h = state_last R xs h.0 t h.2

pub step_at : {X S : Type 0} (R : X → S → S → Type 0) (xs : List X) (s t : S) (h : GoesBy R xs s t) (j : ℕ) (d : X) → j < length xs → R (get_or xs j d) (state_at R xs s t h j) (state_at R xs s t h (suc j))
unfolding state_at
step_at R [] s t h j d lt = absurd (omega (arith, lt))
step_at R (x ∷ xs) s t h zero d lt = subst (λ u. R x s u) (sym (state_first R xs h.0 t h.2)) h.1
step_at R (x ∷ xs) s t h (suc j) d lt = step_at R xs h.0 t h.2 j d (omega (arith, lt))

pub goes_split : {X S : Type 0} (R : X → S → S → Type 0) (xs ys : List X) (s t : S) → GoesBy R (xs ++ ys) s t → (u : S) × GoesBy R xs s u × GoesBy R ys u t
goes_split R [] ys s t h = (s, refl, h)
goes_split R (x ∷ xs) ys s t h = let r = goes_split R xs ys h.0 t h.2 in (r.0, (h.0, h.1, r.1), r.2)

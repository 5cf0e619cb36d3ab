-- The contexts have their part, one after another.
use Rattle.std.proofs.Common.{◌≡◌, ℕ, zero, suc, ◌+◌, ◌<◌, ◌≤◌, List, [], ◌∷◌, length, get_or, map, refl, sym, ap, ◌∙◌, arith, add-one}
use Rattle.std.specs.Prelude.{set}
use Rattle.core_view.specs.View.{Context}
use Rattle.core_back.specs.Machine.{Machine, IsAlike, no_context, context_at, with_context, with_contexts, completed_context}

-- the first k contexts have had their part
abbrev pub mapped : (Context → Context) → ℕ → List Context → List Context
mapped f zero xs = xs
mapped f (suc k) [] = []
mapped f (suc k) (x ∷ xs) = f x ∷ mapped f k xs

mapped_step : (f : Context → Context) (k : ℕ) (xs : List Context) → set (mapped f k xs) k (f (get_or (mapped f k xs) k no_context)) ≡ mapped f (suc k) xs
mapped_step f zero [] = refl
mapped_step f zero (x ∷ xs) = refl
mapped_step f (suc k) [] = refl
mapped_step f (suc k) (x ∷ xs) = ap (λ ys. f x ∷ ys) (mapped_step f k xs)

pub mapped_all : (f : Context → Context) (k : ℕ) (xs : List Context) → length xs ≤ k → mapped f k xs ≡ map f xs
mapped_all f zero [] le = refl
mapped_all f zero (x ∷ xs) le = absurd (omega arith)
mapped_all f (suc k) [] le = refl
mapped_all f (suc k) (x ∷ xs) le = ap (λ ys. f x ∷ ys) (mapped_all f k xs (omega arith))

mapped_target : (cycle k : ℕ) (xs : List Context) (d : ℕ) → (get_or (mapped (completed_context cycle) k xs) d no_context).target ≡ (get_or xs d no_context).target
mapped_target cycle zero xs d = refl
mapped_target cycle (suc k) [] d = refl
mapped_target cycle (suc k) (x ∷ xs) zero = refl
mapped_target cycle (suc k) (x ∷ xs) (suc d) = mapped_target cycle k xs d

pub mapped_length : (f : Context → Context) (k : ℕ) (xs : List Context) → length (mapped f k xs) ≡ length xs
mapped_length f zero xs = refl
mapped_length f (suc k) [] = refl
mapped_length f (suc k) (x ∷ xs) = ap suc (mapped_length f k xs)

pub mapped_alike : (m n : Machine) (k : ℕ) → n ≡ with_contexts m (mapped (completed_context m.view.cycle) k m.view.contexts) → IsAlike m n
mapped_alike m n k e =
    record {
      origin = ap (λ (q : Machine). q.origin) e;
      profile = ap (λ (q : Machine). q.view.profile) e;
      cycle = ap (λ (q : Machine). q.view.cycle) e;
      room = ap (λ (q : Machine). q.fetch_room) e;
      targets = λ d lt. ap (λ (q : Machine). (context_at q d).target) e ∙ mapped_target m.view.cycle k m.view.contexts d;
    }

pub mapped_next : (m n u : Machine) (k : ℕ) → n ≡ with_contexts m (mapped (completed_context m.view.cycle) k m.view.contexts) → u ≡ with_context n k (completed_context n.view.cycle (context_at n k))
    → u ≡ with_contexts m (mapped (completed_context m.view.cycle) (k + 1) m.view.contexts)
mapped_next m n u k e f =
    f ∙ ap (λ (q : Machine). with_context q k (completed_context q.view.cycle (context_at q k))) e ∙ ap (with_contexts m) (mapped_step (completed_context m.view.cycle) k m.view.contexts)
    ∙ ap (λ j. with_contexts m (mapped (completed_context m.view.cycle) j m.view.contexts)) (sym (add-one k))

-- the eight contexts in order
pub nth_context : (i d : ℕ) → i < 8 → get_or (0 ∷ 1 ∷ 2 ∷ 3 ∷ 4 ∷ 5 ∷ 6 ∷ 7 ∷ []) i d ≡ i
nth_context zero d lt = refl
nth_context (suc zero) d lt = refl
nth_context (suc (suc zero)) d lt = refl
nth_context (suc (suc (suc zero))) d lt = refl
nth_context (suc (suc (suc (suc zero)))) d lt = refl
nth_context (suc (suc (suc (suc (suc zero))))) d lt = refl
nth_context (suc (suc (suc (suc (suc (suc zero)))))) d lt = refl
nth_context (suc (suc (suc (suc (suc (suc (suc zero))))))) d lt = refl
nth_context (suc (suc (suc (suc (suc (suc (suc (suc i)))))))) d lt = absurd (omega arith)

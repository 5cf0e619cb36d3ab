-- What seats tell, turn by turn.
use Rattle.std.proofs.Common.{◌≡◌, ℕ, zero, suc, ◌+◌, List, [], ◌∷◌, ◌++◌, Option, length, refl, sym, ap, ◌∙◌, subst, arith, append_assoc, append-nil}
use Rattle.std.specs.List.{sum_by}
use Rattle.std.proofs.lemmas.List.Sums.{sum_by-cons, sum_by-append}
use Rattle.worker_pool.specs.Numbers.{ended, jobs_of, numbers}
use Rattle.worker_pool.specs.Turns.{Each}
use Rattle.worker_pool.specs.Seats.{AreNewRuns}

pub new_runs_push : {S N : Type 0} (runs_of : S → List (ℕ × Option N)) (bs ss : List S) (b s : S) (runs news : List (ℕ × Option N)) → AreNewRuns runs_of bs ss runs → runs_of s ≡ runs_of b ++ news → AreNewRuns runs_of (bs ++ b ∷ []) (ss ++ s ∷ []) (runs ++ news)
new_runs_push {S} {N} runs_of [] [] b s runs news h e = (news, [], e, ap (λ (l : List (ℕ × Option N)). l ++ news) h ∙ sym (append-nil news), refl)
new_runs_push runs_of [] (t ∷ ss) b s runs news h e = absurd h
new_runs_push runs_of (c ∷ bs) [] b s runs news h e = absurd h
new_runs_push {S} {N} runs_of (c ∷ bs) (t ∷ ss) b s runs news h e = (h.0, h.1 ++ news, h.2, ap (λ (l : List (ℕ × Option N)). l ++ news) h.3 ∙ append_assoc h.0 h.1 news, new_runs_push runs_of bs ss b s h.1 news h.4 e)

module _ {S T N : Type 0} (runs_of : S → List (ℕ × Option N)) (R : S → T → Type 0) (before : List S) where
  -- some seats runs, and the others' turns are left
  abbrev pub SoFar : List S → List (ℕ × Option N) → List T → Type 0
  SoFar seats ends turns = (done : List S) × (rest : List S) × (done ++ rest ≡ before) × AreNewRuns runs_of done seats ends × Each R rest turns

  pub so_far_begins : (turns turns' : List T) (seats : List S) (ends : List (ℕ × Option N)) → seats ≡ [] → ends ≡ [] → turns' ≡ turns → Each R before turns → SoFar seats ends turns'
  so_far_begins turns turns' seats ends e f same h = subst (λ (z : List S × (List (ℕ × Option N) × List T)). SoFar z.0 z.1.0 z.1.1) (λ i. (sym e i, (sym f i, sym same i))) ([], before, refl, refl, h)

  next : (done rest seats : List S) (ends news : List (ℕ × Option N)) (turns' : List T) (turn : T) (s : S) → done ++ rest ≡ before → AreNewRuns runs_of done seats ends → Each R rest (turn ∷ turns') → ((b : S) → R b turn → runs_of s ≡ runs_of b ++ news) → SoFar (seats ++ s ∷ []) (ends ++ news) turns'
  next done [] seats ends news turns' turn s e runs each f = absurd each
  next done (b ∷ rest) seats ends news turns' turn s e runs each f = (done ++ b ∷ [], rest, append_assoc done (b ∷ []) rest ∙ e, new_runs_push runs_of done seats b s ends news runs (f b each.0), each.1)

  pub so_far_next : (seats seats' : List S) (ends ends' news : List (ℕ × Option N)) (turns turns' : List T) (turn : T) (s : S) → turns ≡ turn ∷ turns' → seats' ≡ seats ++ s ∷ [] → ends' ≡ ends ++ news → ((b : S) → R b turn → runs_of s ≡ runs_of b ++ news) → SoFar seats ends turns → SoFar seats' ends' turns'
  so_far_next seats seats' ends ends' news turns turns' turn s e f k runs_are h = subst (λ (z : List S × List (ℕ × Option N)). SoFar z.0 z.1 turns') (λ i. (sym f i, sym k i))
      (next h.0 h.1 seats ends news turns' turn s h.2 h.3 (subst (Each R h.1) e h.4) runs_are)

  none_left : (rest : List S) → Each R rest [] → rest ≡ []
  none_left [] h = refl
  none_left (b ∷ rest) h = absurd h

  pub so_far_ends : (seats : List S) (ends : List (ℕ × Option N)) (turns : List T) → turns ≡ [] → SoFar seats ends turns → AreNewRuns runs_of before seats ends
  so_far_ends seats ends turns e h = subst (λ (bs : List S). AreNewRuns runs_of bs seats ends) (sym (append-nil h.0) ∙ (ap (λ (l : List S). h.0 ++ l) (sym (none_left h.1 (subst (Each R h.1) e h.4))) ∙ h.2)) h.3

pub ended-jobs : {N : Type 0} (h : ℕ → ℕ) (ends : List (ℕ × Option N)) → ended h ends ≡ sum_by h (jobs_of ends)
ended-jobs h [] = refl
ended-jobs {N} h (e ∷ es) = let r = ended-jobs h es in let a = sum_by-cons (λ (x : ℕ × Option N). h x.0) e es in let b = sum_by-cons h e.0 (jobs_of es) in omega arith

-- the weight of jobs that ended and others
pub ended_more : {N : Type 0} (h : ℕ → ℕ) (es es' : List (ℕ × Option N)) (left : List ℕ) → jobs_of es' ≡ jobs_of es ++ left → ended h es' ≡ ended h es + sum_by h left
ended_more h es es' left e = let a = ended-jobs h es in let b = ended-jobs h es' in let c = ap (sum_by h) e in let d = sum_by-append h (jobs_of es) left in omega arith

pub sum_ones : (xs : List ℕ) → sum_by (λ _. 1) xs ≡ length xs
sum_ones [] = refl
sum_ones (x ∷ xs) = let r = sum_ones xs in let a = sum_by-cons (λ (_ : ℕ). 1) x xs in omega arith

pub length-numbers : (a n : ℕ) → length (numbers a n) ≡ n
length-numbers a zero = refl
length-numbers a (suc n) = ap suc (length-numbers (suc a) n)

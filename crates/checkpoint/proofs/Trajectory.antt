-- Instructions one after another, and two runs from one state: the longer is the run of the greater count.
use Rattle.std.proofs.Common.{◌≡◌, ℕ, zero, suc, ◌+◌, ◌<◌, ◌≤◌, max, ◌⊎◌, ⊎_elim, Option, Some, None, Err, ap, sym, ◌∙◌, arith, option_and_then, add-zero, add-suc}
use Rattle.std.specs.Result.{result_ok}
use Rattle.hart_step.specs.Next.{next, next_state, after, Ran}
use Rattle.hart_step.specs.State.{State}
use Rattle.hart_step.specs.declared.stop.Stop.{Stop}

-- k instructions after m instructions are m + k instructions
pub after-+ : (m k : ℕ) (s t : State) → after m s ≡ Some t → after (m + k) s ≡ after k t
after-+ m zero s t reached = rw add-zero reached
after-+ m (suc k) s t reached = rw add-suc (ap (option_and_then next_state) (after-+ m k s t reached))

same_or_less : (k j : ℕ) → k ≤ j → (k ≡ j) ⊎ (k < j)
same_or_less k j h = grind arith

order : (k j : ℕ) → (k ≤ j) ⊎ (j < k)
order k j = grind arith

-- after a stop there is no state
pub after_stop : (k j : ℕ) (s t : State) (why : Stop) → after k s ≡ Some t → next t ≡ Err why → k < j → after j s ≡ None
after_stop k zero s t why here stops below = absurd (omega arith)
after_stop k (suc j) s t why here stops below =
    ⊎_elim
    (λ (same : k ≡ j). ap (option_and_then next_state) (rw same at here) ∙ ap result_ok stops)
    (λ (less : k < j). ap (option_and_then next_state) (after_stop k j s t why here stops less))
    (same_or_less k j (omega arith))

-- where the run of the greater count ended first, the other one ended at the same stop
stopped_longer : (n m : ℕ) (s : State) (k j : ℕ) (p q : Option Stop) (t u : State) → k ≤ j → m < n → Ran n s k p t → Ran m s j q u → (why : Option Stop) × Ran n s j why u
stopped_longer n m s k j None q t u below less a b = absurd (omega (arith, a.stopped, b.within))
stopped_longer n m s k j (Some why) q t u below less a b =
    ⊎_elim
    (λ (same : k ≡ j).
    let here : after j s ≡ Some t = rw same at a.reached in
    let one : t ≡ u = cc (here, b.reached) in
    (Some why, record { within = omega (arith, b.within); reached = b.reached; stopped = (omega (arith, b.within), ap next (sym one) ∙ a.stopped.1) }))
    (λ (past : k < j). let none = after_stop k j s t why a.reached a.stopped.1 past in absurd (cc (none, b.reached)))
    (same_or_less k j below)

-- the longer of two runs is the run of the greater count
longer : (n m : ℕ) (s : State) (k j : ℕ) (p q : Option Stop) (t u : State) → k ≤ j → Ran n s k p t → Ran m s j q u → (why : Option Stop) × Ran (max n m) s j why u
longer n m s k j p q t u below a b =
    ⊎_elim
    (λ (h : n ≤ m). let e : max n m ≡ m = omega arith in rw e (q, b))
    (λ (h : m < n). let e : max n m ≡ n = omega arith in rw e (stopped_longer n m s k j p q t u below h a b))
    (order n m)

pub Ran-max : (n m : ℕ) (s : State) (k j : ℕ) (p q : Option Stop) (t u : State) → Ran n s k p t → Ran m s j q u → (why : Option Stop) × (v : State) × Ran (max n m) s (max k j) why v
Ran-max n m s k j p q t u a b =
    ⊎_elim
    (λ (h : k ≤ j). let e : max k j ≡ j = omega arith in let r = longer n m s k j p q t u h a b in rw e (r.0, u, r.1))
    (λ (h : j < k). let e : max k j ≡ k = omega arith in let f : max n m ≡ max m n = omega arith in let r = longer m n s j k q p u t (omega arith) b a in rw (e, f) (r.0, t, r.1))
    (order k j)

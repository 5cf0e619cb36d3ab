-- What waits for issue, counted over the flights of all contexts.
use Rattle.std.proofs.Common.{◌≡◌, ◌≢◌, ℕ, zero, suc, ◌+◌, ◌<◌, ◌≤◌, Bool, true, false, ◌&&◌, cond, min, List, [], ◌∷◌, length, map, Option, Some, None, refl, sym, ap, ◌∙◌, arith}
use Rattle.std.specs.Prelude.{All, ◌==◌, nat_lt, filter, find, count_by, sum_by}
use Rattle.std.specs.List.{fold, reduce}
use Rattle.std.specs.Option.{option_map}
use Rattle.std.proofs.lemmas.Bool.{eq-eqb, ne_eqb}
use Rattle.std.proofs.lemmas.List.Sums.{sum_by-cons, length-filter}
use Rattle.std.proofs.lemmas.List.Elements.{All-head, All-tail}
use Rattle.core_view.specs.declared.entry.Entry.{Entry}
use Rattle.core_view.specs.Flight.{IsGrowing, is_queued}
use Rattle.core_view.specs.Operations.{is_guessed}
use Rattle.issue_queue.specs.Stamps.{stamps_of}
use Rattle.data_flow.specs.Flow.{Flow, Lane, Waiter, queued_waiter, queued}
use Rattle.lawful_cycle.specs.Views.{eight}
use Rattle.core_context.specs.Queued.{unheld, waiting_of, waiter_for}
use Rattle.core_context.specs.Cores.{is_waiting, waiters_of}

-- ---- sums over the eight contexts

pub sum_eight : (f : ℕ → ℕ) → sum_by f eight ≡ 0 + f 0 + f 1 + f 2 + f 3 + f 4 + f 5 + f 6 + f 7
sum_eight f = refl

pub sum_eight_same : (f g : ℕ → ℕ) → ((c : ℕ) → c < 8 → f c ≡ g c) → sum_by f eight ≡ sum_by g eight
sum_eight_same f g same = rw (same 0 (omega arith), same 1 (omega arith), same 2 (omega arith), same 3 (omega arith), same 4 (omega arith), same 5 (omega arith), same 6 (omega arith), same 7 (omega arith)) refl

-- one of them is more
pub sum_eight_more : (f g : ℕ → ℕ) (k n : ℕ) → k < 8 → g k ≡ n + f k → ((d : ℕ) → d ≢ k → g d ≡ f d) → sum_by g eight ≡ n + sum_by f eight
sum_eight_more f g k n lt here others = by_place k lt here others
  where
    by_place : (k : ℕ) → k < 8 → g k ≡ n + f k → ((d : ℕ) → d ≢ k → g d ≡ f d) → sum_by g eight ≡ n + sum_by f eight
    by_place zero lt h o = omega (arith, h, o 1 (omega arith), o 2 (omega arith), o 3 (omega arith), o 4 (omega arith), o 5 (omega arith), o 6 (omega arith), o 7 (omega arith), sum_eight f, sum_eight g)
    by_place (suc zero) lt h o = omega (arith, h, o 0 (omega arith), o 2 (omega arith), o 3 (omega arith), o 4 (omega arith), o 5 (omega arith), o 6 (omega arith), o 7 (omega arith), sum_eight f, sum_eight g)
    by_place (suc (suc zero)) lt h o = omega (arith, h, o 0 (omega arith), o 1 (omega arith), o 3 (omega arith), o 4 (omega arith), o 5 (omega arith), o 6 (omega arith), o 7 (omega arith), sum_eight f, sum_eight g)
    by_place (suc (suc (suc zero))) lt h o = omega (arith, h, o 0 (omega arith), o 1 (omega arith), o 2 (omega arith), o 4 (omega arith), o 5 (omega arith), o 6 (omega arith), o 7 (omega arith), sum_eight f, sum_eight g)
    by_place (suc (suc (suc (suc zero)))) lt h o = omega (arith, h, o 0 (omega arith), o 1 (omega arith), o 2 (omega arith), o 3 (omega arith), o 5 (omega arith), o 6 (omega arith), o 7 (omega arith), sum_eight f, sum_eight g)
    by_place (suc (suc (suc (suc (suc zero))))) lt h o = omega (arith, h, o 0 (omega arith), o 1 (omega arith), o 2 (omega arith), o 3 (omega arith), o 4 (omega arith), o 6 (omega arith), o 7 (omega arith), sum_eight f, sum_eight g)
    by_place (suc (suc (suc (suc (suc (suc zero)))))) lt h o = omega (arith, h, o 0 (omega arith), o 1 (omega arith), o 2 (omega arith), o 3 (omega arith), o 4 (omega arith), o 5 (omega arith), o 7 (omega arith), sum_eight f, sum_eight g)
    by_place (suc (suc (suc (suc (suc (suc (suc zero))))))) lt h o = omega (arith, h, o 0 (omega arith), o 1 (omega arith), o 2 (omega arith), o 3 (omega arith), o 4 (omega arith), o 5 (omega arith), o 6 (omega arith), sum_eight f, sum_eight g)
    by_place (suc (suc (suc (suc (suc (suc (suc (suc k)))))))) lt h o = absurd (omega arith)

-- ---- counts

cons : {X : Type 0} (p : X → Bool) (x : X) (xs : List X) → count_by p (x ∷ xs) ≡ cond (p x) 1 0 + count_by p xs
cons p x xs = sum_by-cons (λ y. cond (p y) 1 0) x xs

pub count_same : {X : Type 0} (p q : X → Bool) → ((x : X) → p x ≡ q x) → (xs : List X) → count_by p xs ≡ count_by q xs
count_same p q same [] = refl
count_same p q same (x ∷ xs) = cons p x xs ∙ rw (same x, count_same p q same xs) (sym (cons q x xs))

count_map : {X Y : Type 0} (p : Y → Bool) (h : X → Y) (xs : List X) → count_by p (map h xs) ≡ count_by (λ x. p (h x)) xs
count_map p h [] = refl
count_map p h (x ∷ xs) = cons p (h x) (map h xs) ∙ ap (λ n. cond (p (h x)) 1 0 + n) (count_map p h xs) ∙ sym (cons (λ y. p (h y)) x xs)

-- those that pass two tests are counted among those that pass the first
count_both : {X : Type 0} (p q : X → Bool) (xs : List X) → count_by (λ x. p x && q x) xs ≡ count_by q (filter p xs)
count_both p q [] = refl
count_both p q (x ∷ xs) = cons (λ y. p y && q y) x xs ∙ go (p x) (count_both p q xs)
  where
    go : (b : Bool) → count_by (λ y. p y && q y) xs ≡ count_by q (filter p xs) → cond (b && q x) 1 0 + count_by (λ y. p y && q y) xs ≡ count_by q (cond b (x ∷ filter p xs) (filter p xs))
    go true ih = ap (λ n. cond (q x) 1 0 + n) ih ∙ sym (cons q x (filter p xs))
    go false ih = omega (arith, ih)

count_all : {X : Type 0} (xs : List X) → count_by (λ x. true) xs ≡ length xs
count_all [] = refl
count_all (x ∷ xs) = let one = cons (λ y. true) x xs in omega (arith, one, count_all xs)

-- ---- of one context

and_all : (b : Bool) → (b && true) ≡ b
and_all true = refl
and_all false = refl

-- a test that sees no mark counts the same of what waits and of what is queued
pub count_waiting : (q : Waiter → Bool) → ((w : Waiter) → q (unheld w) ≡ q w) → (f : Flow) (c : ℕ) (es : List Entry) → waiting_of f c ≡ waiters_of [] c es
    → count_by q (filter (λ w. w.context == c) f.waiters) ≡ count_by (λ e. is_queued e.stage && q (waiter_for c es e)) es
count_waiting q blind f c es tie =
    count_same q (λ w. q (unheld w)) (λ w. sym (blind w)) (filter (λ w. w.context == c) f.waiters)
    ∙ sym (count_map q unheld (filter (λ w. w.context == c) f.waiters)) ∙ ap (count_by q) tie
    ∙ count_map q (waiter_for c es) (filter (is_waiting [] c) es) ∙ sym (count_both (is_waiting [] c) (λ e. q (waiter_for c es e)) es)
    ∙ count_same (λ e. is_waiting [] c e && q (waiter_for c es e)) (λ e. is_queued e.stage && q (waiter_for c es e)) (λ e. ap (λ b. b && q (waiter_for c es e)) (and_all (is_queued e.stage))) es

pub waiting_number : (f : Flow) (c : ℕ) (es : List Entry) → waiting_of f c ≡ waiters_of [] c es → count_by (λ w. w.context == c) f.waiters ≡ count_by (λ e. is_queued e.stage) es
waiting_number f c es tie =
    sym (length-filter (λ w. w.context == c) f.waiters) ∙ sym (count_all (filter (λ w. w.context == c) f.waiters)) ∙ count_waiting (λ w. true) (λ w. refl) f c es tie
    ∙ count_same (λ e. is_queued e.stage && true) (λ e. is_queued e.stage) (λ e. and_all (is_queued e.stage)) es

pub waiting_guesses : (f : Flow) (c : ℕ) (es : List Entry) → waiting_of f c ≡ waiters_of [] c es → count_by (λ w. (w.context == c) && w.guessed) f.waiters ≡ count_by (λ e. is_queued e.stage && is_guessed e.operation) es
waiting_guesses f c es tie = count_both (λ w. w.context == c) (λ w. w.guessed) f.waiters ∙ count_waiting (λ w. w.guessed) (λ w. refl) f c es tie

-- ---- of all contexts

-- each waiter is of one of eight contexts
pub count_eight : (q : Waiter → Bool) (ws : List Waiter) → All (λ w. w.context < 8) ws → count_by q ws ≡ sum_by (λ c. count_by q (filter (λ w. w.context == c) ws)) eight
count_eight q [] all = refl
count_eight q (w ∷ ws) all =
    let lt : w.context < 8 = All-head (λ (v : Waiter). v.context < 8) w ws all in
    cons q w ws ∙ ap (λ n. cond (q w) 1 0 + n) (count_eight q ws (All-tail (λ (v : Waiter). v.context < 8) w ws all))
    ∙ sym (sum_eight_more (λ c. count_by q (filter (λ v. v.context == c) ws)) (λ c. count_by q (filter (λ v. v.context == c) (w ∷ ws))) w.context (cond (q w) 1 0) lt here other)
  where
    here : count_by q (filter (λ v. v.context == w.context) (w ∷ ws)) ≡ cond (q w) 1 0 + count_by q (filter (λ v. v.context == w.context) ws)
    here = rw (eq-eqb w.context w.context refl) (cons q w (filter (λ v. v.context == w.context) ws))

    other : (d : ℕ) → d ≢ w.context → count_by q (filter (λ v. v.context == d) (w ∷ ws)) ≡ count_by q (filter (λ v. v.context == d) ws)
    other d ne = rw (ne_eqb w.context d (λ same. ne (sym same))) refl

-- what waits with a stamp that passes a test is what is queued with one
pub count_stamps : (p : ℕ → Bool) (f : Flow) (flight : ℕ → List Entry) → All (λ w. w.context < 8) f.waiters → ((c : ℕ) → c < 8 → waiting_of f c ≡ waiters_of [] c (flight c))
    → count_by (λ w. p w.stamp) f.waiters ≡ sum_by (λ c. count_by (λ e. is_queued e.stage && p e.stamp) (flight c)) eight
count_stamps p f flight all ties =
    count_eight (λ w. p w.stamp) f.waiters all
    ∙ sum_eight_same (λ c. count_by (λ w. p w.stamp) (filter (λ w. w.context == c) f.waiters)) (λ c. count_by (λ e. is_queued e.stage && p e.stamp) (flight c))
    (λ c lt. count_waiting (λ w. p w.stamp) (λ w. refl) f c (flight c) (ties c lt))

-- as many wait as are queued
pub count_waiters : (f : Flow) (flight : ℕ → List Entry) → All (λ w. w.context < 8) f.waiters → ((c : ℕ) → c < 8 → waiting_of f c ≡ waiters_of [] c (flight c))
    → length f.waiters ≡ sum_by (λ c. count_by (λ e. is_queued e.stage) (flight c)) eight
count_waiters f flight all ties =
    sym (count_all f.waiters) ∙ count_stamps (λ k. true) f flight all ties
    ∙ sum_eight_same (λ c. count_by (λ e. is_queued e.stage && true) (flight c)) (λ c. count_by (λ e. is_queued e.stage) (flight c))
    (λ c lt. count_same (λ e. is_queued e.stage && true) (λ e. is_queued e.stage) (λ e. and_all (is_queued e.stage)) (flight c))

-- ---- the oldest that waits of a context

stamps_waiting : (ls : List Lane) (c : ℕ) (ws : List Waiter) → stamps_of c (map (queued_waiter ls) ws) ≡ map (λ w. w.stamp) (map unheld (filter (λ w. w.context == c) ws))
stamps_waiting ls c [] = refl
stamps_waiting ls c (w ∷ ws) = go (w.context == c) (stamps_waiting ls c ws)
  where
    go : (b : Bool) → stamps_of c (map (queued_waiter ls) ws) ≡ map (λ v. v.stamp) (map unheld (filter (λ v. v.context == c) ws))
        → map (λ e. e.stamp) (cond b (queued_waiter ls w ∷ filter (λ e. e.context == c) (map (queued_waiter ls) ws)) (filter (λ e. e.context == c) (map (queued_waiter ls) ws)))
        ≡ map (λ v. v.stamp) (map unheld (cond b (w ∷ filter (λ v. v.context == c) ws) (filter (λ v. v.context == c) ws)))
    go true ih = ap (λ ks. w.stamp ∷ ks) ih
    go false ih = ih

-- the stamps of a flight grow, so the first is the least
least_first : (low : ℕ) (c k : ℕ) (fs es : List Entry) → IsGrowing low es → k ≤ low → fold min k (map (λ w. w.stamp) (map (waiter_for c fs) (filter (is_waiting [] c) es))) ≡ k
least_first low c k fs [] g le = refl
least_first low c k fs (e ∷ es) g le =
    let from = g.0 in
    go (is_queued e.stage && true) (least_first (e.stamp + 1) c k fs es g.1 (omega (arith, le, from)))
  where
    rest : List ℕ
    rest = map (λ w. w.stamp) (map (waiter_for c fs) (filter (is_waiting [] c) es))

    go : (b : Bool) → fold min k rest ≡ k → fold min k (map (λ w. w.stamp) (map (waiter_for c fs) (cond b (e ∷ filter (is_waiting [] c) es) (filter (is_waiting [] c) es)))) ≡ k
    go true ih =
        let from = g.0 in
        let least : min k e.stamp ≡ k = omega (arith, le, from) in
        ap (λ a. fold min a rest) least ∙ ih
    go false ih = ih

least_stamp : (low : ℕ) (c : ℕ) (fs es : List Entry) → IsGrowing low es → reduce min (map (λ w. w.stamp) (map (waiter_for c fs) (filter (is_waiting [] c) es))) ≡ option_map (λ e. e.stamp) (find (λ e. is_queued e.stage) es)
least_stamp low c fs [] g = refl
least_stamp low c fs (e ∷ es) g = go (is_queued e.stage) (least_stamp (e.stamp + 1) c fs es g.1)
  where
    go : (b : Bool) → reduce min (map (λ w. w.stamp) (map (waiter_for c fs) (filter (is_waiting [] c) es))) ≡ option_map (λ x. x.stamp) (find (λ x. is_queued x.stage) es)
        → reduce min (map (λ w. w.stamp) (map (waiter_for c fs) (cond (b && true) (e ∷ filter (is_waiting [] c) es) (filter (is_waiting [] c) es)))) ≡ option_map (λ x. x.stamp) (cond b (Some e) (find (λ x. is_queued x.stage) es))
    go true ih = ap (λ k. Some k) (least_first (e.stamp + 1) c e.stamp fs es g.1 (omega arith))
    go false ih = ih

option_map_both : {X : Type 0} (h : X → ℕ) (g k : ℕ → ℕ) → ((n : ℕ) → g n ≡ k n) → (o : Option X) → option_map g (option_map h o) ≡ option_map (λ x. k (h x)) o
option_map_both h g k same None = refl
option_map_both h g k same (Some x) = ap (λ n. Some n) (same (h x))

-- how many are older than the oldest that waits of a context
pub oldest_waiting : (f : Flow) (flight : ℕ → List Entry) (c low : ℕ) → All (λ w. w.context < 8) f.waiters → ((d : ℕ) → d < 8 → waiting_of f d ≡ waiters_of [] d (flight d)) → c < 8 → IsGrowing low (flight c)
    → option_map (λ oldest. count_by (λ e. nat_lt e.stamp oldest) (queued f)) (reduce min (stamps_of c (queued f)))
    ≡ option_map (λ e. sum_by (λ d. count_by (λ x. is_queued x.stage && nat_lt x.stamp e.stamp) (flight d)) eight) (find (λ e. is_queued e.stage) (flight c))
oldest_waiting f flight c low all ties lt growing =
    ap (λ o. option_map (λ oldest. count_by (λ e. nat_lt e.stamp oldest) (queued f)) o)
    (ap (reduce min) (stamps_waiting f.lanes c f.waiters ∙ ap (map (λ w. w.stamp)) (ties c lt)) ∙ least_stamp low c (flight c) (flight c) growing)
    ∙ option_map_both (λ e. e.stamp) (λ oldest. count_by (λ e. nat_lt e.stamp oldest) (queued f)) (λ oldest. sum_by (λ d. count_by (λ x. is_queued x.stage && nat_lt x.stamp oldest) (flight d)) eight)
    (λ k. count_map (λ e. nat_lt e.stamp k) (queued_waiter f.lanes) f.waiters ∙ count_stamps (λ s. nat_lt s k) f flight all ties) (find (λ e. is_queued e.stage) (flight c))

-- A history that is one call longer.
use Rattle.std.proofs.Common.{◌≡◌, ◌≢◌, ℕ, ◌≤◌, max, Bool, true, false, cond, ◌&&◌, eqb, eq-eqb, ne_eqb, eqb-true, true≢false, OnOk, IfOk, Result, Ok, Err, List, [], ◌∷◌, ◌++◌, refl, sym, ap, ◌∙◌, arith}
use Rattle.checkpoint_book.specs.declared.call.Call.{Call}
use Rattle.checkpoint_book.specs.declared.call.Call.TheVariants.{Merge, Read}
use Rattle.checkpoint_book.specs.History.{best, by, greatest, is_legal, own}

pub best_merge : (n p k : ℕ) (cs : List Call) → best n (cs ++ Merge p k ∷ []) ≡ max (best n cs) k
best_merge n p k [] = refl
best_merge n p k (Merge q j ∷ cs) = best_merge (max n j) p k cs
best_merge n p k (Read q j ∷ cs) = best_merge n p k cs

pub best_read : (n p k : ℕ) (cs : List Call) → best n (cs ++ Read p k ∷ []) ≡ best n cs
best_read n p k [] = refl
best_read n p k (Merge q j ∷ cs) = best_read (max n j) p k cs
best_read n p k (Read q j ∷ cs) = best_read n p k cs

pub legal_merge : (n p k : ℕ) (cs : List Call) → is_legal n cs ≡ true → is_legal n (cs ++ Merge p k ∷ []) ≡ true
legal_merge n p k [] h = refl
legal_merge n p k (Merge q j ∷ cs) h = legal_merge (max n j) p k cs h
legal_merge n p k (Read q j ∷ cs) h = and_step (eqb j n) (is_legal n cs) _ (legal_merge n p k cs) h
  where
    and_step : (a b c : Bool) → (b ≡ true → c ≡ true) → (a && b) ≡ true → (a && c) ≡ true
    and_step true b c f h = f h
    and_step false b c f h = h

pub legal_read : (n p k : ℕ) (cs : List Call) → k ≡ best n cs → is_legal n cs ≡ true → is_legal n (cs ++ Read p k ∷ []) ≡ true
legal_read n p k [] e h = ap (λ b. b && true) (eq-eqb k n e)
legal_read n p k (Merge q j ∷ cs) e h = legal_read (max n j) p k cs e h
legal_read n p k (Read q j ∷ cs) e h = and_step (eqb j n) (is_legal n cs) _ (legal_read n p k cs e) h
  where
    and_step : (a b c : Bool) → (b ≡ true → c ≡ true) → (a && b) ≡ true → (a && c) ≡ true
    and_step true b c f h = f h
    and_step false b c f h = h

own_cons : (p : ℕ) (c : Call) (cs ds : List Call) → own p cs ≡ ds → own p (c ∷ cs) ≡ cond (eqb (by c) p) (c ∷ ds) ds
own_cons p c cs ds e = ap (λ l. cond (eqb (by c) p) (c ∷ l) l) e

pub own_mine : (p : ℕ) (cs : List Call) (c : Call) → by c ≡ p → own p (cs ++ c ∷ []) ≡ own p cs ++ c ∷ []
own_mine p [] c e = ap (λ b. cond b (c ∷ []) []) (eq-eqb (by c) p e)
own_mine p (d ∷ cs) c e = own_cons p d (cs ++ c ∷ []) (own p cs ++ c ∷ []) (own_mine p cs c e) ∙ pushed (eqb (by d) p)
  where
    pushed : (b : Bool) → cond b (d ∷ own p cs ++ c ∷ []) (own p cs ++ c ∷ []) ≡ cond b (d ∷ own p cs) (own p cs) ++ c ∷ []
    pushed true = refl
    pushed false = refl

pub own_else : (p : ℕ) (cs : List Call) (c : Call) → by c ≢ p → own p (cs ++ c ∷ []) ≡ own p cs
own_else p [] c ne = ap (λ b. cond b (c ∷ []) []) (ne_eqb (by c) p ne)
own_else p (d ∷ cs) c ne = own_cons p d (cs ++ c ∷ []) (own p cs) (own_else p cs c ne)

-- what a page says of its history
pub merged : (n p k count count' : ℕ) (h h' : List Call) → h' ≡ h ++ Merge p k ∷ [] → is_legal n h ≡ true → count ≡ best n h → count' ≡ max count k → (is_legal n h' ≡ true) × (count' ≡ best n h')
merged n p k count count' h h' is was now new = let b = best_merge n p k h in (
  ap (is_legal n) is ∙ legal_merge n p k h was,
  (omega arith ∙ sym b) ∙ ap (best n) (sym is),
)

pub was_read : (n p count : ℕ) (h h' : List Call) → h' ≡ h ++ Read p count ∷ [] → is_legal n h ≡ true → count ≡ best n h → (is_legal n h' ≡ true) × (count ≡ best n h')
was_read n p count h h' is was now = (
  ap (is_legal n) is ∙ legal_read n p count h now was,
  now ∙ (sym (best_read n p count h) ∙ ap (best n) (sym is)),
)

best_above : (n : ℕ) (cs : List Call) → n ≤ best n cs
best_above n [] = omega arith
best_above n (Merge p k ∷ cs) = let r = best_above (max n k) cs in omega arith
best_above n (Read p k ∷ cs) = best_above n cs

and_left : (a b : Bool) → (a && b) ≡ true → a ≡ true
and_left true b h = refl
and_left false b h = h

and_right : (a b : Bool) → (a && b) ≡ true → b ≡ true
and_right true b h = h
and_right false b h = absurd (true≢false (sym h))

most_below : (n : ℕ) (cs : List Call) → is_legal n cs ≡ true → greatest cs ≤ best n cs
most_below n [] h = omega arith
most_below n (Merge p k ∷ cs) h = let r = most_below (max n k) cs h in let b = best_above (max n k) cs in omega arith
most_below n (Read p k ∷ cs) h = let r = most_below n cs (and_right (eqb k n) (is_legal n cs) h) in let b = best_above n cs in let is : k ≡ n = eqb-true k n (and_left (eqb k n) (is_legal n cs) h) in omega arith

most_cons : (c : Call) (cs : List Call) → greatest cs ≤ greatest (c ∷ cs)
most_cons (Merge p k) cs = omega arith
most_cons (Read p k) cs = omega arith

most_grows : (c : Call) (cs ds : List Call) → greatest cs ≤ greatest ds → greatest (c ∷ cs) ≤ greatest (c ∷ ds)
most_grows (Merge p k) cs ds h = omega arith
most_grows (Read p k) cs ds h = omega arith

own_below_step : (b : Bool) (c : Call) (os cs : List Call) → greatest os ≤ greatest cs → greatest (cond b (c ∷ os) os) ≤ greatest (c ∷ cs)
own_below_step true c os cs h = most_grows c os cs h
own_below_step false c os cs h = let b = most_cons c cs in omega arith

own_below : (p : ℕ) (cs : List Call) → greatest (own p cs) ≤ greatest cs
own_below p [] = omega arith
own_below p (c ∷ cs) = own_below_step (eqb (by c) p) c (own p cs) cs (own_below p cs)

-- what a legal history leads to is at least the opening and all that one pass merged or read
pub reading_above : (n p : ℕ) (calls log : List Call) → is_legal n log ≡ true → calls ≡ own p log → (n ≤ best n log) × (greatest calls ≤ best n log)
reading_above n p calls log h is = (best_above n log, (let a = own_below p log in let b = most_below n log h in let e = ap greatest is in omega arith))

-- a pass's own calls of a history with one call more of its own
pub own_added : (p : ℕ) (log log' : List Call) (c : Call) (calls : List Call) → by c ≡ p → log' ≡ log ++ c ∷ [] → calls ≡ own p log → own p log' ≡ calls ++ c ∷ []
own_added p log log' c calls mine is was = ap (own p) is ∙ (own_mine p log c mine ∙ ap (λ l. l ++ c ∷ []) (sym was))

pub on_ok : {A E P Q : Type 0} (r : Result A E) → (P → Q) → OnOk r P → OnOk r Q
on_ok (Ok x) f h = f h
on_ok (Err e) f h = h

pub if_ok : {A E : Type 0} {P Q R : A → Type 0} (r : Result A E) → ((x : A) → P x → Q x → R x) → IfOk r P → IfOk r Q → IfOk r R
if_ok (Ok x) f h k = f x h k
if_ok (Err e) f h k = h

-- Each step keeps the rule.
use Rattle.std.proofs.Common.{◌≡◌, ◌≢◌, ◌⊎◌, ℕ, zero, suc, ◌+◌, ◌-◌, ◌<◌, ◌≤◌, max, List, [], ◌∷◌, ◌++◌, length, get_or, set, refl, sym, ap, ◌∙◌, subst, inl, inr, ⊎_elim, arith, length-set, get_or-set_same, get_or-set_other}
use mathlib.Core.Logic.{dite}
use mathlib.Core.Option.{some, some-injective, some-ne-none}
use native.Mathlib.Decide.{ℕ_discrete, dec_le}
use lib.ListN.{get_elem?}
use Rattle.atomic_table.specs.Table.{State, step, keeps, stepped, Allows, Enters, Splits, Joins, opening, Seen, Final}
use Rattle.atomic_table.proofs.Lists.{at_set, set_else, at_snoc, at_longer}
use Rattle.count_board.specs.declared.known.Known.{Known}
use Rattle.count_board.specs.declared.known.Start.{Start}
use Rattle.count_board.specs.Counts.{greatest_at}
use Rattle.count_board.specs.Views.{fresh, spent, rest, one, both, raise, look}
use Rattle.count_board.specs.GreatestCounts.{seat_count, IsRaised, IsWithin, HasGreatestCounts, SeatState, RaisesWord, SeesWord, StandsForNone}
use Rattle.count_board.proofs.Greatest.{greatest_at-append, greatest_at_here, greatest_at_else}

-- where every view but one is known
all_set : (F : ℕ → Known → Type 0) (views : List Known) (at : ℕ) (w : Known) → F at w → ((j : ℕ) (u : Known) → j ≢ at → get_elem? views j ≡ some u → F j u) → (j : ℕ) (u : Known) → get_elem? (set views at w) j ≡ some u → F j u
all_set F views at w mine others j u e = ⊎_elim (λ (x : (j ≡ at) × (w ≡ u)). subst (λ (y : ℕ × Known). F y.0 y.1) (λ i. (sym x.0 i, x.1 i)) mine)
    (λ (x : (j ≢ at) × (get_elem? views j ≡ some u)). others j u x.0 x.1) (at_set views at j w u e)

pub parts_set : (views : List Known) (at : ℕ) (v w : Known) → get_elem? views at ≡ some v → seat_count (set views at w) + v.parts ≡ seat_count views + w.parts
parts_set [] at v w e = absurd (some-ne-none v (sym e))
parts_set (x ∷ xs) zero v w e = let is : x.parts ≡ v.parts = ap (λ (y : Known). y.parts) (some-injective x v e) in omega arith
parts_set (x ∷ xs) (suc at) v w e = let r = parts_set xs at v w e in omega arith

pub parts_snoc : (views : List Known) (w : Known) → seat_count (views ++ w ∷ []) ≡ seat_count views + w.parts
parts_snoc [] w = omega arith
parts_snoc (x ∷ xs) w = let r = parts_snoc xs w in omega arith

there : (views : List Known) (at : ℕ) (v w : Known) → get_elem? views at ≡ some v → get_elem? (set views at w) at ≡ some w
there [] at v w e = absurd (some-ne-none v (sym e))
there (x ∷ xs) zero v w e = refl
there (x ∷ xs) (suc at) v w e = there xs at v w e

-- what a step at the word i asks of the view after it, where n was found and m is stored
record Goes (i n m : ℕ) (v w : Known) : Type 0 where
  more : n ≤ m
  parts : w.parts ≡ v.parts
  some_part : 0 < v.parts
  raises : (n ≡ m) ⊎ (greatest_at i w.raised ≡ m)
  grows : greatest_at i v.raised ≤ greatest_at i w.raised
  within : (greatest_at i w.raised ≤ m) × (greatest_at i w.seen ≤ m)
  others : (j : ℕ) → j ≢ i → (greatest_at j w.raised ≡ greatest_at j v.raised) × (greatest_at j w.seen ≡ greatest_at j v.seen)

moves : (key : Start) (s : State (Unit {0}) Known) (i m id : ℕ) (v w : Known) (c : List (ℕ × Unit {0})) → HasGreatestCounts key s → i < 8 → get_elem? s.views id ≡ some v → Goes i (get_or s.words i 0) m v w
    → HasGreatestCounts key (stepped s i m id c w keeps)
moves key s i m id v w c r inside at g =
    let wide = r.wide in
    let here : get_or (set s.words i m) i 0 ≡ m = get_or-set_same s.words i m 0 (omega arith) in
    let else : (j : ℕ) → j ≢ i → get_or (set s.words i m) j 0 ≡ get_or s.words j 0 = λ j. get_or-set_other s.words i j m 0 in
    let grown : (j : ℕ) → get_or s.words j 0 ≤ get_or (set s.words i m) j 0 =
    λ j. dite (ℕ_discrete j i) (λ e. subst (λ k. get_or s.words k 0 ≤ get_or (set s.words i m) k 0) (sym e) (let more = g.more in omega arith)) (λ ne. let e = else j ne in omega arith) in record {
      wide = length-set s.words i m ∙ r.wide;
      parts = let p = parts_set s.views id v w at in let q = g.parts in let old = r.parts in omega arith;
      opening = λ j l. let o = r.opening j l in let b = grown j in omega arith;
      reached = λ j l. dite (ℕ_discrete j i)
          (λ e. subst (λ k. (get_or (set s.words i m) k 0 ≡ get_or key.opening k 0) ⊎ IsRaised (set s.views id w) k (get_or (set s.words i m) k 0)) (sym e)
          (⊎_elim
          (λ same. ⊎_elim
          (λ (o : get_or s.words i 0 ≡ get_or key.opening i 0). inl (here ∙ (sym same ∙ o)))
          (λ (t : IsRaised s.views i (get_or s.words i 0)). inr (keep_raised i (get_or s.words i 0) (get_or (set s.words i m) i 0) (same ∙ sym here) t g.grows (let b = g.within.0 in omega arith)))
          (r.reached i inside))
          (λ raised. inr (id, w, there s.views id v w at, raised ∙ sym here))
          g.raises))
          (λ ne. ⊎_elim
          (λ (o : get_or s.words j 0 ≡ get_or key.opening j 0). inl (else j ne ∙ o))
          (λ (t : IsRaised s.views j (get_or s.words j 0)). inr (keep_raised j (get_or s.words j 0) (get_or (set s.words i m) j 0) (sym (else j ne)) t (let o = (g.others j ne).0 in omega arith)
          (let o = (g.others j ne).0 in let f = (r.within id v at).raised j in let e = else j ne in omega arith)))
          (r.reached j l));
      within = all_set (λ _ u. IsWithin (set s.words i m) u) s.views id w
          (record {
            idle = λ none. let p = g.parts in let q = g.some_part in absurd (omega arith);
            raised = λ j. dite (ℕ_discrete j i) (λ e. subst (λ k. greatest_at k w.raised ≤ get_or (set s.words i m) k 0) (sym e) (let b = g.within.0 in omega arith)) (λ ne. let o = (g.others j ne).0 in let f = (r.within id v at).raised j in let e = else j ne in omega arith);
            seen = λ j. dite (ℕ_discrete j i) (λ e. subst (λ k. greatest_at k w.seen ≤ get_or (set s.words i m) k 0) (sym e) (let b = g.within.1 in omega arith)) (λ ne. let o = (g.others j ne).1 in let f = (r.within id v at).seen j in let e = else j ne in omega arith);
          })
          (λ j u _ e. wider s.words (set s.words i m) u grown (r.within j u e));
    }
  where
    wider : (xs ys : List ℕ) (u : Known) → ((j : ℕ) → get_or xs j 0 ≤ get_or ys j 0) → IsWithin xs u → IsWithin ys u
    wider xs ys u more f = record {
      idle = f.idle;
      raised = λ j. let a = f.raised j in let b = more j in omega arith;
      seen = λ j. let a = f.seen j in let b = more j in omega arith;
    }

    -- who had raised to a count has still, or the caller has
    keep_raised : (k n n' : ℕ) → n ≡ n' → IsRaised s.views k n → greatest_at k v.raised ≤ greatest_at k w.raised → greatest_at k w.raised ≤ n' → IsRaised (set s.views id w) k n'
    keep_raised k n n' same t grows within = dite (ℕ_discrete t.0 id)
        (λ e. let is : t.1 ≡ v = some-injective t.1 v (sym t.2 ∙ (ap (get_elem? s.views) e ∙ at)) in let is' : greatest_at k t.1.raised ≡ greatest_at k v.raised = ap (λ (u : Known). greatest_at k u.raised) is in let reach = t.3 in
        (id, w, there s.views id v w at, omega arith))
        (λ ne. (t.0, t.1, set_else s.views id t.0 w ne ∙ t.2, t.3 ∙ same))

pub raises : (key : Start) (slots id i k : ℕ) (me : SeatState) → i < 8 → 0 < me.0.parts → Allows (HasGreatestCounts key) slots id me i (λ n. max n k) (RaisesWord (step slots i k 0 mathlib.Core.Option.none) me)
raises key slots id i k me inside part s r _ at _ =
    let n : ℕ = get_or s.words i 0 in
    let v = me.0 in
    let w = raise i k n v in
    let f = r.within id v at in
    let a = f.raised i in
    let b = f.seen i in
    let hr = greatest_at_here i k v.raised in
    let hs = greatest_at_here i (max n k) v.seen in (
      w,
      keeps,
      tt,
      moves key s i (max n k) id v w me.1 r inside at record {
        more = omega arith;
        parts = refl;
        some_part = part;
        raises = ⊎_elim (λ l. inl (omega arith)) (λ l. inr (omega arith)) (either_way k n);
        grows = omega arith;
        within = (omega arith, omega arith);
        others = λ j ne. (greatest_at_else j i k v.raised ne, greatest_at_else j i (max n k) v.seen ne);
      },
      ((a, b), refl),
    )
  where
    either_way : (a b : ℕ) → (a ≤ b) ⊎ (b < a)
    either_way a b = dite (dec_le a b) inl (λ no. inr (omega arith))

pub looks : (key : Start) (slots id i : ℕ) (me : SeatState) → i < 8 → 0 < me.0.parts → Allows (HasGreatestCounts key) slots id me i (λ n. n) (SeesWord (step slots i 0 0 mathlib.Core.Option.none) me)
looks key slots id i me inside part s r _ at _ =
    let n : ℕ = get_or s.words i 0 in
    let v = me.0 in
    let w = look i n v in
    let f = r.within id v at in
    let a = f.raised i in
    let b = f.seen i in
    let hs = greatest_at_here i n v.seen in (
      w,
      keeps,
      tt,
      moves key s i n id v w me.1 r inside at record {
        more = omega arith;
        parts = refl;
        some_part = part;
        raises = inl refl;
        grows = omega arith;
        within = (a, omega arith);
        others = λ j ne. (refl, greatest_at_else j i n v.seen ne);
      },
      ((a, b), refl),
    )

pub splits : (key : Start) (id n : ℕ) → 0 < n → Splits (HasGreatestCounts key) id (fresh n) (rest (fresh n)) (one (fresh n))
splits key id n some_left s r at =
    let v = fresh n in
    let w = rest (fresh n) in
    let back : (j : ℕ) (u : Known) → get_elem? (set s.views id w ++ fresh 1 ∷ []) j ≡ some u → IsWithin s.words u = λ j u e. ⊎_elim
    (λ was. all_set (λ _ u. IsWithin s.words u) s.views id w (knows_nothing s.words (n - 1)) (λ j u _ e. r.within j u e) j u was)
    (λ is. subst (IsWithin s.words) is (knows_nothing s.words 1))
    (at_snoc (set s.views id w) (fresh 1) u j e) in record {
      wide = r.wide;
      parts = let p = parts_set s.views id v w at in let q = parts_snoc (set s.views id w) (fresh 1) in let old = r.parts in omega arith;
      opening = r.opening;
      reached = λ i l. ⊎_elim inl
          (λ (t : IsRaised s.views i (get_or s.words i 0)). inr (stays i t (dite (ℕ_discrete t.0 id)
          (λ e. let is : t.1 ≡ v = some-injective t.1 v (sym t.2 ∙ (ap (get_elem? s.views) e ∙ at)) in
          (id, w, at_longer (set s.views id w) (fresh 1 ∷ []) id w (there s.views id v w at), ap (λ (u : Known). greatest_at i u.raised) (sym is) ∙ t.3))
          (λ ne. (t.0, t.1, at_longer (set s.views id w) (fresh 1 ∷ []) t.0 t.1 (set_else s.views id t.0 w ne ∙ t.2), t.3)))))
          (r.reached i l);
      within = back;
    }
  where
    knows_nothing : (words : List ℕ) (m : ℕ) → IsWithin words (fresh m)
    knows_nothing words m = record { idle = λ _. (refl, refl); raised = λ i. omega arith; seen = λ i. omega arith }

    stays : (i : ℕ) → IsRaised s.views i (get_or s.words i 0) → IsRaised (set s.views id (rest (fresh n)) ++ fresh 1 ∷ []) i (get_or s.words i 0) → IsRaised (set s.views id (rest (fresh n)) ++ fresh 1 ∷ []) i (get_or s.words i 0)
    stays i _ t = t

pub sits : (key : Start) (slots : ℕ) (v : SeatState) → Enters (HasGreatestCounts key) slots 0 (λ n w. StandsForNone (step slots 0 0 0 mathlib.Core.Option.none) v n (w, []))
sits key slots v s r _ _ = (
  spent,
  record {
    wide = r.wide;
    parts = let q = parts_snoc s.views spent in let old = r.parts in omega arith;
    opening = r.opening;
    reached = λ i l. ⊎_elim inl (λ (t : IsRaised s.views i (get_or s.words i 0)). inr (t.0, t.1, at_longer s.views (spent ∷ []) t.0 t.1 t.2, t.3)) (r.reached i l);
    within = λ j u e. ⊎_elim (r.within j u) (λ is. subst (IsWithin s.words) is (record { idle = λ _. (refl, refl); raised = λ i. omega arith; seen = λ i. omega arith })) (at_snoc s.views spent u j e);
  },
  refl,
)

pub joins : (key : Start) (id : ℕ) (v : Known) (other : ℕ) (w : Known) → Joins (HasGreatestCounts key) id v other w (both v w) spent
joins key id v other w s r at apart at' =
    let b = both v w in
    let vs = set s.views id b in
    let was : get_elem? s.views other ≡ some w = ⊎_elim (λ x. absurd (apart x.0)) (λ x. x.1) (at_set s.views id other b w at') in
    let fv = r.within id v at in
    let fw = r.within other w was in
    let here : get_elem? (set vs other spent) id ≡ some b = set_else vs other id spent (λ e. apart (sym e)) ∙ there s.views id v b at in record {
      wide = r.wide;
      parts = let p = parts_set s.views id v b at in let q = parts_set vs other w spent at' in let old = r.parts in omega arith;
      opening = r.opening;
      reached = λ i l. ⊎_elim inl
          (λ (t : IsRaised s.views i (get_or s.words i 0)). inr
          (let a = fv.raised i in let c = fw.raised i in let m = greatest_at-append i v.raised w.raised in let reach = t.3 in
          dite (ℕ_discrete t.0 id)
          (λ e. let is : greatest_at i t.1.raised ≡ greatest_at i v.raised = ap (λ (u : Known). greatest_at i u.raised) (some-injective t.1 v (sym t.2 ∙ (ap (get_elem? s.views) e ∙ at))) in (id, b, here, omega arith))
          (λ ne. dite (ℕ_discrete t.0 other)
          (λ e. let is : greatest_at i t.1.raised ≡ greatest_at i w.raised = ap (λ (u : Known). greatest_at i u.raised) (some-injective t.1 w (sym t.2 ∙ (ap (get_elem? s.views) e ∙ was))) in (id, b, here, omega arith))
          (λ ne'. (t.0, t.1, set_else vs other t.0 spent ne' ∙ (set_else s.views id t.0 b ne ∙ t.2), t.3)))))
          (r.reached i l);
      within = all_set (λ _ u. IsWithin s.words u) vs other spent (record { idle = λ _. (refl, refl); raised = λ i. omega arith; seen = λ i. omega arith })
          (λ j u _ e. all_set (λ _ u. IsWithin s.words u) s.views id b
          (record {
            idle = λ none. let x = fv.idle (omega arith) in let y = fw.idle (omega arith) in (rw (x.0, y.0) refl, rw (x.1, y.1) refl);
            raised = λ i. let a = fv.raised i in let c = fw.raised i in let m = greatest_at-append i v.raised w.raised in omega arith;
            seen = λ i. let a = fv.seen i in let c = fw.seen i in let m = greatest_at-append i v.seen w.seen in omega arith;
          })
          (λ j u _ e. r.within j u e) j u e);
    }

no_parts : (views : List Known) (j : ℕ) (u : Known) → seat_count views ≡ 0 → get_elem? views j ≡ some u → u.parts ≡ 0
no_parts [] j u none e = absurd (some-ne-none u (sym e))
no_parts (x ∷ xs) zero u none e = let is : x.parts ≡ u.parts = ap (λ (y : Known). y.parts) (some-injective x u e) in omega arith
no_parts (x ∷ xs) (suc j) u none e = no_parts xs j u (omega arith) e

-- a seat that stands for all knows what all raised
pub settles : (key : Start) (id : ℕ) (v : Known) (words : List ℕ) (xs : List (Unit {0})) → v.parts ≡ key.seats → Final (Seen (HasGreatestCounts key) id v) words xs
    → (length words ≡ 8) × ((i : ℕ) → i < 8 → get_or words i 0 ≡ max (get_or key.opening i 0) (greatest_at i v.raised)) × ((i : ℕ) → i < 8 → greatest_at i v.seen ≤ get_or words i 0)
settles key id v words xs whole f = subst (λ (ws : List ℕ). (length ws ≡ 8) × ((i : ℕ) → i < 8 → get_or ws i 0 ≡ max (get_or key.opening i 0) (greatest_at i v.raised)) × ((i : ℕ) → i < 8 → greatest_at i v.seen ≤ get_or ws i 0)) f.2 (
  r.wide,
  (λ i l. let o = r.opening i l in let a = (r.within id v at).raised i in ⊎_elim
      (λ (same : get_or s.words i 0 ≡ get_or key.opening i 0). omega arith)
      (λ (t : IsRaised s.views i (get_or s.words i 0)). let reach = t.3 in dite (ℕ_discrete t.0 id)
      (λ e. let is : greatest_at i t.1.raised ≡ greatest_at i v.raised = ap (λ (u : Known). greatest_at i u.raised) (some-injective t.1 v (sym t.2 ∙ (ap (get_elem? s.views) e ∙ at))) in omega arith)
      (λ ne. let none = no_parts (set s.views id spent) t.0 t.1 (let p = parts_set s.views id v spent at in let q = r.parts in omega arith) (set_else s.views id t.0 spent ne ∙ t.2) in
      let idle = ((r.within t.0 t.1 t.2).idle none).0 in let is : greatest_at i t.1.raised ≡ 0 = ap (greatest_at i) idle in omega arith))
      (r.reached i l)),
  (λ i l. (r.within id v at).seen i),
)
  where
    s : State (Unit {0}) Known
    s = f.0

    r : HasGreatestCounts key s
    r = f.1.0

    at : get_elem? s.views id ≡ some v
    at = f.1.1

pub begins : (key : Start) (words : List ℕ) → words ≡ key.opening → length words ≡ 8 → HasGreatestCounts key (opening words [] (fresh key.seats))
begins key words is wide = record {
  wide = wide;
  parts = omega arith;
  opening = λ i l. rw is (omega arith);
  reached = λ i l. inl (ap (λ (l : List ℕ). get_or l i 0) is);
  within = λ j u e. subst (IsWithin words) (only j u e) (record { idle = λ _. (refl, refl); raised = λ i. omega arith; seen = λ i. omega arith });
}
  where
    only : (j : ℕ) (u : Known) → get_elem? (fresh key.seats ∷ []) j ≡ some u → fresh key.seats ≡ u
    only zero u e = some-injective _ _ e
    only (suc j) u e = absurd (some-ne-none u (sym e))

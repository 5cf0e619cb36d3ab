-- Each step keeps the rule.
use Rattle.std.proofs.Common.{◌≡◌, ◌≢◌, ◌⊎◌, ℕ, zero, suc, ◌+◌, ◌<◌, true, false, true≢false, eqb, cond, Option, Some, None, List, [], ◌∷◌, ◌++◌, length, get_or, set, refl, sym, ap, ◌∙◌, subst, inl, inr, ⊎_elim, arith, length-set, get_or-set_same, eq-eqb, ne_eqb, length-append}
use mathlib.Core.Logic.{dite}
use mathlib.Core.Option.{some, none, some-injective, some-ne-none}
use native.Mathlib.Decide.{ℕ_discrete}
use lib.ListN.{get_elem?}
use lib.Seq.{set-get_or}
use prog.Atomic.{either}
use Rattle.atomic_table.specs.Table.{State, step, keeps, takes, gives, stepped, Allows, Enters, Splits, Joins, opening, Seen, Final}
use Rattle.atomic_table.proofs.Lists.{at_set, set_here, set_else, set_again, at_longer, at_last}
use Rattle.checkpoint_book.specs.declared.call.Call.{Call}
use Rattle.checkpoint_book.specs.declared.known.Known.{Known}
use Rattle.checkpoint_book.specs.declared.known.Start.{Start}
use Rattle.checkpoint_book.specs.declared.page.Page.{Page}
use Rattle.checkpoint_book.specs.Among.{In}
use Rattle.checkpoint.specs.MarkValue.{MarkValue}
use Rattle.checkpoint_book.specs.History.{AddsAtMostOne, by, own}
use Rattle.checkpoint_book.specs.Views.{PassCalls, first_view, holder_view, idle_view, joint_view, pass_count, passes_below, released_view, rest_view, spent_view}
use Rattle.checkpoint_book.specs.OneHistory.{AgreesWith, HasOneHistory, HasSeat}
use Rattle.checkpoint_book.specs.Steps.{GivesPage, SeatState, StandsForNone, TakesPage}
use Rattle.checkpoint_book.proofs.Histories.{own_else}

pub in_append : {X : Type 0} (xs ys : List X) (x : X) → In (xs ++ ys) x → In xs x ⊎ In ys x
in_append [] ys x h = inr h
in_append (y ∷ xs) ys x h = ⊎_elim (λ e. inl (inl e)) (λ t. ⊎_elim (λ a. inl (inr a)) (λ b. inr b) (in_append xs ys x t)) h

pub in_left : {X : Type 0} (xs ys : List X) (x : X) → In xs x → In (xs ++ ys) x
in_left [] ys x h = absurd h
in_left (y ∷ xs) ys x h = ⊎_elim (λ e. inl e) (λ t. inr (in_left xs ys x t)) h

pub in_right : {X : Type 0} (xs ys : List X) (x : X) → In ys x → In (xs ++ ys) x
in_right [] ys x h = h
in_right (y ∷ xs) ys x h = inr (in_right xs ys x h)

-- where every view but one is known
all_set : (F : ℕ → Known → Type 0) (views : List Known) (at : ℕ) (w : Known) → F at w → ((j : ℕ) (u : Known) → j ≢ at → get_elem? views j ≡ some u → F j u) → (j : ℕ) (u : Known) → get_elem? (set views at w) j ≡ some u → F j u
all_set F views at w mine others j u e = ⊎_elim (λ (x : (j ≡ at) × (w ≡ u)). subst (λ (y : ℕ × Known). F y.0 y.1) (λ i. (sym x.0 i, x.1 i)) mine)
    (λ (x : (j ≢ at) × (get_elem? views j ≡ some u)). others j u x.0 x.1) (at_set views at j w u e)

passes_set : (views : List Known) (at : ℕ) (v w : Known) → get_elem? views at ≡ some v → pass_count (set views at w) + length v.passes ≡ pass_count views + length w.passes
passes_set [] at v w e = absurd (some-ne-none v (sym e))
passes_set (x ∷ xs) zero v w e = let is : length x.passes ≡ length v.passes = ap (λ (y : Known). length y.passes) (some-injective x v e) in omega arith
passes_set (x ∷ xs) (suc at) v w e = let r = passes_set xs at v w e in omega arith

there : (views : List Known) (at : ℕ) (v w : Known) → get_elem? views at ≡ some v → get_elem? (set views at w) at ≡ some w
there [] at v w e = absurd (some-ne-none v (sym e))
there (x ∷ xs) zero v w e = refl
there (x ∷ xs) (suc at) v w e = there xs at v w e

-- a seat that stands for as many passes as before takes another view
known_set : (seat_of : ℕ → ℕ) (views : List Known) (at p : ℕ) (v w : Known) → get_elem? views at ≡ some v → ((c : List Call) → In v.passes (p, c) → (d : List Call) × In w.passes (p, d)) → HasSeat seat_of views p → HasSeat seat_of (set views at w) p
known_set seat_of views at p v w is still k = dite (ℕ_discrete (seat_of p) at)
    (λ e. let same : k.0 ≡ v = some-injective k.0 v (sym k.2 ∙ (ap (get_elem? views) e ∙ is)) in let d = still k.1 (subst (λ (u : Known). In u.passes (p, k.1)) same k.3) in
    (w, d.0, ap (get_elem? (set views at w)) e ∙ there views at v w is, d.1))
    (λ ne. (k.0, k.1, set_else views at (seat_of p) w ne ∙ k.2, k.3))

unmoved : (key : Start) (s : State (Option Page) Known) (id : ℕ) (v : Known) → HasOneHistory key s → get_elem? s.views id ≡ some v → HasOneHistory key (stepped s 0 (get_or s.words 0 0) id [] v keeps)
unmoved key s id v r at = subst (λ (z : List ℕ × List Known). HasOneHistory key record { words = z.0; homes = s.homes; views = z.1 }) (λ i. (sym (set-get_or s.words 0 0) i, sym (set_again s.views id v at) i)) r

taken : (key : Start) (s : State (Option Page) Known) (id : ℕ) (o : MarkValue) (x : PassCalls) (page : Page) → (r : HasOneHistory key s) → get_elem? s.views id ≡ some (idle_view o (x ∷ [])) → get_or s.words 0 0 ≡ 0 → page.history.items ≡ r.history
    → HasOneHistory key (stepped s 0 1 id [] (holder_view page.history.items (idle_view o (x ∷ []))) (takes 0 (Some page)))
taken key s id o x page r at free is =
    let v = idle_view o (x ∷ []) in
    let w = holder_view page.history.items v in
    let wide = r.one_word in
    let now : get_or (set s.words 0 1) 0 0 ≡ 1 = get_or-set_same s.words 0 1 0 (omega arith) in
    let full : get_or (set s.words 0 1) 0 0 ≢ 0 = λ e. omega arith in record {
      history = r.history;
      holder = id;
      seat_of = r.seat_of;
      one_word = length-set s.words 0 1 ∙ r.one_word;
      passes = let p = passes_set s.views id v w at in let old = r.passes in omega arith;
      agree = all_set (λ j u. AgreesWith key.opening.value r.history (get_or (set s.words 0 1) 0 0) id r.seat_of j u) s.views id w
          (record { passes = (r.agree id v at).passes; found = λ _. (full, refl, is, omega arith) })
          (λ j u _ e. record { passes = (r.agree j u e).passes; found = λ h. absurd (((r.agree j u e).found h).0 free) });
      callers = λ c i. known_set r.seat_of s.views id (by c) v w at (λ d h. (d, h)) (r.callers c i);
      home = λ e. absurd (full e);
      away = λ _. (w, there s.views id v w at, refl);
    }

pub takes_page : (key : Start) (slots id : ℕ) (o : MarkValue) (x : PassCalls) → Allows (HasOneHistory key) slots id (idle_view o (x ∷ []), []) 0 (λ n. either (eqb n 0) 1 n) (TakesPage (step slots 0 0 1 none) (idle_view o (x ∷ []), []))
takes_page key slots id o x s r long at small =
    let n : ℕ = get_or s.words 0 0 in
    let v = idle_view o (x ∷ []) in
    dite (ℕ_discrete n 0)
    (λ hit.
    let h = r.home hit in
    let page = h.0 in
    let w = holder_view page.history.items v in
    let mine = (r.agree id v at).passes x (inl refl) in (
      w,
      takes 0 (Some page),
      h.1,
      subst (λ b. HasOneHistory key (stepped s 0 (either b 1 n) id [] w (takes 0 (Some page)))) (sym (eq-eqb n 0 hit)) (taken key s id o x page r at hit h.2),
      (
        (λ _. (page, (refl, h.3 ∙ sym mine.2, λ y i. ((r.agree id v at).passes y i).0 ∙ ap (own y.0) (sym h.2)))),
        λ ne. absurd (ne hit),
      ),
    ))
    (λ miss. (
      v,
      keeps,
      tt,
      subst (λ b. HasOneHistory key (stepped s 0 (either b 1 n) id [] v keeps)) (sym (ne_eqb n 0 miss)) (unmoved key s id v r at),
      ((λ hit. absurd (miss hit)), λ _. refl),
    ))

own_stays : (p q : ℕ) (found history : List Call) → q ≢ p → AddsAtMostOne p found history → own q history ≡ own q found
own_stays p q found history ne add = ⊎_elim
    (λ (e : history ≡ found). ap (own q) e)
    (λ (t : (c : Call) × (by c ≡ p) × (history ≡ found ++ c ∷ [])). ap (own q) t.2 ∙ own_else q found t.0 (λ e. ne (sym e ∙ t.1)))
    add

added : (p : ℕ) (found history : List Call) (c : Call) → AddsAtMostOne p found history → In history c → In found c ⊎ (by c ≡ p)
added p found history c add i = ⊎_elim
    (λ (e : history ≡ found). inl (subst (λ l. In l c) e i))
    (λ (t : (d : Call) × (by d ≡ p) × (history ≡ found ++ d ∷ [])). ⊎_elim inl (λ l. ⊎_elim (λ (e : t.0 ≡ c). inr (ap by (sym e) ∙ t.1)) absurd l) (in_append found (t.0 ∷ []) c (subst (λ l. In l c) t.2 i)))
    add

abbrev pub page_of : Page → List (ℕ × Option Page) → Page
page_of d [] = d
page_of d ((k, Some page) ∷ xs) = page
page_of d ((k, None) ∷ xs) = d

pub gives_page : (key : Start) (slots id : ℕ) (o : MarkValue) (p : ℕ) (calls found : List Call) (page : Page) → slots ≡ 1 → page.opening.value ≡ o → AddsAtMostOne p found page.history.items
    → Allows (HasOneHistory key) slots id (holder_view found (idle_view o ((p, calls) ∷ [])), (0, Some page) ∷ []) 0 (λ _. 0) (λ _. GivesPage (step slots 0 0 0 none) (holder_view found (idle_view o ((p, calls) ∷ [])), (0, Some page) ∷ []) 0)
gives_page key slots id o p calls found page one opened add s r long at small =
    let h = page.history.items in
    let v = holder_view found (idle_view o ((p, calls) ∷ [])) in
    let w = released_view h v in
    let mine = (r.agree id v at).passes (p, calls) (inl refl) in
    let held = (r.agree id v at).found refl in
    let wide = r.one_word in
    let now : get_or (set s.words 0 0) 0 0 ≡ 0 = get_or-set_same s.words 0 0 0 (omega arith) in
    let same : found ≡ r.history = held.2 in (
      w,
      gives,
      tt,
      record {
        history = h;
        holder = r.holder;
        seat_of = r.seat_of;
        one_word = length-set s.words 0 0 ∙ r.one_word;
        passes = let q = passes_set s.views id v w at in let old = r.passes in omega arith;
        agree = all_set (λ j u. AgreesWith key.opening.value h (get_or (set s.words 0 0) 0 0) r.holder r.seat_of j u) s.views id w
            (record {
              passes = λ x i. ⊎_elim (λ (e : (p, own p h) ≡ x). subst (λ (y : PassCalls). (y.1 ≡ own y.0 h) × (r.seat_of y.0 ≡ id) × (o ≡ key.opening.value)) e (refl, mine.1, mine.2)) absurd i;
              found = λ e. absurd (true≢false (sym e));
            })
            (λ j u ne e. record {
              passes = λ x i. let k = (r.agree j u e).passes x i in (
                k.0 ∙ sym (own_stays p x.0 found h (λ q. ne (sym k.1 ∙ (ap r.seat_of q ∙ mine.1))) add ∙ ap (own x.0) same),
                k.1,
                k.2,
              );
              found = λ e'. absurd (ne (((r.agree j u e).found e').1 ∙ sym held.1));
            });
        callers = λ c i. ⊎_elim
            (λ old. known_set r.seat_of s.views id (by c) v w at (λ d (j : In ((p, calls) ∷ []) (by c, d)). (own p h, ⊎_elim (λ (e : (p, calls) ≡ (by c, d)). inl (ap (λ (y : PassCalls). (y.0, own p h)) e)) absurd j)) (r.callers c (subst (λ l. In l c) same old)))
            (λ new. (w, own p h, ap (get_elem? (set s.views id w)) (ap r.seat_of new ∙ mine.1) ∙ there s.views id v w at, inl (ap (λ (k : ℕ). (k, own p h)) (sym new))))
            (added p found h c add i);
        home = λ _. (page, set_here s.homes 0 (some (Some page)) (omega arith), refl, opened ∙ mine.2);
        away = λ ne. absurd (ne now);
      },
      λ page' e. ap (λ (q : Page). (released_view q.history.items v, [])) (ap (page_of page) e),
    )

snoc_cases : (l : List Known) (a b : Known) (j : ℕ) → get_elem? (l ++ a ∷ []) j ≡ some b → (get_elem? l j ≡ some b) ⊎ ((j ≡ length l) × (a ≡ b))
snoc_cases [] a b zero e = inr (refl, some-injective a b e)
snoc_cases [] a b (suc j) e = absurd (some-ne-none b (sym e))
snoc_cases (x ∷ xs) a b zero e = inl e
snoc_cases (x ∷ xs) a b (suc j) e = ⊎_elim inl (λ t. inr (ap suc t.0, t.1)) (snoc_cases xs a b j e)

passes_snoc : (views : List Known) (w : Known) → pass_count (views ++ w ∷ []) ≡ pass_count views + length w.passes
passes_snoc [] w = omega arith
passes_snoc (x ∷ xs) w = let r = passes_snoc xs w in omega arith

upto_below : (n : ℕ) (x : PassCalls) → In (passes_below n) x → x.0 < n
upto_below zero x h = absurd h
upto_below (suc n) x h = ⊎_elim (λ (e : (n, []) ≡ x). let is : n ≡ x.0 = ap (λ (y : PassCalls). y.0) e in omega arith) (λ t. let r = upto_below n x t in omega arith) h

-- the last pass is cut off
pub splits : (key : Start) (id : ℕ) (o : MarkValue) (n : ℕ) → Splits (HasOneHistory key) id (idle_view o (passes_below (suc n))) (rest_view (idle_view o (passes_below (suc n)))) (first_view (idle_view o (passes_below (suc n))))
splits key id o n s r at =
    let v = idle_view o (passes_below (suc n)) in
    let a = idle_view o (passes_below n) in
    let b = idle_view o ((n, []) ∷ []) in
    let vs = set s.views id a in
    let mine = (r.agree id v at).passes (n, []) (inl refl) in
    let wide : length vs ≡ length s.views = length-set s.views id a in
    let seat_of : ℕ → ℕ = λ p. cond (eqb p n) (length s.views) (r.seat_of p) in
    let kept : (p : ℕ) → p ≢ n → seat_of p ≡ r.seat_of p = λ p ne. ap (λ q. cond q (length s.views) (r.seat_of p)) (ne_eqb p n ne) in
    let new : seat_of n ≡ length s.views = ap (λ q. cond q (length s.views) (r.seat_of n)) (eq-eqb n n refl) in record {
      history = r.history;
      holder = r.holder;
      seat_of = seat_of;
      one_word = r.one_word;
      passes = let p = passes_set s.views id v a at in let q = passes_snoc vs b in let old = r.passes in omega arith;
      agree = λ j u e. ⊎_elim
          (λ was. all_set (λ k w. AgreesWith key.opening.value r.history (get_or s.words 0 0) r.holder seat_of k w) s.views id a
          (record {
            passes = λ x i. let l = upto_below n x i in let k = (r.agree id v at).passes x (inr i) in (k.0, kept x.0 (λ q. omega arith) ∙ k.1, k.2);
            found = λ h. absurd (true≢false (sym h));
          })
          (λ k w ne e'. record {
            passes = λ x i. let f = (r.agree k w e').passes x i in (f.0, kept x.0 (λ q. ne (sym f.1 ∙ (ap r.seat_of q ∙ mine.1))) ∙ f.1, f.2);
            found = (r.agree k w e').found;
          })
          j u was)
          (λ is. subst (λ (w : Known). AgreesWith key.opening.value r.history (get_or s.words 0 0) r.holder seat_of j w) is.1
          (record {
            passes = λ x i. ⊎_elim (λ (e' : (n, []) ≡ x). subst (λ (y : PassCalls). (y.1 ≡ own y.0 r.history) × (seat_of y.0 ≡ j) × (o ≡ key.opening.value)) e' (mine.0, new ∙ (sym wide ∙ sym is.0), mine.2)) absurd i;
            found = λ h. absurd (true≢false (sym h));
          }))
          (snoc_cases vs b u j e);
      callers = λ c i. dite (ℕ_discrete (by c) n)
          (λ e. (b, [], ap (get_elem? (vs ++ b ∷ [])) (ap seat_of e ∙ new) ∙ at_last vs b (length s.views) wide, inl (ap (λ (k : ℕ). (k, [])) (sym e))))
          (λ ne. let k = known_set r.seat_of s.views id (by c) v a at (λ d h. (d, ⊎_elim (λ (e : (n, []) ≡ (by c, d)). absurd (ne (sym (ap (λ (y : PassCalls). y.0) e)))) (λ t. t) h)) (r.callers c i) in
          (k.0, k.1, ap (get_elem? (vs ++ b ∷ [])) (kept (by c) ne) ∙ at_longer vs (b ∷ []) (r.seat_of (by c)) k.0 k.2, k.3));
      home = r.home;
      away = λ ne. let h = r.away ne in (h.0, at_longer vs (b ∷ []) r.holder h.0 (set_else s.views id r.holder a (λ e. not_held v h.0 (sym h.1 ∙ (ap (get_elem? s.views) e ∙ at)) refl h.2) ∙ h.1), h.2);
    }
  where
    not_held : (v u : Known) → some u ≡ some v → v.holds ≡ false → u.holds ≡ true → ⊥
    not_held v u e off on = true≢false (sym on ∙ (ap (λ (w : Known). w.holds) (some-injective u v e) ∙ off))

pub sits : (key : Start) (slots : ℕ) (v : SeatState) → Enters (HasOneHistory key) slots 0 (λ n w. StandsForNone (step slots 0 0 0 none) v n (w, []))
sits key slots v s r _ _ = (
  spent_view,
  record {
    history = r.history;
    holder = r.holder;
    seat_of = r.seat_of;
    one_word = r.one_word;
    passes = let q = passes_snoc s.views spent_view in let old = r.passes in omega arith;
    agree = λ j u e. ⊎_elim (r.agree j u) (λ is. subst (λ (w : Known). AgreesWith key.opening.value r.history (get_or s.words 0 0) r.holder r.seat_of j w) is.1 (record { passes = λ x i. absurd i; found = λ h. absurd (true≢false (sym h)) })) (snoc_cases s.views spent_view u j e);
    callers = λ c i. let k = r.callers c i in (k.0, k.1, at_longer s.views (spent_view ∷ []) (r.seat_of (by c)) k.0 k.2, k.3);
    home = r.home;
    away = λ ne. let h = r.away ne in (h.0, at_longer s.views (spent_view ∷ []) r.holder h.0 h.1, h.2);
  },
  refl,
)

pub joins : (key : Start) (id : ℕ) (o o' : MarkValue) (passes : List PassCalls) (other : ℕ) (y : PassCalls) → Joins (HasOneHistory key) id (idle_view o passes) other (idle_view o' (y ∷ [])) (joint_view (idle_view o passes) (idle_view o' (y ∷ []))) spent_view
joins key id o o' passes other y s r at apart at' =
    let v = idle_view o passes in
    let w = idle_view o' (y ∷ []) in
    let b = idle_view o' (passes ++ y ∷ []) in
    let vs = set s.views id b in
    let was : get_elem? s.views other ≡ some w = ⊎_elim (λ x. absurd (apart x.0)) (λ x. x.1) (at_set s.views id other b w at') in
    let theirs = (r.agree other w was).passes y (inl refl) in
    let seat_of : ℕ → ℕ = λ p. cond (eqb (r.seat_of p) other) id (r.seat_of p) in
    let kept : (p : ℕ) → r.seat_of p ≢ other → seat_of p ≡ r.seat_of p = λ p ne. ap (λ q. cond q id (r.seat_of p)) (ne_eqb (r.seat_of p) other ne) in
    let moved : (p : ℕ) → r.seat_of p ≡ other → seat_of p ≡ id = λ p e. ap (λ q. cond q id (r.seat_of p)) (eq-eqb (r.seat_of p) other e) in
    let here : get_elem? (set vs other spent_view) id ≡ some b = set_else vs other id spent_view (λ e. apart (sym e)) ∙ there s.views id v b at in record {
      history = r.history;
      holder = r.holder;
      seat_of = seat_of;
      one_word = r.one_word;
      passes = let p = passes_set s.views id v b at in let q = passes_set vs other w spent_view at' in let l = length-append passes (y ∷ []) in let old = r.passes in omega arith;
      agree = all_set (λ k u. AgreesWith key.opening.value r.history (get_or s.words 0 0) r.holder seat_of k u) vs other spent_view (record { passes = λ x i. absurd i; found = λ h. absurd (true≢false (sym h)) })
          (λ j u ne e. all_set (λ k u'. k ≢ other → AgreesWith key.opening.value r.history (get_or s.words 0 0) r.holder seat_of k u') s.views id b
          (λ _. record {
            passes = λ x i. ⊎_elim
                (λ l. let f = (r.agree id v at).passes x l in (f.0, kept x.0 (λ q. apart (sym q ∙ f.1)) ∙ f.1, theirs.2))
                (λ l. let f = (r.agree other w was).passes x l in (f.0, moved x.0 f.1, theirs.2))
                (in_append passes (y ∷ []) x i);
            found = λ h. absurd (true≢false (sym h));
          })
          (λ k u' _ e' ne'. record {
            passes = λ x i. let f = (r.agree k u' e').passes x i in (f.0, kept x.0 (λ q. ne' (sym f.1 ∙ q)) ∙ f.1, f.2);
            found = (r.agree k u' e').found;
          })
          j u e ne);
      callers = λ c i. let k = r.callers c i in dite (ℕ_discrete (r.seat_of (by c)) other)
          (λ e. (b, k.1, ap (get_elem? (set vs other spent_view)) (moved (by c) e) ∙ here, in_right passes (y ∷ []) (by c, k.1) (subst (λ (u : Known). In u.passes (by c, k.1)) (some-injective k.0 w (sym k.2 ∙ (ap (get_elem? s.views) e ∙ was))) k.3)))
          (λ ne. let d = known_set r.seat_of s.views id (by c) v b at (λ d h. (d, in_left passes (y ∷ []) (by c, d) h)) k in
          (d.0, d.1, ap (get_elem? (set vs other spent_view)) (kept (by c) ne) ∙ (set_else vs other (r.seat_of (by c)) spent_view ne ∙ d.2), d.3));
      home = r.home;
      away = λ ne. let h = r.away ne in (
        h.0,
        set_else vs other r.holder spent_view (λ e. not_held w h.0 (sym h.1 ∙ (ap (get_elem? s.views) e ∙ was)) refl h.2)
            ∙ (set_else s.views id r.holder b (λ e. not_held v h.0 (sym h.1 ∙ (ap (get_elem? s.views) e ∙ at)) refl h.2) ∙ h.1),
        h.2,
      );
    }
  where
    not_held : (v u : Known) → some u ≡ some v → v.holds ≡ false → u.holds ≡ true → ⊥
    not_held v u e off on = true≢false (sym on ∙ (ap (λ (w : Known). w.holds) (some-injective u v e) ∙ off))

no_pass : (views : List Known) (j : ℕ) (u : Known) → pass_count views ≡ 0 → get_elem? views j ≡ some u → length u.passes ≡ 0
no_pass [] j u zeroes e = absurd (some-ne-none u (sym e))
no_pass (x ∷ xs) zero u zeroes e = let is : length x.passes ≡ length u.passes = ap (λ (y : Known). length y.passes) (some-injective x u e) in omega arith
no_pass (x ∷ xs) (suc j) u zeroes e = no_pass xs j u (omega arith) e

in_some : {X : Type 0} (xs : List X) (x : X) → In xs x → 0 < length xs
in_some [] x h = absurd h
in_some (y ∷ ys) x h = omega arith

-- what a seat that stands for all passes knows at the end
pub record Settled (key : Start) (passes : List PassCalls) (xs : List (Option Page)) : Type 0 where
  pub page : Page
  pub there : get_elem? xs 0 ≡ some (Some page)
  pub opening : page.opening.value ≡ key.opening.value
  pub calls : (x : PassCalls) → In passes x → x.1 ≡ own x.0 page.history.items
  pub no_others : (c : Call) → In page.history.items c → (calls : List Call) × In passes (by c, calls)

pub settles : (key : Start) (id : ℕ) (o : MarkValue) (passes : List PassCalls) (words : List ℕ) (xs : List (Option Page)) → length passes ≡ key.passes → Final (Seen (HasOneHistory key) id (idle_view o passes)) words xs → Settled key passes xs
settles key id o passes words xs whole f =
    let s = f.0 in
    let r = f.1.0 in
    let at = f.1.1 in
    let v = idle_view o passes in
    let alone : (j : ℕ) (u : Known) → j ≢ id → get_elem? s.views j ≡ some u → length u.passes ≡ 0 =
    λ j u ne e. no_pass (set s.views id spent_view) j u (let p = passes_set s.views id v spent_view at in let q = r.passes in omega arith) (set_else s.views id j spent_view ne ∙ e) in
    let free : get_or s.words 0 0 ≡ 0 = dite (ℕ_discrete (get_or s.words 0 0) 0) (λ e. e)
    (λ ne. let h = r.away ne in dite (ℕ_discrete r.holder id)
    (λ e. absurd (true≢false (sym h.2 ∙ ap (λ (u : Known). u.holds) (some-injective h.0 v (sym h.1 ∙ (ap (get_elem? s.views) e ∙ at))))))
    (λ other. let idle = alone r.holder h.0 other h.1 in let some_pass = ((r.agree r.holder h.0 h.1).found h.2).3 in absurd (omega arith))) in
    let home = r.home free in record {
      page = home.0;
      there = f.4 0 (Some home.0) home.1;
      opening = home.3;
      calls = λ x i. ((r.agree id v at).passes x i).0 ∙ ap (own x.0) (sym home.2);
      no_others = λ c i. let k = r.callers c (subst (λ l. In l c) home.2 i) in dite (ℕ_discrete (r.seat_of (by c)) id)
          (λ e. (k.1, subst (λ (u : Known). In u.passes (by c, k.1)) (some-injective k.0 v (sym k.2 ∙ (ap (get_elem? s.views) e ∙ at))) k.3))
          (λ ne. let idle = alone (r.seat_of (by c)) k.0 ne k.2 in let some_pass = in_some k.0.passes (by c, k.1) k.3 in absurd (omega arith));
    }

pub begins : (key : Start) (words : List ℕ) (page : Page) → words ≡ 0 ∷ [] → page.history.items ≡ [] → page.opening.value ≡ key.opening.value → HasOneHistory key (opening words (Some page ∷ []) (idle_view key.opening.value (passes_below key.passes)))
begins key words page is empty opened = record {
  history = [];
  holder = 0;
  seat_of = λ _. 0;
  one_word = ap length is;
  passes = omega (arith, count_of key.passes);
  agree = λ j u e. fits_one j u e;
  callers = λ c i. absurd i;
  home = λ _. (page, refl, empty, opened);
  away = λ ne. absurd (ne (ap (λ (l : List ℕ). get_or l 0 0) is));
}
  where
    count_of : (n : ℕ) → length (passes_below n) ≡ n
    count_of zero = refl
    count_of (suc n) = ap suc (count_of n)

    no_calls : (n : ℕ) (x : PassCalls) → In (passes_below n) x → x.1 ≡ []
    no_calls zero x i = absurd i
    no_calls (suc n) x i = ⊎_elim (λ (e : (n, []) ≡ x). sym (ap (λ (y : PassCalls). y.1) e)) (no_calls n x) i

    fits_one : (j : ℕ) (u : Known) → get_elem? (idle_view key.opening.value (passes_below key.passes) ∷ []) j ≡ some u → AgreesWith key.opening.value [] (get_or words 0 0) 0 (λ _. 0) j u
    fits_one zero u e = subst (λ (w : Known). AgreesWith key.opening.value [] (get_or words 0 0) 0 (λ _. 0) 0 w) (some-injective _ _ e) (record { passes = λ x i. (no_calls key.passes x i, refl, refl); found = λ h. absurd (true≢false (sym h)) })
    fits_one (suc j) u e = absurd (some-ne-none u (sym e))

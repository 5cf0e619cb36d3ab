-- What was selected is held in the queue until it has issued.
use Rattle.std.proofs.Common.{◌≡◌, ℕ, zero, suc, ◌<◌, Bool, true, false, not, ◌&&◌, ◌||◌, cond, List, [], ◌∷◌, length, get_or, take, map, refl, sym, ap, subst, ◌∙◌, arith}
use Rattle.std.specs.Prelude.{◌==◌, All, filter}
use Rattle.std.specs.List.{list_any}
use Rattle.std.proofs.lemmas.Bool.{and_parts, eqb-true, true≢false}
use Rattle.std.proofs.lemmas.List.Elements.{All-cons, All-head, All-tail, All-map}
use Rattle.hart_step.specs.State.{State}
use Rattle.core_view.specs.declared.note.EntryId.{EntryId}
use Rattle.data_flow.specs.Flow.{Waiter, Flow, is_waiter, waits_in, with_held, released}
use Rattle.core_context.specs.Queued.{unheld}
use Rattle.core_context.specs.Issuable.{IsMarked, AreLetGo}
use Rattle.core_context.specs.Steps.{IsRemarked}
use Rattle.core_context.specs.Track.{Track}
use Rattle.core_context.specs.Cores.{is_selected, IsCore}
use Rattle.core_context.proofs.Laws.{other_core, core_waiting, eqb-flip}
use Rattle.core_back.specs.Shown.{marked_among, still_waits, unissued, waiting_flow, flow_left}
use Rattle.core_back.proofs.Selections.{is_name, name_selected, any-map, left_of, still_waiting}

-- ---- a name and its waiter

-- a waiter of a name is the one that the name stands for
waiter_named : (n : EntryId) (w : Waiter) → is_waiter n.context n.stamp w ≡ is_name w.context w.stamp n
waiter_named n w = rw (eqb-flip w.context n.context, eqb-flip w.stamp n.stamp) refl

-- and its name is among these where it was selected
named_selected : (names : List EntryId) (n : EntryId) (w : Waiter) → is_name w.context w.stamp n ≡ true → is_selected names w.context w.stamp ≡ is_selected names n.context n.stamp
named_selected names n w is =
    let h = and_parts (n.context == w.context) (n.stamp == w.stamp) is in
    rw (eqb-true n.context w.context h.0, eqb-true n.stamp w.stamp h.1) refl

-- ---- one name fewer

-- what waits without an instruction
abbrev pub without_name : EntryId → Flow → Flow
without_name n f = record f { waiters = filter (λ w. not (is_selected (n ∷ []) w.context w.stamp)) f.waiters }

-- once the first of the names has issued, what waits is what waited without it
step_waiters : (n : EntryId) (rest : List EntryId) (ws : List Waiter) → is_selected rest n.context n.stamp ≡ false → All (λ w. is_waiter n.context n.stamp w ≡ true → w.held ≡ true) ws
    → filter (still_waits rest) ws ≡ filter (λ w. not (is_selected (n ∷ []) w.context w.stamp)) (filter (still_waits (n ∷ rest)) ws)
step_waiters n rest [] apart marked = refl
step_waiters n rest (w ∷ ws) apart marked =
    go (is_name w.context w.stamp n) w.held (is_selected rest w.context w.stamp) refl
    (λ named. All-head (λ v. is_waiter n.context n.stamp v ≡ true → v.held ≡ true) w ws marked (waiter_named n w ∙ named))
    (λ named. named_selected rest n w named ∙ apart)
    (step_waiters n rest ws apart (All-tail (λ v. is_waiter n.context n.stamp v ≡ true → v.held ≡ true) w ws marked))
  where
    go : (a h s : Bool) → is_name w.context w.stamp n ≡ a → (a ≡ true → h ≡ true) → (a ≡ true → s ≡ false) → filter (still_waits rest) ws ≡ filter (λ v. not (is_selected (n ∷ []) v.context v.stamp)) (filter (still_waits (n ∷ rest)) ws)
        → cond (not h || s) (w ∷ filter (still_waits rest) ws) (filter (still_waits rest) ws) ≡ filter (λ v. not (is_selected (n ∷ []) v.context v.stamp)) (cond (not h || (a || s)) (w ∷ filter (still_waits (n ∷ rest)) ws) (filter (still_waits (n ∷ rest)) ws))
    go true true false is held out ih = rw is ih
    go true true true is held out ih = absurd (true≢false (out refl))
    go true false s is held out ih = absurd (true≢false (sym (held refl)))
    go false true false is held out ih = ih
    go false true true is held out ih = rw (is, ih) refl
    go false false s is held out ih = rw (is, ih) refl

pub issued_waiters : (f : Flow) (n : EntryId) (rest : List EntryId) → is_selected rest n.context n.stamp ≡ false → IsMarked f n.context n.stamp true → unissued rest f ≡ without_name n (unissued (n ∷ rest) f)
issued_waiters f n rest apart marked = ap (λ (ws : List Waiter). let g : Flow = record f { waiters = ws } in g) (step_waiters n rest f.waiters apart marked)

-- where no name is left, what is held is dropped
last_waiters : (ws : List Waiter) → filter (λ w. not w.held) ws ≡ filter (still_waits []) ws
last_waiters [] = refl
last_waiters (w ∷ ws) = go w.held (last_waiters ws)
  where
    go : (h : Bool) → filter (λ v. not v.held) ws ≡ filter (still_waits []) ws → cond (not h) (w ∷ filter (λ v. not v.held) ws) (filter (λ v. not v.held) ws) ≡ cond (not h || false) (w ∷ filter (still_waits []) ws) (filter (still_waits []) ws)
    go true ih = ih
    go false ih = ap (λ vs. w ∷ vs) ih

pub dropped_waiters : (f : Flow) → (let g : Flow = record f { waiters = filter (λ w. not w.held) f.waiters } in g) ≡ unissued [] f
dropped_waiters f = ap (λ (ws : List Waiter). let g : Flow = record f { waiters = ws } in g) (last_waiters f.waiters)

-- so it is once the first of the names has issued, and what is held has left where it was the last
pub left_waiting : (f : Flow) (n : EntryId) (rest : List EntryId) → is_selected rest n.context n.stamp ≡ false → IsMarked f n.context n.stamp true → waiting_flow rest (flow_left rest f) ≡ without_name n (unissued (n ∷ rest) f)
left_waiting f n [] apart marked = dropped_waiters f ∙ issued_waiters f n [] apart marked
left_waiting f n (m ∷ rest) apart marked = issued_waiters f n (m ∷ rest) apart marked

-- ---- a core without an instruction that waited

-- a test that all of these pass alike
any_kept : (p q : Waiter → Bool) (b : Bool) (ws : List Waiter) → ((w : Waiter) → p w ≡ true → q w ≡ b) → list_any p (filter q ws) ≡ (list_any p ws && b)
any_kept p q b [] same = refl
any_kept p q b (w ∷ ws) same = go (p w) (q w) (same w) refl (any_kept p q b ws same)
  where
    go : (s t : Bool) → (s ≡ true → t ≡ b) → p w ≡ s → list_any p (filter q ws) ≡ (list_any p ws && b) → list_any p (cond t (w ∷ filter q ws) (filter q ws)) ≡ ((s || list_any p ws) && b)
    go true true alike is ih = rw is (alike refl)
    go true false alike is ih = let off : false ≡ b = alike refl in ih ∙ ap (λ x. list_any p ws && x) (sym off) ∙ none (list_any p ws) ∙ off
      where
        none : (x : Bool) → (x && false) ≡ false
        none true = refl
        none false = refl
    go false true alike is ih = rw is ih
    go false false alike is ih = ih

-- the others wait still
pub waits_without : (n : EntryId) (f : Flow) (c k : ℕ) → waits_in (without_name n f) c k ≡ (waits_in f c k && not (is_selected (n ∷ []) c k))
waits_without n f c k = any_kept (is_waiter c k) (λ w. not (is_selected (n ∷ []) w.context w.stamp)) (not (is_selected (n ∷ []) c k)) f.waiters (λ w is.
    let h = and_parts (w.context == c) (w.stamp == k) is in
    rw (eqb-true w.context c h.0, eqb-true w.stamp k h.1) refl)

one_name : (n : EntryId) (c k : ℕ) → is_selected (n ∷ []) c k ≡ true → (n.context ≡ c) × (n.stamp ≡ k)
one_name n c k h = let p = and_parts (n.context == c) (n.stamp == k) (or_false (is_name c k n) h) in (eqb-true n.context c p.0, eqb-true n.stamp k p.1)
  where
    or_false : (b : Bool) → (b || false) ≡ true → b ≡ true
    or_false true h = refl
    or_false false h = h

-- a core, with a name of an instruction that waited and doesn't any more
pub named_core : {start : State} {stamp reorder c : ℕ} {f : Flow} {t : Track} → IsCore start stamp reorder f [] c t → (n : EntryId) → waits_in f n.context n.stamp ≡ true → IsCore start stamp reorder (without_name n f) (n ∷ []) c t
named_core {start = start} {stamp = stamp} {reorder = reorder} {c = c} {f = f} {t = t} core n waits =
    other_core start stamp stamp reorder f (without_name n f) [] (n ∷ []) c t core refl
    (left_of (n ∷ []) c f.waiters ∙ ap (filter (λ w. not (is_selected (n ∷ []) c w.stamp))) core.waiting ∙ still_waiting (n ∷ []) c t.context.flight t.context.flight)
    (λ k h.
    let is = one_name n c k h in
    let here : waits_in f c k ≡ true = subst (λ d. waits_in f d k ≡ true) is.0 (subst (λ j. waits_in f n.context j ≡ true) is.1 waits) in
    sym (core_waiting core k) ∙ ap (λ b. b || false) here)
    (omega arith)

-- ---- as it is selected

module _ (names : List EntryId) where
  -- what was let go and is held now is what was selected
  held_waiters : (ws : List Waiter) → All (λ w. w.held ≡ false) ws → filter (still_waits names) (map (marked_among names true) ws) ≡ map (marked_among names true) ws
  held_waiters [] free = refl
  held_waiters (w ∷ ws) free = go (is_selected names w.context w.stamp) refl (All-head (λ v. v.held ≡ false) w ws free) (held_waiters ws (All-tail (λ v. v.held ≡ false) w ws free))
    where
      go : (s : Bool) → is_selected names w.context w.stamp ≡ s → w.held ≡ false → filter (still_waits names) (map (marked_among names true) ws) ≡ map (marked_among names true) ws
          → filter (still_waits names) (cond s (record w { held = true }) w ∷ map (marked_among names true) ws) ≡ cond s (record w { held = true }) w ∷ map (marked_among names true) ws
      go true is let_go ih = rw (is, ih) refl
      go false is let_go ih = rw (let_go, ih) refl

  unheld_waiters : (ws : List Waiter) → map unheld (map (marked_among names true) ws) ≡ map unheld ws
  unheld_waiters [] = refl
  unheld_waiters (w ∷ ws) = go (is_selected names w.context w.stamp) (unheld_waiters ws)
    where
      go : (s : Bool) → map unheld (map (marked_among names true) ws) ≡ map unheld ws → unheld (cond s (record w { held = true }) w) ∷ map unheld (map (marked_among names true) ws) ≡ unheld w ∷ map unheld ws
      go true ih = ap (λ vs. unheld w ∷ vs) ih
      go false ih = ap (λ vs. unheld w ∷ vs) ih

  -- the waiter of a name is held
  marked_waiter : (c k : ℕ) (w : Waiter) → is_selected names c k ≡ true → is_waiter c k (marked_among names true w) ≡ true → (marked_among names true w).held ≡ true
  marked_waiter c k w named = go (is_selected names w.context w.stamp) refl
    where
      go : (s : Bool) → is_selected names w.context w.stamp ≡ s → is_waiter c k (cond s (record w { held = true }) w) ≡ true → (cond s (record w { held = true }) w).held ≡ true
      go true is here = refl
      go false is here =
          let h = and_parts (w.context == c) (w.stamp == k) here in
          let same : is_selected names w.context w.stamp ≡ is_selected names c k = rw (eqb-true w.context c h.0, eqb-true w.stamp k h.1) refl in
          absurd (true≢false (sym named ∙ sym same ∙ is))

pub held_marked : (names : List EntryId) (f g : Flow) → g.waiters ≡ map (marked_among names true) f.waiters → All (λ n. IsMarked g n.context n.stamp true) names
held_marked names f g is i d lt =
    let n = get_or names i d in
    subst (λ ws. All (λ w. is_waiter n.context n.stamp w ≡ true → w.held ≡ true) ws) (sym is)
    (All-map (λ w. is_waiter n.context n.stamp w ≡ true → w.held ≡ true) (marked_among names true) f.waiters (λ j e below. marked_waiter names n.context n.stamp (get_or f.waiters j e) (name_selected names i d lt)))

pub held_remarked : (names : List EntryId) (f g : Flow) → g ≡ record f { waiters = map (marked_among names true) f.waiters } → IsRemarked f g
held_remarked names f g is = record {
  flow = is ∙ ap (λ (ws : List Waiter). let h : Flow = record f { waiters = ws } in h) (ap (λ (h : Flow). h.waiters) (sym is));
  waits = ap (λ (h : Flow). map unheld h.waiters) is ∙ unheld_waiters names f.waiters;
}

-- and nothing of it has issued
pub held_unissued : (names : List EntryId) (f g : Flow) → AreLetGo f → g ≡ record f { waiters = map (marked_among names true) f.waiters } → unissued names g ≡ g
held_unissued names f g free is = rw is (ap (λ (ws : List Waiter). let h : Flow = record f { waiters = ws } in h) (held_waiters names f.waiters free))

-- so what waits is what waited
pub held_waiting : (names : List EntryId) (f g : Flow) → AreLetGo f → g ≡ record f { waiters = map (marked_among names true) f.waiters } → waiting_flow names g ≡ g
held_waiting [] f g free is = refl
held_waiting (n ∷ names) f g free is = held_unissued (n ∷ names) f g free is

-- no name marks nothing
pub no_mark : (flag : Bool) (ws : List Waiter) → ws ≡ map (marked_among [] flag) ws
no_mark flag [] = refl
no_mark flag (w ∷ ws) = ap (λ vs. w ∷ vs) (no_mark flag ws)

pub none_held : (names : List EntryId) (f g : Flow) → names ≡ [] → AreLetGo f → g ≡ record f { waiters = map (marked_among names true) f.waiters } → AreLetGo g
none_held names f g none free is = subst AreLetGo (sym is) (subst (λ ns. All (λ w. w.held ≡ false) (map (marked_among ns true) f.waiters)) (sym none) (subst (All (λ w. w.held ≡ false)) (no_mark true f.waiters) free))

-- whether one waits doesn't depend on marks
pub waits_remarked : (f g : Flow) (c k : ℕ) → IsRemarked f g → waits_in g c k ≡ waits_in f c k
waits_remarked f g c k marks = sym (any-map (is_waiter c k) unheld g.waiters) ∙ ap (list_any (is_waiter c k)) marks.waits ∙ any-map (is_waiter c k) unheld f.waiters

-- ---- as it is let go again

-- what has not issued yet is let go, and what is held then has issued
given_waiters : (names : List EntryId) (ws : List Waiter) → map unheld (filter (λ w. not w.held) (map (marked_among names false) ws)) ≡ map unheld (filter (still_waits names) ws)
given_waiters names [] = refl
given_waiters names (w ∷ ws) = go (is_selected names w.context w.stamp) w.held refl refl (given_waiters names ws)
  where
    go : (s h : Bool) → is_selected names w.context w.stamp ≡ s → w.held ≡ h → map unheld (filter (λ v. not v.held) (map (marked_among names false) ws)) ≡ map unheld (filter (still_waits names) ws)
        → map unheld (filter (λ v. not v.held) (cond s (record w { held = false }) w ∷ map (marked_among names false) ws)) ≡ map unheld (cond (not h || s) (w ∷ filter (still_waits names) ws) (filter (still_waits names) ws))
    go true true is held ih = ap (λ vs. unheld w ∷ vs) ih
    go true false is held ih = ap (λ vs. unheld w ∷ vs) ih
    go false true is held ih = rw held ih
    go false false is held ih = rw held (ap (λ vs. unheld w ∷ vs) ih)

pub given_remarked : (names : List EntryId) (f g : Flow) → g ≡ record f { waiters = filter (λ w. not w.held) (map (marked_among names false) f.waiters) } → IsRemarked (unissued names f) g
given_remarked names f g is = rw is (record { flow = refl; waits = given_waiters names f.waiters })

-- none is held any more
pub dropped_let_go : (ws : List Waiter) → All (λ (w : Waiter). w.held ≡ false) (filter (λ w. not w.held) ws)
dropped_let_go [] = λ i d lt. absurd (omega arith)
dropped_let_go (w ∷ ws) = go w.held refl (dropped_let_go ws)
  where
    go : (h : Bool) → w.held ≡ h → All (λ (v : Waiter). v.held ≡ false) (filter (λ v. not v.held) ws) → All (λ (v : Waiter). v.held ≡ false) (cond (not h) (w ∷ filter (λ v. not v.held) ws) (filter (λ v. not v.held) ws))
    go true is rest = rest
    go false is rest = All-cons (λ (v : Waiter). v.held ≡ false) w (filter (λ v. not v.held) ws) is rest

-- while names are left, what waits is what has not issued
pub some_waiting : (names : List EntryId) (f : Flow) → 0 < length names → waiting_flow names f ≡ unissued names f
some_waiting [] f some = absurd (omega (arith, some))
some_waiting (n ∷ names) f some = refl

-- where nothing is held, letting all go changes nothing
released_waiters : (ws : List Waiter) → All (λ w. w.held ≡ false) ws → ws ≡ map released ws
released_waiters [] free = refl
released_waiters (w ∷ ws) free =
    let here : w ≡ released w = free_waiter w (All-head (λ v. v.held ≡ false) w ws free) in
    ap (λ v. v ∷ ws) here ∙ ap (λ vs. released w ∷ vs) (released_waiters ws (All-tail (λ v. v.held ≡ false) w ws free))
  where
    free_waiter : (v : Waiter) → v.held ≡ false → v ≡ released v
    free_waiter v is = ap (λ b. let u : Waiter = record v { held = b } in u) is

pub are_released : (f : Flow) → AreLetGo f → f ≡ record f { waiters = map released f.waiters }
are_released f free = ap (λ (ws : List Waiter). let g : Flow = record f { waiters = ws } in g) (released_waiters f.waiters free)

-- ---- name by name

-- one name more
selected_more : (names : List EntryId) (j : ℕ) (d : EntryId) (c k : ℕ) → j < length names → is_selected (take (suc j) names) c k ≡ (is_selected (take j names) c k || is_name c k (get_or names j d))
selected_more [] j d c k lt = absurd (omega (arith, lt))
selected_more (n ∷ names) zero d c k lt = last (is_name c k n)
  where
    last : (b : Bool) → (b || false) ≡ (false || b)
    last true = refl
    last false = refl
selected_more (n ∷ names) (suc j) d c k lt = ap (λ b. is_name c k n || b) (selected_more names j d c k (omega (arith, lt))) ∙ apart (is_name c k n) (is_selected (take j names) c k) (is_name c k (get_or names j d))
  where
    apart : (a b e : Bool) → (a || (b || e)) ≡ ((a || b) || e)
    apart true b e = refl
    apart false b e = refl

pub marked_more : (names : List EntryId) (j : ℕ) (d : EntryId) (flag : Bool) (ws : List Waiter) → j < length names
    → map (with_held (get_or names j d).context (get_or names j d).stamp flag) (map (marked_among (take j names) flag) ws) ≡ map (marked_among (take (suc j) names) flag) ws
marked_more names j d flag [] lt = refl
marked_more names j d flag (w ∷ ws) lt =
    let n = get_or names j d in
    both (go (is_selected (take j names) w.context w.stamp) (is_name w.context w.stamp n) refl (waiter_named n w) (selected_more names j d w.context w.stamp lt)) (marked_more names j d flag ws lt)
  where
    both : {x y : Waiter} {xs ys : List Waiter} → x ≡ y → xs ≡ ys → x ∷ xs ≡ y ∷ ys
    both p q = rw (p, q) refl

    go : (s a : Bool) → is_selected (take j names) w.context w.stamp ≡ s → is_waiter (get_or names j d).context (get_or names j d).stamp w ≡ a → is_selected (take (suc j) names) w.context w.stamp ≡ (s || a)
        → with_held (get_or names j d).context (get_or names j d).stamp flag (cond s (record w { held = flag }) w) ≡ marked_among (take (suc j) names) flag w
    go true true is named more = rw (more, named) refl
    go true false is named more = rw (more, named) refl
    go false true is named more = rw (more, named) refl
    go false false is named more = rw (more, named) refl

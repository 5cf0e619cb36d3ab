-- Marks of what waits behind a guessed entry, as one completes.
use Rattle.std.proofs.Common.{◌≡◌, ◌≢◌, ℕ, zero, suc, ◌+◌, ◌-◌, ◌<◌, ◌≤◌, Bool, true, false, not, ◌&&◌, ◌||◌, cond, List, [], ◌∷◌, ◌++◌, length, get_or, take, drop, map, refl, sym, ap, subst, ◌∙◌, arith, inl, inr}
use Rattle.std.specs.Prelude.{All, set, ◌==◌, nat_lt, filter, if◌then◌else◌}
use Rattle.std.specs.List.{list_any}
use Rattle.std.proofs.lemmas.Bool.{cases_lt, eq-eqb, eqb-true, ne_eqb, or_parts}
use Rattle.std.proofs.lemmas.List.{get_or-take, get_or_default, take-take, length-take}
use Rattle.std.proofs.lemmas.List.Elements.{All-map}
use Rattle.std.proofs.lemmas.List.Folds.{list_any-append, list_any_none}
use Rattle.core_view.specs.declared.entry.Entry.{Entry}
use Rattle.core_view.specs.Flight.{IsGrowing, is_queued, is_open_guess}
use Rattle.core_view.specs.View.{no_entry}
use Rattle.data_flow.specs.Flow.{Flow, Waiter, with_speculative}
use Rattle.core_context.specs.Track.{Track}
use Rattle.core_context.specs.Queued.{queued_at, is_behind, unheld, waiting_of, waiter_for, up_to_guess, settled}
use Rattle.core_context.specs.Steps.{settled_flow}
use Rattle.core_context.proofs.Flights.{growing_take}
use Rattle.core_context.proofs.Waiting.{eqb-flip, or_none, and_none, growing_at}
use Rattle.core_context.proofs.Queue.{filter_both, filter_map_same, behind_at}

-- ---- the entries up to a place

pub take_more : (es : List Entry) (n : ℕ) → n < length es → take (n + 1) es ≡ take n es ++ get_or es n no_entry ∷ []
take_more es n lt = (let one : n + 1 ≡ suc n = omega arith in rw one (go es n lt))
  where
    go : (es : List Entry) (n : ℕ) → n < length es → take (suc n) es ≡ take n es ++ get_or es n no_entry ∷ []
    go [] n lt = absurd (omega arith)
    go (e ∷ es) zero lt = refl
    go (e ∷ es) (suc n) lt = ap (λ fs. e ∷ fs) (go es n (omega arith))

-- the oldest entries, none of which is open
pub none_open : (es : List Entry) (n : ℕ) → n ≤ length es → ((i : ℕ) → i < n → is_open_guess (get_or es i no_entry) ≡ false) → list_any is_open_guess (take n es) ≡ false
none_open es n le none = list_any_none is_open_guess (take n es) (λ i d lt.
    let below : i < n = omega (arith, lt, length-take n es) in
    ap is_open_guess (get_or_default (take n es) i d no_entry lt ∙ get_or-take n es i no_entry below) ∙ none i below)

pub up_none : (es : List Entry) → list_any is_open_guess es ≡ false → up_to_guess es ≡ es
up_none [] none = refl
up_none (e ∷ es) none = let parts = or_parts (is_open_guess e) (list_any is_open_guess es) none in rw parts.0 (ap (λ fs. e ∷ fs) (up_none es parts.1))

pub up_found : (es : List Entry) (r n : ℕ) → n < r → n < length es → list_any is_open_guess (take n es) ≡ false → is_open_guess (get_or es n no_entry) ≡ true → up_to_guess (take r es) ≡ take (n + 1) es
up_found es r n lt within none open_ = (let one : n + 1 ≡ suc n = omega arith in rw one (go es r n lt within none open_))
  where
    go : (es : List Entry) (r n : ℕ) → n < r → n < length es → list_any is_open_guess (take n es) ≡ false → is_open_guess (get_or es n no_entry) ≡ true → up_to_guess (take r es) ≡ take (suc n) es
    go es zero n lt within none open_ = absurd (omega arith)
    go [] (suc r) n lt within none open_ = absurd (omega arith)
    go (e ∷ es) (suc r) zero lt within none open_ = rw open_ refl
    go (e ∷ es) (suc r) (suc n) lt within none open_ =
        let parts = or_parts (is_open_guess e) (list_any is_open_guess (take n es)) none in
        rw parts.0 (ap (λ fs. e ∷ fs) (go es r n (omega arith) (omega arith) parts.1 open_))

-- ---- the loop over them

queued_more : (k : ℕ) (es : List Entry) (e : Entry) (b : Bool) → is_queued e.stage ≡ b → queued_at k (es ++ e ∷ []) ≡ (queued_at k es || ((e.stamp == k) && b))
queued_more k es e b is = list_any-append (λ x. (x.stamp == k) && is_queued x.stage) es (e ∷ []) ∙ rw (is, or_none ((e.stamp == k) && b)) refl

settled_more : (c : ℕ) (es : List Entry) (e : Entry) (w : Waiter) → is_queued e.stage ≡ true → with_speculative c e.stamp false (settled c es w) ≡ settled c (es ++ e ∷ []) w
settled_more c es e w is =
    rw (queued_more w.stamp es e true is, eqb-flip e.stamp w.stamp) (go (w.context == c) (queued_at w.stamp es) (w.stamp == e.stamp) refl refl)
  where
    go : (a q b : Bool) → (w.context == c) ≡ a → (w.stamp == e.stamp) ≡ b
        → with_speculative c e.stamp false (if a && q then record w { speculative = false } else w) ≡ (if a && (q || (b && true)) then record w { speculative = false } else w)
    go true true true here same = rw (here, same) refl
    go true true false here same = rw (here, same) refl
    go true false true here same = rw (here, same) refl
    go true false false here same = rw (here, same) refl
    go false q b here same = rw here refl

settled_kept : (c : ℕ) (es : List Entry) (e : Entry) (w : Waiter) → is_queued e.stage ≡ false → settled c es w ≡ settled c (es ++ e ∷ []) w
settled_kept c es e w is = rw (queued_more w.stamp es e false is, and_none (e.stamp == w.stamp), or_none (queued_at w.stamp es)) refl

map_two : (h k l : Waiter → Waiter) → ((w : Waiter) → h (k w) ≡ l w) → (ws : List Waiter) → map h (map k ws) ≡ map l ws
map_two h k l same [] = refl
map_two h k l same (w ∷ ws) = rw (same w, map_two h k l same ws) refl

map_one : (k l : Waiter → Waiter) → ((w : Waiter) → k w ≡ l w) → (ws : List Waiter) → map k ws ≡ map l ws
map_one k l same [] = refl
map_one k l same (w ∷ ws) = rw (same w, map_one k l same ws) refl

-- the marks of the first entries are settled
abbrev pub AreSettled : Flow → Flow → ℕ → List Entry → ℕ → Type 0
AreSettled old f c es n = f ≡ record old { waiters = map (settled c (take n es)) old.waiters }

-- a mark that isn't there
pub settled_unmarked : (c : ℕ) (es : List Entry) (w : Waiter) → w.speculative ≡ false → settled c es w ≡ w
settled_unmarked c es w off = go ((w.context == c) && queued_at w.stamp es)
  where
    bare : record w { speculative = false } ≡ w
    bare = ap (λ b. let v : Waiter = record w { speculative = b } in v) (sym off)

    go : (b : Bool) → (if b then record w { speculative = false } else w) ≡ w
    go true = bare
    go false = refl

-- or is of a younger entry
pub settled_later : (c n j : ℕ) (fs es : List Entry) → IsGrowing 0 es → n ≤ j → j < length es → settled c (take n es) (waiter_for c fs (get_or es j no_entry)) ≡ waiter_for c fs (get_or es j no_entry)
settled_later c n j fs es g le lt = rw (younger 0 es n j g le lt, and_none (c == c)) refl
  where
    younger : (low : ℕ) (es : List Entry) (n j : ℕ) → IsGrowing low es → n ≤ j → j < length es → queued_at (get_or es j no_entry).stamp (take n es) ≡ false
    younger low es zero j g le lt = refl
    younger low [] (suc n) j g le lt = absurd (omega (arith, lt))
    younger low (e ∷ es) (suc n) zero g le lt = absurd (omega (arith, le))
    younger low (e ∷ es) (suc n) (suc j) g le lt =
        let later = growing_at (e.stamp + 1) es j g.1 (omega (arith, lt)) in
        rw (ne_eqb e.stamp (get_or es j no_entry).stamp (λ same. omega (arith, later, same))) (younger (e.stamp + 1) es n j g.1 (omega (arith, le)) (omega (arith, lt)))

-- nothing of a context is to be told of these entries
pub settled_told : (f : Flow) (c : ℕ) (es : List Entry) → map (settled c es) (waiting_of f c) ≡ waiting_of f c → f ≡ record f { waiters = map (settled c es) f.waiters }
settled_told f c es told = ap (λ (ws : List Waiter). let r : Flow = record f { waiters = ws } in r) (sym (go f.waiters told))
  where
    go : (ws : List Waiter) → map (settled c es) (map unheld (filter (λ w. w.context == c) ws)) ≡ map unheld (filter (λ w. w.context == c) ws) → map (settled c es) ws ≡ ws
    go [] told = refl
    go (w ∷ ws) told = by_test (w.context == c) refl (go ws) told
      where
        alike : (b : Bool) → (if b then record (unheld w) { speculative = false } else unheld w) ≡ unheld w → (if b then record w { speculative = false } else w) ≡ w
        alike true h = ap (λ s. let v : Waiter = record w { speculative = s } in v) (ap (λ (v : Waiter). v.speculative) h)
        alike false h = refl

        by_test : (b : Bool) → (w.context == c) ≡ b
            → (map (settled c es) (map unheld (filter (λ v. v.context == c) ws)) ≡ map unheld (filter (λ v. v.context == c) ws) → map (settled c es) ws ≡ ws)
            → map (settled c es) (map unheld (cond b (w ∷ filter (λ v. v.context == c) ws) (filter (λ v. v.context == c) ws))) ≡ map unheld (cond b (w ∷ filter (λ v. v.context == c) ws) (filter (λ v. v.context == c) ws))
            → settled c es w ∷ map (settled c es) ws ≡ w ∷ ws
        by_test true here rest told =
            ap (λ v. v ∷ map (settled c es) ws) (alike ((w.context == c) && queued_at w.stamp es) (ap (λ vs. get_or vs 0 w) told))
            ∙ ap (λ vs. w ∷ vs) (rest (ap (λ (vs : List Waiter). drop 1 vs) told))
        by_test false here rest told =
            let same : settled c es w ≡ w = rw here refl in
            ap (λ v. v ∷ map (settled c es) ws) same ∙ ap (λ vs. w ∷ vs) (rest told)

-- one more is queued, and so its mark is taken
pub settled_queued : (old f g : Flow) (c : ℕ) (es : List Entry) (n : ℕ) (e : Entry) → AreSettled old f c es n → n < length es → e ≡ get_or es n no_entry → is_queued (get_or es n no_entry).stage ≡ true
    → g ≡ record f { waiters = map (with_speculative c e.stamp false) f.waiters } → AreSettled old g c es (n + 1)
settled_queued old f g c es n e h lt here queued step =
    let more : take (n + 1) es ≡ take n es ++ e ∷ [] = take_more es n lt ∙ ap (λ x. take n es ++ x ∷ []) (sym here) in
    let waits : is_queued e.stage ≡ true = ap (λ (x : Entry). is_queued x.stage) here ∙ queued in
    step ∙ ap (λ (q : Flow). let r : Flow = record q { waiters = map (with_speculative c e.stamp false) q.waiters } in r) h
    ∙ ap (λ (ws : List Waiter). let r : Flow = record old { waiters = ws } in r) (map_two (with_speculative c e.stamp false) (settled c (take n es)) (settled c (take n es ++ e ∷ [])) (λ w. settled_more c (take n es) e w waits) old.waiters ∙ ap (λ fs. map (settled c fs) old.waiters) (sym more))

-- or it isn't
settled_other : (old f : Flow) (c : ℕ) (es : List Entry) (n : ℕ) → AreSettled old f c es n → n < length es → is_queued (get_or es n no_entry).stage ≡ false → AreSettled old f c es (n + 1)
settled_other old f c es n h lt idle =
    let e = get_or es n no_entry in
    h ∙ ap (λ (ws : List Waiter). let r : Flow = record old { waiters = ws } in r) (map_one (settled c (take n es)) (settled c (take n es ++ e ∷ [])) (λ w. settled_kept c (take n es) e w idle) old.waiters ∙ ap (λ fs. map (settled c fs) old.waiters) (sym (take_more es n lt)))

-- those of some places aren't
pub settled_pass : (old f : Flow) (c : ℕ) (es : List Entry) (n m : ℕ) → AreSettled old f c es n → n ≤ m → m ≤ length es → ((i : ℕ) → n ≤ i → i < m → is_queued (get_or es i no_entry).stage ≡ false) → AreSettled old f c es m
settled_pass old f c es n m h le within idle = (let at : n + (m - n) ≡ m = omega (arith, le) in subst (λ k. AreSettled old f c es k) at (go (m - n) (omega (arith, le))))
  where
    go : (k : ℕ) → n + k ≤ m → AreSettled old f c es (n + k)
    go zero low = let same : n ≡ n + 0 = omega arith in subst (λ k. AreSettled old f c es k) same h
    go (suc k) low =
        let next : n + k + 1 ≡ n + suc k = omega arith in
        subst (λ k. AreSettled old f c es k) next (settled_other old f c es (n + k) (go k (omega (arith, low))) (omega (arith, low, within)) (idle (n + k) (omega arith) (omega (arith, low))))

-- up to the oldest open guess, or the last renamed entry, no other is queued
pub settled_end : (old f : Flow) (c : ℕ) (t : Track) (guess n : ℕ) → AreSettled old f c t.context.flight n → n ≤ t.renamed → n ≤ guess + 1 → t.renamed ≤ length t.context.flight
    → ((i : ℕ) → n ≤ i → i < t.renamed → i ≤ guess → is_queued (get_or t.context.flight i no_entry).stage ≡ false)
    → ((i : ℕ) → i < guess → i < t.renamed → is_open_guess (get_or t.context.flight i no_entry) ≡ false) → (guess < t.renamed → is_open_guess (get_or t.context.flight guess no_entry) ≡ true) → f ≡ settled_flow old c t
settled_end old f c t guess n h low past within idle before here = elim (cases_lt guess t.renamed) [ inl lt ↦ found lt | inr le ↦ all le ]
  where
    es : List Entry
    es = t.context.flight

    found : guess < t.renamed → f ≡ settled_flow old c t
    found lt =
        let up = settled_pass old f c es n (guess + 1) h past (omega (arith, lt, within)) (λ i from below. idle i from (omega (arith, below, lt)) (omega (arith, below))) in
        let none = none_open es guess (omega (arith, lt, within)) (λ i below. before i below (omega (arith, below, lt))) in
        up ∙ ap (λ fs. let r : Flow = record old { waiters = map (settled c fs) old.waiters } in r) (sym (up_found es t.renamed guess lt (omega (arith, lt, within)) none (here lt)))

    all : t.renamed ≤ guess → f ≡ settled_flow old c t
    all le =
        let up = settled_pass old f c es n t.renamed h low within (λ i from below. idle i from below (omega (arith, below, le))) in
        let none = none_open es t.renamed within (λ i below. before i (omega (arith, below, le)) below) in
        up ∙ ap (λ fs. let r : Flow = record old { waiters = map (settled c fs) old.waiters } in r) (sym (up_none (take t.renamed es) none))

-- ---- what it makes of what waits

settled_context : (c : ℕ) (es : List Entry) (w : Waiter) → (settled c es w).context ≡ w.context
settled_context c es w = go ((w.context == c) && queued_at w.stamp es)
  where
    go : (b : Bool) → (let v : Waiter = if b then record w { speculative = false } else w in v.context) ≡ w.context
    go true = refl
    go false = refl

settled_unheld : (c : ℕ) (es : List Entry) (w : Waiter) → unheld (settled c es w) ≡ settled c es (unheld w)
settled_unheld c es w = go ((w.context == c) && queued_at w.stamp es)
  where
    go : (b : Bool) → unheld (if b then record w { speculative = false } else w) ≡ (if b then record (unheld w) { speculative = false } else unheld w)
    go true = refl
    go false = refl

pub waiting-settled : (f : Flow) (c : ℕ) (es : List Entry) → map unheld (filter (λ w. w.context == c) (map (settled c es) f.waiters)) ≡ map (settled c es) (waiting_of f c)
waiting-settled f c es =
    ap (map unheld) (filter_map_same (λ w. w.context == c) (settled c es) f.waiters ∙ ap (map (settled c es)) (filter_both (λ w. (settled c es w).context == c) (λ w. w.context == c) (λ w. ap (λ d. d == c) (settled_context c es w)) f.waiters))
    ∙ swap (filter (λ w. w.context == c) f.waiters)
  where
    swap : (ws : List Waiter) → map unheld (map (settled c es) ws) ≡ map (settled c es) (map unheld ws)
    swap [] = refl
    swap (w ∷ ws) = rw (settled_unheld c es w, swap ws) refl

pub waiting-settled_other : (f : Flow) (c d : ℕ) (es : List Entry) → d ≢ c → map unheld (filter (λ w. w.context == d) (map (settled c es) f.waiters)) ≡ waiting_of f d
waiting-settled_other f c d es ne = go f.waiters
  where
    go : (ws : List Waiter) → map unheld (filter (λ w. w.context == d) (map (settled c es) ws)) ≡ map unheld (filter (λ w. w.context == d) ws)
    go [] = refl
    go (w ∷ ws) = rw (settled_context c es w) (by_test (w.context == d) refl (go ws))
      where
        same : (w.context == d) ≡ true → settled c es w ≡ w
        same here = let away : (w.context == c) ≡ false = ne_eqb w.context c (λ is. ne (sym (eqb-true w.context d here) ∙ is)) in rw away refl

        by_test : (b : Bool) → (w.context == d) ≡ b → map unheld (filter (λ v. v.context == d) (map (settled c es) ws)) ≡ map unheld (filter (λ v. v.context == d) ws)
            → map unheld (cond b (settled c es w ∷ filter (λ v. v.context == d) (map (settled c es) ws)) (filter (λ v. v.context == d) (map (settled c es) ws))) ≡ map unheld (cond b (w ∷ filter (λ v. v.context == d) ws) (filter (λ v. v.context == d) ws))
        by_test true here ih = rw (same here, ih) refl
        by_test false here ih = ih

pub contexts-settled : (f : Flow) (c : ℕ) (es : List Entry) → All (λ w. w.context < 8) f.waiters → All (λ w. w.context < 8) (map (settled c es) f.waiters)
contexts-settled f c es all = All-map (λ (w : Waiter). w.context < 8) (settled c es) f.waiters (λ i d lt. subst (λ k. k < 8) (sym (settled_context c es (get_or f.waiters i d))) (all i d lt))

pub let_go-settled : (f : Flow) (c : ℕ) (es : List Entry) → All (λ w. w.held ≡ false) f.waiters → All (λ w. w.held ≡ false) (map (settled c es) f.waiters)
let_go-settled f c es all = All-map (λ (w : Waiter). w.held ≡ false) (settled c es) f.waiters (λ i d lt. held (get_or f.waiters i d) (all i d lt))
  where
    held : (w : Waiter) → w.held ≡ false → (settled c es w).held ≡ false
    held w h = go ((w.context == c) && queued_at w.stamp es)
      where
        go : (b : Bool) → (let v : Waiter = if b then record w { speculative = false } else w in v.held) ≡ false
        go true = h
        go false = h

-- ---- whose mark is taken

-- a queued entry up to the oldest open guess is behind none
pub settled_at : (low : ℕ) (es : List Entry) (j : ℕ) → IsGrowing low es → j < length es → is_queued (get_or es j no_entry).stage ≡ true → queued_at (get_or es j no_entry).stamp (up_to_guess es) ≡ not (list_any is_open_guess (take j es))
settled_at low [] j g lt queued = absurd (omega arith)
settled_at low (e ∷ es) zero g lt queued = rw (eq-eqb e.stamp e.stamp refl, queued) refl
settled_at low (e ∷ es) (suc j) g lt queued =
    let later = growing_at (e.stamp + 1) es j g.1 (omega arith) in
    rw (ne_eqb e.stamp (get_or es j no_entry).stamp (λ same. omega (arith, later, same))) (go (is_open_guess e) (settled_at (e.stamp + 1) es j g.1 (omega arith) queued))
  where
    go : (b : Bool) → queued_at (get_or es j no_entry).stamp (up_to_guess es) ≡ not (list_any is_open_guess (take j es)) → queued_at (get_or es j no_entry).stamp (if b then [] else up_to_guess es) ≡ not (b || list_any is_open_guess (take j es))
    go true ih = refl
    go false ih = ih

-- where an entry closes, no more are open than were
pub behind_closed : (k : ℕ) (es : List Entry) (i : ℕ) (e : Entry) → is_open_guess e ≡ false → is_behind k (set es i e) ≡ true → is_behind k es ≡ true
behind_closed k [] i e closed h = h
behind_closed k (x ∷ es) zero e closed h =
    or_right (is_open_guess x && nat_lt x.stamp k) (is_behind k es) (sym (ap (λ b. (b && nat_lt e.stamp k) || is_behind k es) closed) ∙ h)
  where
    or_right : (a b : Bool) → b ≡ true → (a || b) ≡ true
    or_right true b h = refl
    or_right false b h = h
behind_closed k (x ∷ es) (suc i) e closed h = go (is_open_guess x && nat_lt x.stamp k) (is_behind k es) h (behind_closed k es i e closed)
  where
    go : (a b : Bool) → (a || is_behind k (set es i e)) ≡ true → (is_behind k (set es i e) ≡ true → b ≡ true) → (a || b) ≡ true
    go true b h ih = refl
    go false b h ih = ih h

-- the marks that a flight asks for, once those of another are settled: those that it has open were open there
pub settles : (c r : ℕ) (es fs : List Entry) → IsGrowing 0 fs → ((j : ℕ) → j < length fs → is_queued (get_or fs j no_entry).stage ≡ true → j < r)
    → ((j : ℕ) → j < length fs → is_behind (get_or fs j no_entry).stamp fs ≡ true → is_behind (get_or fs j no_entry).stamp es ≡ true)
    → (j : ℕ) → j < length fs → is_queued (get_or fs j no_entry).stage ≡ true → settled c (up_to_guess (take r fs)) (waiter_for c es (get_or fs j no_entry)) ≡ waiter_for c fs (get_or fs j no_entry)
settles c r es fs growing renamed opened j lt queued =
    rw (eq-eqb c c refl, taken) (go (list_any is_open_guess (take j fs)) refl)
  where
    e : Entry
    e = get_or fs j no_entry

    below : j < r
    below = renamed j lt queued

    here : get_or (take r fs) j no_entry ≡ e
    here = get_or-take r fs j no_entry below

    taken : queued_at e.stamp (up_to_guess (take r fs)) ≡ not (list_any is_open_guess (take j fs))
    taken =
        ap (λ (x : Entry). queued_at x.stamp (up_to_guess (take r fs))) (sym here)
        ∙ settled_at 0 (take r fs) j (growing_take 0 r fs growing) (omega (arith, length-take r fs, below, lt)) (ap (λ (x : Entry). is_queued x.stage) here ∙ queued)
        ∙ ap (λ xs. not (list_any is_open_guess xs)) (take-take j r fs (omega (arith, below)))

    behind : is_behind e.stamp fs ≡ list_any is_open_guess (take j fs)
    behind = behind_at 0 fs j growing lt

    go : (b : Bool) → list_any is_open_guess (take j fs) ≡ b → (if not b then record (waiter_for c es e) { speculative = false } else waiter_for c es e) ≡ waiter_for c fs e
    go true is = let old : is_behind e.stamp es ≡ true = opened j lt (behind ∙ is) in rw (old, behind, is) refl
    go false is = rw (behind, is) refl

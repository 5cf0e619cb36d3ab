-- What waits of a context, in order: the queued entries of its flight that weren't selected.
use Rattle.std.proofs.Common.{◌≡◌, ◌≢◌, ℕ, zero, suc, ◌+◌, ◌<◌, ◌≤◌, Bool, true, false, not, ◌&&◌, ◌||◌, cond, List, [], ◌∷◌, ◌++◌, length, get_or, take, drop, map, refl, sym, ap, subst, ◌∙◌, arith}
use Rattle.std.specs.Prelude.{All, set, ◌==◌, nat_lt, nat_le, filter}
use Rattle.std.specs.List.{list_any}
use Rattle.std.proofs.lemmas.Bool.{lt-ltb, le-ltb, eq-eqb, eqb-true, ne_eqb, and_parts, true≢false}
use Rattle.std.proofs.lemmas.List.Folds.{list_any-append}
use Rattle.std.proofs.lemmas.Bool.Decides.{nat_tests}
use Rattle.std.proofs.lemmas.List.{map-append}
use Rattle.std.proofs.lemmas.List.Elements.{filter-append, All-nil, All-cons, All-head, All-tail, All-map}
use Rattle.hart_step.specs.State.{State}
use Rattle.core_view.specs.declared.note.EntryId.{EntryId}
use Rattle.core_view.specs.declared.entry.Entry.{Entry}
use Rattle.core_view.specs.declared.entry.Stage.{Stage}
use Rattle.core_view.specs.declared.entry.Stage.TheVariants.{Fetched, Queued, Issued, Done}
use Rattle.core_view.specs.Operations.{is_guessed}
use Rattle.core_view.specs.Flight.{IsGrowing, is_done, is_queued, is_open_guess}
use Rattle.core_view.specs.View.{no_entry}
use Rattle.data_flow.specs.Flow.{Flow, Waiter, waits_in, is_waiter, is_waiter_from, cut_flow}
use Rattle.core_context.specs.Queued.{queued_at, is_behind, unheld, waiting_of, waiter_for}
use Rattle.core_context.specs.Track.{Track}
use Rattle.core_context.specs.Steps.{IsRemarked}
use Rattle.core_context.specs.Cores.{AllFetched, is_selected, is_waiting, waiters_of, IsCore}
use Rattle.core_context.proofs.Waiting.{or_none, and_none, and_all, growing_at}

-- ---- lists of which a test keeps some

pub filter_both : {X : Type 0} (p q : X → Bool) → ((x : X) → p x ≡ q x) → (xs : List X) → filter p xs ≡ filter q xs
filter_both p q same [] = refl
filter_both p q same (x ∷ xs) = rw (same x, filter_both p q same xs) refl

pub filter_map_same : {X Y : Type 0} (p : Y → Bool) (h : X → Y) (xs : List X) → filter p (map h xs) ≡ map h (filter (λ x. p (h x)) xs)
filter_map_same p h [] = refl
filter_map_same p h (x ∷ xs) = go (p (h x)) (filter_map_same p h xs)
  where
    go : (b : Bool) → filter p (map h xs) ≡ map h (filter (λ y. p (h y)) xs) → cond b (h x ∷ filter p (map h xs)) (filter p (map h xs)) ≡ map h (cond b (x ∷ filter (λ y. p (h y)) xs) (filter (λ y. p (h y)) xs))
    go true ih = ap (λ ys. h x ∷ ys) ih
    go false ih = ih

filter_swap : {X : Type 0} (p q : X → Bool) (xs : List X) → filter p (filter q xs) ≡ filter q (filter p xs)
filter_swap p q [] = refl
filter_swap p q (x ∷ xs) = go (p x) (q x) refl refl (filter_swap p q xs)
  where
    go : (a b : Bool) → p x ≡ a → q x ≡ b → filter p (filter q xs) ≡ filter q (filter p xs) → filter p (cond b (x ∷ filter q xs) (filter q xs)) ≡ filter q (cond a (x ∷ filter p xs) (filter p xs))
    go true true p-is q-is ih = rw (p-is, q-is, ih) refl
    go true false p-is q-is ih = rw (q-is, ih) refl
    go false true p-is q-is ih = rw (p-is, ih) refl
    go false false p-is q-is ih = ih

-- an element that fails the test in the place of one that does
filter_set_out : (p : Entry → Bool) (es : List Entry) (i : ℕ) (e : Entry) → p e ≡ false → p (get_or es i no_entry) ≡ false → filter p (set es i e) ≡ filter p es
filter_set_out p [] i e new old = refl
filter_set_out p (x ∷ es) zero e new old = rw (new, old) refl
filter_set_out p (x ∷ es) (suc i) e new old = ap (λ fs. cond (p x) (x ∷ fs) fs) (filter_set_out p es i e new old)

-- ---- the queued entries of a flight

idle : (names : List EntryId) (c : ℕ) (e : Entry) → is_queued e.stage ≡ false → is_waiting names c e ≡ false
idle names c e h = rw h refl

-- what is said of the queued entries alone
pub map_waiting : (names : List EntryId) (c : ℕ) (h k : Entry → Waiter) (es : List Entry) → ((j : ℕ) → j < length es → is_queued (get_or es j no_entry).stage ≡ true → h (get_or es j no_entry) ≡ k (get_or es j no_entry))
    → map h (filter (is_waiting names c) es) ≡ map k (filter (is_waiting names c) es)
map_waiting names c h k [] same = refl
map_waiting names c h k (e ∷ es) same = go (is_waiting names c e) refl (map_waiting names c h k es (λ j lt. same (suc j) (omega (arith, lt))))
  where
    go : (b : Bool) → is_waiting names c e ≡ b → map h (filter (is_waiting names c) es) ≡ map k (filter (is_waiting names c) es)
        → map h (cond b (e ∷ filter (is_waiting names c) es) (filter (is_waiting names c) es)) ≡ map k (cond b (e ∷ filter (is_waiting names c) es) (filter (is_waiting names c) es))
    go true is ih = rw ih (ap (λ w. w ∷ map k (filter (is_waiting names c) es)) (same 0 (omega arith) (and_parts (is_queued e.stage) (not (is_selected names c e.stamp)) is).0))
    go false is ih = ih

-- they wait alike in flights in which the same guessed entries are open before them
pub waiters-flights : (names : List EntryId) (c : ℕ) (es fs xs : List Entry) → ((j : ℕ) → j < length xs → is_queued (get_or xs j no_entry).stage ≡ true → is_behind (get_or xs j no_entry).stamp es ≡ is_behind (get_or xs j no_entry).stamp fs)
    → map (waiter_for c es) (filter (is_waiting names c) xs) ≡ map (waiter_for c fs) (filter (is_waiting names c) xs)
waiters-flights names c es fs xs same = map_waiting names c (waiter_for c es) (waiter_for c fs) xs (λ j lt queued. rw (same j lt queued) refl)

-- one more, which isn't queued, and is younger
pub waiters-push : (names : List EntryId) (c : ℕ) (es : List Entry) (e : Entry) → is_queued e.stage ≡ false → All (λ x. x.stamp < e.stamp) es → waiters_of names c (es ++ e ∷ []) ≡ waiters_of names c es
waiters-push names c es e h older =
    ap (map (waiter_for c (es ++ e ∷ []))) (filter-append (is_waiting names c) es (e ∷ []) ∙ rest) ∙ waiters-flights names c (es ++ e ∷ []) es es (λ j lt queued. younger (get_or es j no_entry).stamp (older j no_entry lt))
  where
    nil : (xs : List Entry) → xs ++ [] ≡ xs
    nil [] = refl
    nil (x ∷ xs) = ap (λ ys. x ∷ ys) (nil xs)

    rest : filter (is_waiting names c) es ++ filter (is_waiting names c) (e ∷ []) ≡ filter (is_waiting names c) es
    rest = rw (idle names c e h) (nil (filter (is_waiting names c) es))

    younger : (k : ℕ) → k < e.stamp → is_behind k (es ++ e ∷ []) ≡ is_behind k es
    younger k lt =
        list_any-append (λ x. is_open_guess x && nat_lt x.stamp k) es (e ∷ [])
        ∙ rw (le-ltb e.stamp k (omega (arith, lt)), and_none (is_open_guess e)) (or_none (is_behind k es))

-- the oldest entry goes, which is done
pub waiters-drop : (names : List EntryId) (c : ℕ) (es : List Entry) → is_done (get_or es 0 no_entry).stage ≡ true → waiters_of names c (drop 1 es) ≡ waiters_of names c es
waiters-drop names c [] h = refl
waiters-drop names c (e ∷ es) h =
    let done : is_open_guess e ≡ false = ap (λ b. is_guessed e.operation && not b) h ∙ and_none (is_guessed e.operation) in
    waiters-flights names c es (e ∷ es) es (λ j lt queued. sym (ap (λ b. (b && nat_lt e.stamp (get_or es j no_entry).stamp) || is_behind (get_or es j no_entry).stamp es) done))
    ∙ ap (λ b. map (waiter_for c (e ∷ es)) (cond b (e ∷ filter (is_waiting names c) es) (filter (is_waiting names c) es))) (sym (idle names c e (done_idle e.stage h)))
  where
    done_idle : (s : Stage) → is_done s ≡ true → is_queued s ≡ false
    done_idle Fetched h = refl
    done_idle Queued h = absurd (true≢false (sym h))
    done_idle (Issued x) h = refl
    done_idle (Done x) h = refl

-- an entry goes on, and is as open as it was
pub behind-set : (k : ℕ) (es : List Entry) (i : ℕ) (e : Entry) → i < length es → e.stamp ≡ (get_or es i no_entry).stamp → is_open_guess e ≡ is_open_guess (get_or es i no_entry) → is_behind k (set es i e) ≡ is_behind k es
behind-set k [] i e lt stamp open_ = absurd (omega arith)
behind-set k (x ∷ es) zero e lt stamp open_ = rw (stamp, open_) refl
behind-set k (x ∷ es) (suc i) e lt stamp open_ = ap (λ b. (is_open_guess x && nat_lt x.stamp k) || b) (behind-set k es i e (omega arith) stamp open_)

-- one that isn't queued goes on, and isn't queued
pub waiters-same : (names : List EntryId) (c : ℕ) (es : List Entry) (i : ℕ) (e : Entry) → i < length es → e.stamp ≡ (get_or es i no_entry).stamp → is_open_guess e ≡ is_open_guess (get_or es i no_entry)
    → is_queued e.stage ≡ false → is_queued (get_or es i no_entry).stage ≡ false → waiters_of names c (set es i e) ≡ waiters_of names c es
waiters-same names c es i e lt stamp open_ new old =
    ap (map (waiter_for c (set es i e))) (filter_set_out (is_waiting names c) es i e (idle names c e new) (idle names c (get_or es i no_entry) old))
    ∙ waiters-flights names c (set es i e) es es (λ j within queued. behind-set (get_or es j no_entry).stamp es i e lt stamp open_)

-- without regard to which are open: one that isn't queued goes on, and those from a stamp on go
pub waiters-left : (names : List EntryId) (c s : ℕ) (es : List Entry) (i : ℕ) (e : Entry) (h : Entry → Waiter) → ((x : Entry) → (h x).stamp ≡ x.stamp) → is_queued e.stage ≡ false → is_queued (get_or es i no_entry).stage ≡ false
    → filter (λ w. nat_lt w.stamp s) (map h (filter (is_waiting names c) es)) ≡ map h (filter (is_waiting names c) (filter (λ x. nat_lt x.stamp s) (set es i e)))
waiters-left names c s es i e h stamps new old =
    filter_map_same (λ w. nat_lt w.stamp s) h (filter (is_waiting names c) es)
    ∙ ap (map h) (filter_both (λ x. nat_lt (h x).stamp s) (λ x. nat_lt x.stamp s) (λ x. ap (λ k. nat_lt k s) (stamps x)) (filter (is_waiting names c) es)
    ∙ filter_swap (λ x. nat_lt x.stamp s) (is_waiting names c) es ∙ sym (filter_swap (λ x. nat_lt x.stamp s) (is_waiting names c) es)
    ∙ ap (filter (λ x. nat_lt x.stamp s)) (sym (filter_set_out (is_waiting names c) es i e (idle names c e new) (idle names c (get_or es i no_entry) old)))
    ∙ filter_swap (λ x. nat_lt x.stamp s) (is_waiting names c) (set es i e))

pub waiters-stay : (names : List EntryId) (c : ℕ) (es : List Entry) (i : ℕ) (e : Entry) (h : Entry → Waiter) → is_queued e.stage ≡ false → is_queued (get_or es i no_entry).stage ≡ false
    → map h (filter (is_waiting names c) es) ≡ map h (filter (is_waiting names c) (set es i e))
waiters-stay names c es i e h new old = ap (map h) (sym (filter_set_out (is_waiting names c) es i e (idle names c e new) (idle names c (get_or es i no_entry) old)))

none_fetched : (names : List EntryId) (c : ℕ) (es : List Entry) → AllFetched es → filter (is_waiting names c) es ≡ []
none_fetched names c [] a = refl
none_fetched names c (e ∷ es) a = rw (idle names c e (ap is_queued a.0)) (none_fetched names c es a.1)

-- the oldest fetched entry is queued, and is the youngest that waits
pub waiters-enter : (names : List EntryId) (c : ℕ) (es : List Entry) (i : ℕ) (e : Entry) → i < length es → e.stamp ≡ (get_or es i no_entry).stamp → is_open_guess e ≡ is_open_guess (get_or es i no_entry) → AllFetched (drop i es) → is_waiting names c e ≡ true
    → waiters_of names c (set es i e) ≡ waiters_of names c es ++ waiter_for c es e ∷ []
waiters-enter names c es i e lt stamp open_ fetched new =
    waiters-flights names c (set es i e) es (set es i e) (λ j within queued. behind-set (get_or (set es i e) j no_entry).stamp es i e lt stamp open_)
    ∙ ap (map (waiter_for c es)) (last es i lt fetched) ∙ map-append (waiter_for c es) (filter (is_waiting names c) es) (e ∷ [])
  where
    last : (es : List Entry) (i : ℕ) → i < length es → AllFetched (drop i es) → filter (is_waiting names c) (set es i e) ≡ filter (is_waiting names c) es ++ e ∷ []
    last [] i lt a = absurd (omega arith)
    last (x ∷ es) zero lt a = rw (new, idle names c x (ap is_queued a.0), none_fetched names c es a.1) refl
    last (x ∷ es) (suc i) lt a = go (is_waiting names c x) (last es i (omega arith) a)
      where
        go : (b : Bool) → filter (is_waiting names c) (set es i e) ≡ filter (is_waiting names c) es ++ e ∷ []
            → cond b (x ∷ filter (is_waiting names c) (set es i e)) (filter (is_waiting names c) (set es i e)) ≡ cond b (x ∷ filter (is_waiting names c) es) (filter (is_waiting names c) es) ++ e ∷ []
        go true ih = ap (λ fs. x ∷ fs) ih
        go false ih = ih

-- ---- the guessed entries before a place

none_behind : (k low : ℕ) (es : List Entry) → k ≤ low → IsGrowing low es → is_behind k es ≡ false
none_behind k low [] le g = refl
none_behind k low (e ∷ es) le g =
    let from = g.0 in
    rw (le-ltb e.stamp k (omega (arith, le, from)), and_none (is_open_guess e)) (none_behind k (e.stamp + 1) es (omega (arith, le, from)) g.1)

pub behind_at : (low : ℕ) (es : List Entry) (j : ℕ) → IsGrowing low es → j < length es → is_behind (get_or es j no_entry).stamp es ≡ list_any is_open_guess (take j es)
behind_at low [] j g lt = absurd (omega arith)
behind_at low (e ∷ es) zero g lt = rw (le-ltb e.stamp e.stamp (omega arith), and_none (is_open_guess e)) (none_behind e.stamp (e.stamp + 1) es (omega arith) g.1)
behind_at low (e ∷ es) (suc j) g lt =
    let later = growing_at (e.stamp + 1) es j g.1 (omega arith) in
    rw (lt-ltb e.stamp (get_or es j no_entry).stamp (omega (arith, later)), and_all (is_open_guess e)) (ap (λ b. is_open_guess e || b) (behind_at (e.stamp + 1) es j g.1 (omega arith)))

-- ---- an entry that issues

-- a name of another stamp is none of an entry
other_stamp : (names : List EntryId) (c k s : ℕ) → k ≢ s → is_selected (record { context = c; stamp = k } ∷ names) c s ≡ is_selected names c s
other_stamp names c k s ne = rw (ne_eqb k s ne, and_none (c == c)) refl

younger_wait : (names : List EntryId) (c k low : ℕ) (es : List Entry) → k < low → IsGrowing low es → filter (is_waiting (record { context = c; stamp = k } ∷ names) c) es ≡ filter (is_waiting names c) es
younger_wait names c k low [] lt g = refl
younger_wait names c k low (e ∷ es) lt g =
    let from = g.0 in
    rw (other_stamp names c k e.stamp (λ same. omega (arith, lt, from, same)), younger_wait names c k (e.stamp + 1) es (omega (arith, lt, from)) g.1) refl

-- the entry of the first name issues, and the others wait as they did
pub waiters-issue : (names : List EntryId) (c k low : ℕ) (es : List Entry) (i : ℕ) (e : Entry) → IsGrowing low es → i < length es → (get_or es i no_entry).stamp ≡ k → e.stamp ≡ k → is_open_guess e ≡ is_open_guess (get_or es i no_entry) → is_queued e.stage ≡ false
    → waiters_of names c (set es i e) ≡ waiters_of (record { context = c; stamp = k } ∷ names) c es
waiters-issue names c k low es i e g lt is stamp open_ new =
    waiters-flights names c (set es i e) es (set es i e) (λ j within queued. behind-set (get_or (set es i e) j no_entry).stamp es i e lt (stamp ∙ sym is) open_) ∙ ap (map (waiter_for c es)) (go low es i g lt is)
  where
    go : (low : ℕ) (es : List Entry) (i : ℕ) → IsGrowing low es → i < length es → (get_or es i no_entry).stamp ≡ k → filter (is_waiting names c) (set es i e) ≡ filter (is_waiting (record { context = c; stamp = k } ∷ names) c) es
    go low [] i g lt is = absurd (omega arith)
    go low (x ∷ es) zero g lt is =
        let named : is_selected (record { context = c; stamp = k } ∷ names) c x.stamp ≡ true = rw (eq-eqb c c refl, eq-eqb k x.stamp (sym is)) refl in
        let gone : is_waiting (record { context = c; stamp = k } ∷ names) c x ≡ false = ap (λ b. is_queued x.stage && not b) named ∙ and_none (is_queued x.stage) in
        rw (idle names c e new, gone) (sym (younger_wait names c k (x.stamp + 1) es (omega (arith, is)) g.1))
    go low (x ∷ es) (suc i) g lt is =
        let later = growing_at (x.stamp + 1) es i g.1 (omega arith) in
        rw (other_stamp names c k x.stamp (λ same. omega (arith, later, is, same)), go (x.stamp + 1) es i g.1 (omega arith) is) refl

-- the name of another context is none of an entry
pub waiters-other : (names : List EntryId) (c k d : ℕ) (es : List Entry) → d ≢ c → waiters_of (record { context = c; stamp = k } ∷ names) d es ≡ waiters_of names d es
waiters-other names c k d es ne = ap (map (waiter_for d es)) (filter_both (is_waiting (record { context = c; stamp = k } ∷ names) d) (is_waiting names d) (λ e. same e) es)
  where
    same : (e : Entry) → is_waiting (record { context = c; stamp = k } ∷ names) d e ≡ is_waiting names d e
    same e = rw (ne_eqb c d (λ is. ne (sym is))) refl

-- ---- the waiters of the data flow

-- a change of marks
pub unheld-map : (h : Waiter → Waiter) → ((w : Waiter) → unheld (h w) ≡ unheld w) → (ws : List Waiter) → map unheld (map h ws) ≡ map unheld ws
unheld-map h same [] = refl
unheld-map h same (w ∷ ws) = ap (λ v. v ∷ map unheld (map h ws)) (same w) ∙ ap (λ vs. unheld w ∷ vs) (unheld-map h same ws)

-- leaves what waits of a context
pub waiting-remarked : (f g : Flow) (c : ℕ) → IsRemarked f g → waiting_of g c ≡ waiting_of f c
waiting-remarked f g c marks =
    sym (filter_map_same (λ w. w.context == c) unheld g.waiters) ∙ ap (filter (λ w. w.context == c)) marks.waits ∙ filter_map_same (λ w. w.context == c) unheld f.waiters

-- and each of it is of one of the eight
pub eight-remarked : (f g : Flow) → IsRemarked f g → All (λ w. w.context < 8) f.waiters → All (λ w. w.context < 8) g.waiters
eight-remarked f g marks all = bare g.waiters (subst (All (λ (w : Waiter). w.context < 8)) (sym marks.waits) (All-map (λ (w : Waiter). w.context < 8) unheld f.waiters all))
  where
    bare : (ws : List Waiter) → All (λ (w : Waiter). w.context < 8) (map unheld ws) → All (λ (w : Waiter). w.context < 8) ws
    bare [] all = All-nil (λ (w : Waiter). w.context < 8)
    bare (w ∷ ws) all = All-cons (λ (v : Waiter). v.context < 8) w ws (All-head (λ (v : Waiter). v.context < 8) (unheld w) (map unheld ws) all) (bare ws (All-tail (λ (v : Waiter). v.context < 8) (unheld w) (map unheld ws) all))

-- one more
pub waiting-push : (f : Flow) (w : Waiter) (c : ℕ) → w.context ≡ c → waiting_of (record f { waiters = f.waiters ++ w ∷ [] }) c ≡ waiting_of f c ++ unheld w ∷ []
waiting-push f w c is =
    ap (map unheld) (filter-append (λ v. v.context == c) f.waiters (w ∷ []) ∙ rw (eq-eqb w.context c is) refl) ∙ map-append unheld (filter (λ v. v.context == c) f.waiters) (w ∷ [])

pub waiting-push_other : (f : Flow) (w : Waiter) (d : ℕ) → d ≢ w.context → waiting_of (record f { waiters = f.waiters ++ w ∷ [] }) d ≡ waiting_of f d
waiting-push_other f w d ne = ap (map unheld) (filter-append (λ v. v.context == d) f.waiters (w ∷ []) ∙ rw (ne_eqb w.context d (λ same. ne (sym same))) (nil (filter (λ v. v.context == d) f.waiters)))
  where
    nil : (xs : List Waiter) → xs ++ [] ≡ xs
    nil [] = refl
    nil (x ∷ xs) = ap (λ ys. x ∷ ys) (nil xs)

-- those of a context from a stamp on are squashed
pub waiting-cut : (f : Flow) (c s : ℕ) → waiting_of (cut_flow f c s) c ≡ filter (λ w. nat_lt w.stamp s) (waiting_of f c)
waiting-cut f c s = go f.waiters
  where
    rest : List Waiter → List Waiter
    rest ws = filter (λ w. not (is_waiter_from c s w)) ws

    go : (ws : List Waiter) → map unheld (filter (λ w. w.context == c) (filter (λ w. not (is_waiter_from c s w)) ws)) ≡ filter (λ w. nat_lt w.stamp s) (map unheld (filter (λ w. w.context == c) ws))
    go [] = refl
    go (w ∷ ws) = by_test (w.context == c) (nat_lt w.stamp s) (nat_le s w.stamp) refl refl (grind (arith, nat_tests)) (go ws)
      where
        by_test : (a t l : Bool) → (w.context == c) ≡ a → nat_lt w.stamp s ≡ t → l ≡ not t
            → map unheld (filter (λ v. v.context == c) (filter (λ v. not (is_waiter_from c s v)) ws)) ≡ filter (λ v. nat_lt v.stamp s) (map unheld (filter (λ v. v.context == c) ws))
            → map unheld (filter (λ v. v.context == c) (cond (not (a && l)) (w ∷ filter (λ v. not (is_waiter_from c s v)) ws) (filter (λ v. not (is_waiter_from c s v)) ws)))
            ≡ filter (λ v. nat_lt v.stamp s) (map unheld (cond a (w ∷ filter (λ v. v.context == c) ws) (filter (λ v. v.context == c) ws)))
        by_test true true l here below older ih = rw (older, here, below, ih) refl
        by_test true false l here below older ih = rw (older, below) ih
        by_test false t l here below older ih = rw here ih

-- those of another context stay
pub waiting-cut_other : (f : Flow) (c d s : ℕ) → d ≢ c → waiting_of (cut_flow f c s) d ≡ waiting_of f d
waiting-cut_other f c d s ne = ap (map unheld) (go f.waiters)
  where
    go : (ws : List Waiter) → filter (λ w. w.context == d) (filter (λ w. not (is_waiter_from c s w)) ws) ≡ filter (λ w. w.context == d) ws
    go [] = refl
    go (w ∷ ws) = by_test (w.context == c) (w.context == d) refl refl (go ws)
      where
        by_test : (a b : Bool) → (w.context == c) ≡ a → (w.context == d) ≡ b → filter (λ v. v.context == d) (filter (λ v. not (is_waiter_from c s v)) ws) ≡ filter (λ v. v.context == d) ws
            → filter (λ v. v.context == d) (cond (not (a && nat_le s w.stamp)) (w ∷ filter (λ v. not (is_waiter_from c s v)) ws) (filter (λ v. not (is_waiter_from c s v)) ws))
            ≡ cond b (w ∷ filter (λ v. v.context == d) ws) (filter (λ v. v.context == d) ws)
        by_test true true here there ih = absurd (ne (sym (eqb-true w.context d there) ∙ eqb-true w.context c here))
        by_test true false here there ih = by_age (nat_le s w.stamp)
          where
            by_age : (l : Bool) → filter (λ v. v.context == d) (cond (not l) (w ∷ filter (λ v. not (is_waiter_from c s v)) ws) (filter (λ v. not (is_waiter_from c s v)) ws)) ≡ filter (λ v. v.context == d) ws
            by_age true = ih
            by_age false = rw there ih
        by_test false b here there ih = rw (there, ih) refl

-- none is below stamp 0
pub none_before : (ws : List Waiter) → filter (λ w. nat_lt w.stamp 0) ws ≡ []
none_before [] = refl
none_before (w ∷ ws) = rw (le-ltb w.stamp 0 (omega arith)) (none_before ws)

-- ---- by stamp

named_waits : (c k : ℕ) (ws : List Waiter) → list_any (is_waiter c k) ws ≡ list_any (λ w. w.stamp == k) (map unheld (filter (λ w. w.context == c) ws))
named_waits c k [] = refl
named_waits c k (w ∷ ws) = go (w.context == c) (named_waits c k ws)
  where
    go : (b : Bool) → list_any (is_waiter c k) ws ≡ list_any (λ v. v.stamp == k) (map unheld (filter (λ v. v.context == c) ws))
        → ((b && (w.stamp == k)) || list_any (is_waiter c k) ws) ≡ list_any (λ v. v.stamp == k) (map unheld (cond b (w ∷ filter (λ v. v.context == c) ws) (filter (λ v. v.context == c) ws)))
    go true ih = ap (λ r. (w.stamp == k) || r) ih
    go false ih = ih

named_queued : (names : List EntryId) (c k : ℕ) (fs es : List Entry) → list_any (λ w. w.stamp == k) (map (waiter_for c fs) (filter (is_waiting names c) es)) ≡ (queued_at k es && not (is_selected names c k))
named_queued names c k fs [] = refl
named_queued names c k fs (e ∷ es) = go (e.stamp == k) (is_queued e.stage) (is_selected names c e.stamp) refl (λ same. ap (is_selected names c) (eqb-true e.stamp k same)) (named_queued names c k fs es)
  where
    go : (b q s : Bool) → (e.stamp == k) ≡ b → (b ≡ true → s ≡ is_selected names c k) → list_any (λ w. w.stamp == k) (map (waiter_for c fs) (filter (is_waiting names c) es)) ≡ (queued_at k es && not (is_selected names c k))
        → list_any (λ w. w.stamp == k) (map (waiter_for c fs) (cond (q && not s) (e ∷ filter (is_waiting names c) es) (filter (is_waiting names c) es))) ≡ (((b && q) || queued_at k es) && not (is_selected names c k))
    go false q s here same ih = by_test (q && not s)
      where
        by_test : (t : Bool) → list_any (λ w. w.stamp == k) (map (waiter_for c fs) (cond t (e ∷ filter (is_waiting names c) es) (filter (is_waiting names c) es))) ≡ (queued_at k es && not (is_selected names c k))
        by_test true = rw here ih
        by_test false = ih
    go true false s here same ih = ih
    go true true true here same ih = ih ∙ ap (λ u. queued_at k es && not u) (sym (same refl)) ∙ and_none (queued_at k es) ∙ ap not (same refl)
    go true true false here same ih = rw here (ap not (same refl))

restored : (w s : Bool) → (s ≡ true → w ≡ true) → ((w && not s) || s) ≡ w
restored true true h = refl
restored false true h = sym (h refl)
restored true false h = refl
restored false false h = refl

-- what waits under a stamp or was selected is what is queued under it
pub core_waiting : {start : State} {stamp reorder c : ℕ} {f : Flow} {names : List EntryId} {t : Track} → IsCore start stamp reorder f names c t → (k : ℕ) → (waits_in f c k || is_selected names c k) ≡ queued_at k t.context.flight
core_waiting {c = c} {f = f} {names = names} {t = t} core k =
    let named : waits_in f c k ≡ (queued_at k t.context.flight && not (is_selected names c k)) = named_waits c k f.waiters ∙ ap (list_any (λ w. w.stamp == k)) core.waiting ∙ named_queued names c k t.context.flight t.context.flight in
    ap (λ b. b || is_selected names c k) named ∙ restored (queued_at k t.context.flight) (is_selected names c k) (core.selected k)

-- none was selected
pub none_selected : (c : ℕ) (es : List Entry) (k : ℕ) → is_selected [] c k ≡ true → queued_at k es ≡ true
none_selected c es k h = absurd (true≢false (sym h))

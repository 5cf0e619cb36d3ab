-- What is selected leaves the waiting, has the values of its sources, and may issue on them.
use Rattle.std.proofs.Common.{◌≡◌, ℕ, zero, suc, ◌+◌, ◌<◌, Bool, true, false, not, ◌&&◌, ◌||◌, cond, List, [], ◌∷◌, length, get_or, take, map, Option, refl, sym, ap, subst, ◌∙◌, arith}
use Rattle.std.specs.Prelude.{◌==◌, All, AllPairs, Contains, filter, is_some}
use Rattle.std.specs.List.{list_any}
use Rattle.std.proofs.lemmas.Bool.{and_parts, eqb-true, eq-eqb, ne_eqb, true≢false}
use Rattle.std.proofs.lemmas.List.{length-map, length-take-le, get_or-map, get_or-take}
use Rattle.std.proofs.lemmas.List.Elements.{All-head, All-tail, All-map}
use Rattle.std.proofs.lemmas.List.Folds.{list_any_at, list_any_none}
use Rattle.hart_step.specs.State.{State}
use Rattle.core_view.specs.declared.note.EntryId.{EntryId}
use Rattle.issue_queue.specs.Entry.{Entry as Waiting, IsReady, AreDistinct, is_named}
use Rattle.issue_queue.specs.Views.{name_of}
use Rattle.issue_queue.specs.IsSelected.{IsSelected, is_among}
use Rattle.core_view.specs.declared.entry.Stage.TheVariants.{Queued}
use Rattle.core_view.specs.declared.entry.Entry.{Entry}
use Rattle.core_view.specs.Flight.{known, IsGrowing, is_queued}
use Rattle.core_view.specs.View.{entry_at, no_entry}
use Rattle.data_flow.specs.Wired.{waiter_of}
use Rattle.data_flow.specs.Flow.{Waiter, Lane, Flow, lane, seen_past_node, seen_past_nodes, sources_of, sources_at, is_supplied, is_waiter, waits_in, waits_of, queued_waiter, queued}
use Rattle.core_context.specs.Queued.{unheld, waiting_of, waiter_for}
use Rattle.core_context.specs.Issuable.{may_issue_at, IsMarked, must_wait, AreHeld, IsClear}
use Rattle.core_back.specs.Shown.{AreApart, IsSuppliedIn}
use Rattle.core_context.specs.Steps.{IsRemarked}
use Rattle.core_context.specs.Track.{Track}
use Rattle.core_context.specs.Cores.{operands_of, node_of_entry, is_selected, is_waiting, waiters_of, IsCore}
use Rattle.core_context.proofs.Laws.{growing_take, remarked_lane, selected_at, other_core, node_count, operands_at, eqb-flip, growing_at, core_waiting, waiting-remarked}

-- ---- names

-- a name stands for the entry of its context and stamp
abbrev pub is_name : ℕ → ℕ → EntryId → Bool
is_name c k n = (n.context == c) && (n.stamp == k)

flip_name : (c k : ℕ) (n : EntryId) (e : Waiting) → is_named c k e ≡ true → is_named n.context n.stamp e ≡ is_name c k n
flip_name c k n e is =
    let h = and_parts (e.context == c) (e.stamp == k) is in
    rw (eqb-true e.context c h.0, eqb-true e.stamp k h.1, eqb-flip c n.context, eqb-flip k n.stamp) refl

-- an entry is among the names where its context and stamp are
among_names : (c k : ℕ) (names : List EntryId) (e : Waiting) → is_named c k e ≡ true → is_among names e ≡ is_selected names c k
among_names c k [] e is = refl
among_names c k (n ∷ names) e is = rw (flip_name c k n e is) (ap (λ b. is_name c k n || b) (among_names c k names e is))

-- a name of these is selected
pub name_selected : (names : List EntryId) (i : ℕ) (d : EntryId) → i < length names → is_selected names (get_or names i d).context (get_or names i d).stamp ≡ true
name_selected names i d lt =
    let n = get_or names i d in
    list_any_at (is_name n.context n.stamp) names i d lt (rw (eq-eqb n.context n.context refl, eq-eqb n.stamp n.stamp refl) refl)

-- ---- what waits

pub any-map : {X Y : Type 0} (test : Y → Bool) (h : X → Y) (xs : List X) → list_any test (map h xs) ≡ list_any (λ x. test (h x)) xs
any-map test h [] = refl
any-map test h (x ∷ xs) = ap (λ b. test (h x) || b) (any-map test h xs)

-- the queue has the names of the waiters
pub queue_waits : (f : Flow) (c k : ℕ) → list_any (is_named c k) (queued f) ≡ waits_in f c k
queue_waits f c k = any-map (is_named c k) (queued_waiter f.lanes) f.waiters

any_cond : {X : Type 0} (test : X → Bool) (b : Bool) (x : X) (xs : List X) → list_any test (cond b (x ∷ xs) xs) ≡ cond b (test x || list_any test xs) (list_any test xs)
any_cond test true x xs = refl
any_cond test false x xs = refl

and_none : (b : Bool) → (b && false) ≡ false
and_none true = refl
and_none false = refl

left_at : (p m s r r' : Bool) → (p ≡ true → m ≡ s) → r' ≡ (r && not s) → cond (not m) (p || r') r' ≡ ((p || r) && not s)
left_at true true s r r' same ih = let is : true ≡ s = same refl in ih ∙ ap (λ t. r && not t) (sym is) ∙ and_none r ∙ ap not is
left_at true false s r r' same ih = let is : false ≡ s = same refl in ap not is
left_at false true s r r' same ih = ih
left_at false false s r r' same ih = ih

-- what isn't among the names stays
left_named : (c k : ℕ) (names : List EntryId) (es : List Waiting) → list_any (is_named c k) (filter (λ e. not (is_among names e)) es) ≡ (list_any (is_named c k) es && not (is_selected names c k))
left_named c k names [] = refl
left_named c k names (e ∷ es) =
    any_cond (is_named c k) (not (is_among names e)) e (filter (λ x. not (is_among names x)) es)
    ∙ left_at (is_named c k e) (is_among names e) (is_selected names c k) (list_any (is_named c k) es) (list_any (is_named c k) (filter (λ x. not (is_among names x)) es)) (among_names c k names e) (left_named c k names es)

-- what was selected waited
chosen_named : (c k : ℕ) (es chosen : List Waiting) → All (Contains es) chosen → is_selected (map name_of chosen) c k ≡ true → list_any (is_named c k) es ≡ true
chosen_named c k es [] from h = absurd cc
chosen_named c k es (e ∷ chosen) from h = go (is_named c k e) refl h (chosen_named c k es chosen (All-tail (Contains es) e chosen from))
  where
    go : (b : Bool) → is_named c k e ≡ b → (b || is_selected (map name_of chosen) c k) ≡ true → (is_selected (map name_of chosen) c k ≡ true → list_any (is_named c k) es ≡ true) → list_any (is_named c k) es ≡ true
    go true is h rest =
        let place = All-head (Contains es) e chosen from in
        list_any_at (is_named c k) es place.0 e place.1 (ap (is_named c k) place.2 ∙ is)
    go false is h rest = rest h

-- ---- what a selection leaves

-- what was selected doesn't wait any more, and the others wait as before
pub select_left : {key : Waiting → ℕ} {width : ℕ} {names : List EntryId} (f g : Flow) → IsSelected key width (queued f) (queued g) names → (c k : ℕ) → waits_in g c k ≡ (waits_in f c k && not (is_selected names c k))
select_left {names = names} f g s c k =
    sym (queue_waits g c k) ∙ ap (list_any (is_named c k)) s.others ∙ left_named c k names (queued f) ∙ ap (λ w. w && not (is_selected names c k)) (queue_waits f c k)

-- what was selected waited
pub select_waited : {key : Waiting → ℕ} {width : ℕ} {rest : List Waiting} {names : List EntryId} (f : Flow) → IsSelected key width (queued f) rest names → (c k : ℕ) → is_selected names c k ≡ true → waits_in f c k ≡ true
select_waited f s c k h = sym (queue_waits f c k) ∙ chosen_named c k (queued f) s.chosen s.queued (subst (λ ns. is_selected ns c k ≡ true) s.names h)

-- so the waiters are the others
left_waiters : (names : List EntryId) (ls : List Lane) (ws : List Waiter) → map waiter_of (filter (λ e. not (is_among names e)) (map (queued_waiter ls) ws)) ≡ filter (λ w. not (is_selected names w.context w.stamp)) ws
left_waiters names ls [] = refl
left_waiters names ls (w ∷ ws) =
    let named : is_named w.context w.stamp (queued_waiter ls w) ≡ true = rw (eq-eqb w.context w.context refl, eq-eqb w.stamp w.stamp refl) refl in
    rw (among_names w.context w.stamp names (queued_waiter ls w) named) (go (not (is_selected names w.context w.stamp)) (left_waiters names ls ws))
  where
    go : (b : Bool) → map waiter_of (filter (λ e. not (is_among names e)) (map (queued_waiter ls) ws)) ≡ filter (λ v. not (is_selected names v.context v.stamp)) ws
        → map waiter_of (cond b (queued_waiter ls w ∷ filter (λ e. not (is_among names e)) (map (queued_waiter ls) ws)) (filter (λ e. not (is_among names e)) (map (queued_waiter ls) ws)))
        ≡ cond b (w ∷ filter (λ v. not (is_selected names v.context v.stamp)) ws) (filter (λ v. not (is_selected names v.context v.stamp)) ws)
    go true ih = ap (λ vs. w ∷ vs) ih
    go false ih = ih

all_waiters : (ls : List Lane) (ws : List Waiter) → map waiter_of (map (queued_waiter ls) ws) ≡ ws
all_waiters ls [] = refl
all_waiters ls (w ∷ ws) = ap (λ vs. w ∷ vs) (all_waiters ls ws)

pub select_waiters : {key : Waiting → ℕ} {width : ℕ} {names : List EntryId} (f g : Flow) → IsSelected key width (queued f) (queued g) names → g.waiters ≡ filter (λ w. not (is_selected names w.context w.stamp)) f.waiters
select_waiters {names = names} f g s = sym (all_waiters g.lanes g.waiters) ∙ ap (map waiter_of) s.others ∙ left_waiters names f.lanes f.waiters

pub left_of : (names : List EntryId) (c : ℕ) (ws : List Waiter) → map unheld (filter (λ w. w.context == c) (filter (λ w. not (is_selected names w.context w.stamp)) ws)) ≡ filter (λ w. not (is_selected names c w.stamp)) (map unheld (filter (λ w. w.context == c) ws))
left_of names c [] = refl
left_of names c (w ∷ ws) = go (w.context == c) (is_selected names w.context w.stamp) (is_selected names c w.stamp) refl refl (λ here. ap (λ d. is_selected names d w.stamp) (eqb-true w.context c here)) (left_of names c ws)
  where
    go : (a s u : Bool) → (w.context == c) ≡ a → is_selected names c w.stamp ≡ u → (a ≡ true → s ≡ u)
        → map unheld (filter (λ v. v.context == c) (filter (λ v. not (is_selected names v.context v.stamp)) ws)) ≡ filter (λ v. not (is_selected names c v.stamp)) (map unheld (filter (λ v. v.context == c) ws))
        → map unheld (filter (λ v. v.context == c) (cond (not s) (w ∷ filter (λ v. not (is_selected names v.context v.stamp)) ws) (filter (λ v. not (is_selected names v.context v.stamp)) ws)))
        ≡ filter (λ v. not (is_selected names c v.stamp)) (map unheld (cond a (w ∷ filter (λ v. v.context == c) ws) (filter (λ v. v.context == c) ws)))
    go true true true here named same ih = rw named ih
    go true false false here named same ih = rw (here, named, ih) refl
    go true true false here named same ih = absurd (true≢false (same refl))
    go true false true here named same ih = absurd (true≢false (sym (same refl)))
    go false true u here named same ih = ih
    go false false u here named same ih = rw here ih

pub still_waiting : (names : List EntryId) (c : ℕ) (fs es : List Entry) → filter (λ w. not (is_selected names c w.stamp)) (map (waiter_for c fs) (filter (is_waiting [] c) es)) ≡ map (waiter_for c fs) (filter (is_waiting names c) es)
still_waiting names c fs [] = refl
still_waiting names c fs (e ∷ es) = go (is_queued e.stage) (is_selected names c e.stamp) refl (still_waiting names c fs es)
  where
    go : (q s : Bool) → is_selected names c e.stamp ≡ s → filter (λ w. not (is_selected names c w.stamp)) (map (waiter_for c fs) (filter (is_waiting [] c) es)) ≡ map (waiter_for c fs) (filter (is_waiting names c) es)
        → filter (λ w. not (is_selected names c w.stamp)) (map (waiter_for c fs) (cond (q && true) (e ∷ filter (is_waiting [] c) es) (filter (is_waiting [] c) es)))
        ≡ map (waiter_for c fs) (cond (q && not s) (e ∷ filter (is_waiting names c) es) (filter (is_waiting names c) es))
    go true true is ih = rw is ih
    go true false is ih = rw (is, ih) refl
    go false s is ih = ih

-- what waits of a context is what was queued and isn't selected
select_waiting : {key : Waiting → ℕ} {width : ℕ} {names : List EntryId} (f g : Flow) (c : ℕ) (es : List Entry) → IsSelected key width (queued f) (queued g) names → waiting_of f c ≡ waiters_of [] c es → waiting_of g c ≡ waiters_of names c es
select_waiting {names = names} f g c es s before =
    ap (λ ws. map unheld (filter (λ w. w.context == c) ws)) (select_waiters f g s) ∙ left_of names c f.waiters ∙ ap (filter (λ w. not (is_selected names c w.stamp))) before ∙ still_waiting names c es es

-- no name waits
pub select_idle : {key : Waiting → ℕ} {width : ℕ} {names : List EntryId} (f g : Flow) → IsSelected key width (queued f) (queued g) names → All (λ n. waits_in g n.context n.stamp ≡ false) names
select_idle {names = names} f g s i d lt =
    let n = get_or names i d in
    select_left f g s n.context n.stamp ∙ ap (λ b. waits_in f n.context n.stamp && not b) (name_selected names i d lt) ∙ and_none (waits_in f n.context n.stamp)

-- ---- names are apart

abbrev pub no_waiting : Waiting
no_waiting = record { stamp = 0; context = 0; guessed = false; load = false; speculative = false; held = false; waits = [] }

apart_names : (e x : Waiting) → AreDistinct e x → AreApart (name_of e) (name_of x)
apart_names e x h = rw (eqb-flip x.context e.context, eqb-flip x.stamp e.stamp) h

pub select_apart : {key : Waiting → ℕ} {width : ℕ} {old rest : List Waiting} {names : List EntryId} → IsSelected key width old rest names → AllPairs AreApart names
select_apart s = subst (AllPairs AreApart) (sym s.names) (λ i j d lt within.
    let below : j < length s.chosen = omega (arith, within, length-map s.chosen name_of) in
    let one = get_or-map name_of s.chosen i no_waiting d (omega arith) in
    let other = get_or-map name_of s.chosen j no_waiting d below in
    rw (one, other) (apart_names (get_or s.chosen i no_waiting) (get_or s.chosen j no_waiting) (s.once i j no_waiting lt below)))

-- ---- names have the values of their sources

abbrev pub no_waiter : Waiter
no_waiter = record { stamp = 0; context = 0; guessed = false; load = false; speculative = false; held = false }

none_waited : (b : Bool) → waits_of b ≡ [] → b ≡ true
none_waited true h = refl
none_waited false h = absurd cc

ready_supplied : (f : Flow) (e : Waiting) → Contains (queued f) e → IsReady e → IsSuppliedIn f (name_of e)
ready_supplied f e from ready =
    let w = get_or f.waiters from.0 no_waiter in
    let within : from.0 < length f.waiters = omega (arith, from.1, length-map f.waiters (queued_waiter f.lanes)) in
    let is : e ≡ queued_waiter f.lanes w = sym from.2 ∙ get_or-map (queued_waiter f.lanes) f.waiters from.0 no_waiter e within in
    let none : (queued_waiter f.lanes w).waits ≡ [] = ap (λ (x : Waiting). x.waits) (sym is) ∙ ready.0 in
    subst (λ (x : Waiting). IsSuppliedIn f (name_of x)) (sym is) (none_waited (is_supplied (known (lane f w.context).registers) (lane f w.context).nodes w.stamp) none)

pub select_supplied : {key : Waiting → ℕ} {width : ℕ} {rest : List Waiting} {names : List EntryId} (f : Flow) → IsSelected key width (queued f) rest names → All (IsSuppliedIn f) names
select_supplied f s = subst (All (IsSuppliedIn f)) (sym s.names) (All-map (IsSuppliedIn f) name_of s.chosen (λ i d lt. ready_supplied f (get_or s.chosen i d) (s.queued i d lt) (s.ready i d lt)))

-- ---- names are clear

-- a ready entry isn't held
ready_free : (f : Flow) (e : Waiting) → Contains (queued f) e → IsReady e → ¬ (IsMarked f e.context e.stamp true)
ready_free f e from ready held =
    let w = get_or f.waiters from.0 no_waiter in
    let within : from.0 < length f.waiters = omega (arith, from.1, length-map f.waiters (queued_waiter f.lanes)) in
    let is : e ≡ queued_waiter f.lanes w = sym from.2 ∙ get_or-map (queued_waiter f.lanes) f.waiters from.0 no_waiter e within in
    let named : is_waiter e.context e.stamp w ≡ true = rw (eq-eqb w.context e.context (ap (λ (x : Waiting). x.context) (sym is)), eq-eqb w.stamp e.stamp (ap (λ (x : Waiting). x.stamp) (sym is))) refl in
    let bad : true ≡ false = sym (held from.0 no_waiter within named) ∙ ap (λ (x : Waiting). x.held) (sym is) ∙ ready.1 in
    absurd (true≢false bad)

-- so what was selected isn't
pub select_free : {key : Waiting → ℕ} {width : ℕ} {rest : List Waiting} {names : List EntryId} (f : Flow) → IsSelected key width (queued f) rest names → All (λ n. ¬ (IsMarked f n.context n.stamp true)) names
select_free f s =
    let free = λ (n : EntryId). ¬ (IsMarked f n.context n.stamp true) in
    subst (All free) (sym s.names) (All-map free name_of s.chosen (λ i d lt. ready_free f (get_or s.chosen i d) (s.queued i d lt) (s.ready i d lt)))

-- an entry that was selected and isn't held may issue
pub select_clear : {start : State} {stamp reorder c : ℕ} {g : Flow} {names : List EntryId} {t : Track} (f : Flow) → IsCore start stamp reorder g names c t → (k : ℕ) → is_selected names c k ≡ true → AreHeld f c t → lane g c ≡ lane f c → ¬ (IsMarked f c k true) → IsClear g c t k
select_clear {c = c} {t = t} f core k h held same free i a b lt is sources = by_test (may_issue_at t.context i a b) refl
  where
    within : i < length t.context.flight
    within = omega (arith, lt, core.within)

    by_test : (may : Bool) → may_issue_at t.context i a b ≡ may → may ≡ true
    by_test true told = refl
    by_test false told =
        let asked : must_wait t.context i (sources_at (lane f c) i) ≡ true = ap (must_wait t.context i) (ap (λ (l : Lane). sources_at l i) (sym same) ∙ sources) ∙ ap not told in
        let here : IsMarked f c (entry_at t.context i).stamp true = subst (IsMarked f c (entry_at t.context i).stamp) asked (held i lt (selected_at core k i h within is).stage) in
        absurd (free (subst (λ s. IsMarked f c s true) is here))

-- ---- at its place

-- the instruction at a place is the one of its stamp
supplied_at : (low : ℕ) (seen : List (Option ℕ)) (es : List Entry) (i : ℕ) → IsGrowing low es → i < length es
    → is_supplied seen (map node_of_entry es) (get_or es i no_entry).stamp ≡ is_some (sources_of (seen_past_nodes seen (take i (map node_of_entry es))) (operands_of (get_or es i no_entry)))
supplied_at low seen [] i g lt = absurd (omega arith)
supplied_at low seen (e ∷ es) zero g lt = rw (eq-eqb e.stamp e.stamp refl) refl
supplied_at low seen (e ∷ es) (suc i) g lt =
    let later = growing_at (e.stamp + 1) es i g.1 (omega arith) in
    let other : (e.stamp == (get_or es i no_entry).stamp) ≡ false = ne_eqb e.stamp (get_or es i no_entry).stamp (λ same. omega (arith, later, same)) in
    rw other (supplied_at (e.stamp + 1) (seen_past_node seen (node_of_entry e)) es i g.1 (omega arith))

-- a renamed entry's stamp has the values of its sources where they are there at its place
pub supplied_is : {start : State} {stamp reorder c : ℕ} {f : Flow} {names : List EntryId} {t : Track} → IsCore start stamp reorder f names c t → (i : ℕ) → i < t.renamed
    → is_supplied (known (lane f c).registers) (lane f c).nodes (entry_at t.context i).stamp ≡ is_some (sources_at (lane f c) i)
supplied_is {c = c} {f = f} {t = t} core i lt =
    let l = lane f c in
    let es = take t.renamed t.context.flight in
    let e = get_or es i no_entry in
    let here : e ≡ entry_at t.context i = get_or-take t.renamed t.context.flight i no_entry lt in
    let within : i < length es = omega (arith, lt, length-take-le t.renamed t.context.flight core.within) in
    let growing : IsGrowing 0 es = growing_take 0 t.renamed t.context.flight core.live.flight.growing in
    sym (ap (λ o. is_some (sources_of (seen_past_nodes (known l.registers) (take i l.nodes)) o)) (operands_at core i lt ∙ ap operands_of (sym here))
    ∙ ap (λ ns. is_some (sources_of (seen_past_nodes (known l.registers) (take i ns)) (operands_of e))) core.nodes
    ∙ sym (supplied_at 0 (known l.registers) es i growing within)
    ∙ ap (λ ns. is_supplied (known l.registers) ns e.stamp) (sym core.nodes)
    ∙ ap (λ (x : Entry). is_supplied (known l.registers) l.nodes x.stamp) here)

-- so one that has them has them at its place
pub supplied_sources : {start : State} {stamp reorder c : ℕ} {f : Flow} {names : List EntryId} {t : Track} → IsCore start stamp reorder f names c t → (i : ℕ) → i < t.renamed
    → IsSuppliedIn f (record { context = c; stamp = (entry_at t.context i).stamp }) → is_some (sources_at (lane f c) i) ≡ true
supplied_sources core i lt h = sym (supplied_is core i lt) ∙ h

-- ---- the core once its entries are selected

-- marks of what waits are nothing of a core
pub remarked_core : {start : State} {stamp reorder c : ℕ} {f g : Flow} {t : Track} {names : List EntryId} → IsCore start stamp reorder f names c t → IsRemarked f g → IsCore start stamp reorder g names c t
remarked_core {start = start} {stamp = stamp} {reorder = reorder} {c = c} {f = f} {g = g} {t = t} {names = names} core marks =
    other_core start stamp stamp reorder f g names names c t core (remarked_lane f g c marks) (waiting-remarked f g c marks ∙ core.waiting) core.selected (omega arith)

pub select_core : {start : State} {stamp reorder c : ℕ} {f g : Flow} {t : Track} {key : Waiting → ℕ} {width : ℕ} {names : List EntryId} → IsCore start stamp reorder f [] c t → g ≡ record f { waiters = g.waiters } → IsSelected key width (queued f) (queued g) names
    → IsCore start stamp reorder g names c t
select_core {start = start} {stamp = stamp} {reorder = reorder} {c = c} {f = f} {g = g} {t = t} {names = names} core same s =
    other_core start stamp stamp reorder f g [] names c t core (ap (λ (h : Flow). lane h c) same) (select_waiting f g c t.context.flight s core.waiting)
    (λ k h. sym (core_waiting core k) ∙ ap (λ b. b || false) (select_waited f s c k h)) (omega arith)

-- ---- the first name

-- the others are of other entries
pub first_apart : (n : EntryId) (names : List EntryId) → AllPairs AreApart (n ∷ names) → is_selected names n.context n.stamp ≡ false
first_apart n names apart = list_any_none (is_name n.context n.stamp) names (λ i d lt. apart 0 (suc i) d (omega arith) (omega (arith, lt)))

-- and apart among themselves
pub rest_apart : (n : EntryId) (names : List EntryId) → AllPairs AreApart (n ∷ names) → AllPairs AreApart names
rest_apart n names apart i j d lt within = apart (suc i) (suc j) d (omega (arith, lt)) (omega (arith, within))

-- the place of an entry that may issue: it is queued, and the data flow has the values of its sources
pub record IsReadyPlace (f : Flow) (c : ℕ) (t : Track) (i : ℕ) : Type 0 where
  pub renamed : i < t.renamed
  pub known : i < length (lane f c).nodes
  pub stage : (entry_at t.context i).stage ≡ Queued
  pub sources : is_some (sources_at (lane f c) i) ≡ true

pub ready_place : {start : State} {stamp reorder c : ℕ} {f : Flow} {names : List EntryId} {t : Track} → IsCore start stamp reorder f names c t → (k i : ℕ) → is_selected names c k ≡ true → IsSuppliedIn f (record { context = c; stamp = k })
    → i < length t.context.flight → (entry_at t.context i).stamp ≡ k → IsReadyPlace f c t i
ready_place {c = c} {f = f} {t = t} core k i h supplied lt is =
    let p = selected_at core k i h lt is in
    let below = p.renamed in
    record {
      renamed = below;
      known = omega (arith, below, node_count core);
      stage = p.stage;
      sources = supplied_sources core i below (subst (λ s. IsSuppliedIn f (record { context = c; stamp = s })) (sym is) supplied);
    }

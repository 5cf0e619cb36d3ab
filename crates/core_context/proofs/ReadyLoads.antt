-- Loads of a context that has no ready one: each lacks the value of a source, so none has to wait for a store.
use Rattle.std.proofs.Common.{◌≡◌, ℕ, zero, suc, ◌<◌, Bool, true, false, ◌&&◌, ◌||◌, List, [], ◌∷◌, length, get_or, map, None, refl, ap, ap₂, ◌∙◌, arith}
use Rattle.std.specs.Prelude.{filter, ◌==◌}
use Rattle.std.specs.List.{list_any}
use Rattle.std.proofs.lemmas.Bool.{eq-eqb, or_left, or_right}
use Rattle.hart_step.specs.State.{State}
use Rattle.core_view.specs.declared.entry.Entry.{Entry}
use Rattle.core_view.specs.declared.entry.Stage.TheVariants.{Queued}
use Rattle.core_view.specs.Operations.{is_load}
use Rattle.core_view.specs.Flight.{is_queued}
use Rattle.core_view.specs.View.{entry_at, no_entry}
use Rattle.data_flow.specs.Flow.{Flow, Waiter, lane, node_at, sources_at, released, is_load_let_go, waits_to_load}
use Rattle.core_context.specs.Queued.{unheld, waiter_for}
use Rattle.core_context.specs.Cores.{IsCore, is_waiting}
use Rattle.core_context.specs.Issuable.{must_wait, AreHeld}
use Rattle.core_context.specs.Track.{Track}
use Rattle.core_context.proofs.HeldLoads.{free_waiting, let_go_marked, plain_wait, released_all, released_remarked, remarked_lane}
use Rattle.core_context.proofs.SourcesSeen.{node_count, operands_at}

-- what waits under a stamp is a load
abbrev is_load_of : ℕ → Waiter → Bool
is_load_of k w = (w.stamp == k) && w.load

let_go_load : (own named load : Bool) → ((own && named) && (load && true)) ≡ (own && (named && load))
let_go_load true true true = refl
let_go_load true true false = refl
let_go_load true false load = refl
let_go_load false named load = refl

-- a load of a context waits where it is among what waits of the context
load_waits : (c k : ℕ) (ws : List Waiter) → list_any (is_load_let_go c k) (map released ws) ≡ list_any (is_load_of k) (map unheld (filter (λ w. w.context == c) ws))
load_waits c k [] = refl
load_waits c k (w ∷ ws) = ap₂ (λ x y. x || y) (let_go_load (w.context == c) (w.stamp == k) w.load) (load_waits c k ws) ∙ by_test (w.context == c) refl
  where
    by_test : (b : Bool) → (w.context == c) ≡ b
        → ((w.context == c) && is_load_of k w || list_any (is_load_of k) (map unheld (filter (λ v. v.context == c) ws))) ≡ list_any (is_load_of k) (map unheld (filter (λ v. v.context == c) (w ∷ ws)))
    by_test true h = rw h refl
    by_test false h = rw h refl

-- a queued load is among what waits of its flight
load_queued : (c : ℕ) (flight es : List Entry) (i : ℕ) → i < length es → (get_or es i no_entry).stage ≡ Queued → is_load (get_or es i no_entry).operation ≡ true
    → list_any (is_load_of (get_or es i no_entry).stamp) (map (waiter_for c flight) (filter (is_waiting [] c) es)) ≡ true
load_queued c flight [] i lt stage load = absurd (omega arith)
load_queued c flight (e ∷ es) zero lt stage load =
    rw (ap (λ s. is_queued s && true) stage) (or_left ((e.stamp == e.stamp) && is_load e.operation) (list_any (is_load_of e.stamp) (map (waiter_for c flight) (filter (is_waiting [] c) es))) (rw (eq-eqb e.stamp e.stamp refl, load) refl))
load_queued c flight (e ∷ es) (suc i) lt stage load = by_test (is_waiting [] c e) refl (load_queued c flight es i (omega arith) stage load)
  where
    k : ℕ
    k = (get_or es i no_entry).stamp

    waiting : List Entry → List Waiter
    waiting xs = map (waiter_for c flight) (filter (is_waiting [] c) xs)

    by_test : (b : Bool) → is_waiting [] c e ≡ b → list_any (is_load_of k) (waiting es) ≡ true → list_any (is_load_of k) (waiting (e ∷ es)) ≡ true
    by_test true h later = rw h (or_right (is_load_of k (waiter_for c flight e)) (list_any (is_load_of k) (waiting es)) later)
    by_test false h later = rw h later

-- where all loads were let go and no load that waits has its sources, each is held as it has to be: not at all
pub none_ready_held : {start : State} {stamp reorder c : ℕ} {f : Flow} {t : Track} → IsCore start stamp reorder f [] c t → (h : Flow) → h ≡ record f { waiters = map released f.waiters }
    → ((place : ℕ) → place < length (lane h c).nodes → waits_to_load h c (node_at (lane h c) place).operands.stamp ≡ true → sources_at (lane h c) place ≡ None) → AreHeld h c t
none_ready_held {c = c} {f = f} {t = t} core h is lacking i lt stage =
    free_waiting h c t i (by_load (is_load (entry_at t.context i).operation) refl) (let_go_marked h (released_all f h is) c (entry_at t.context i).stamp)
  where
    lanes : lane h c ≡ lane f c
    lanes = remarked_lane f h c (released_remarked f h is)

    within : i < length t.context.flight
    within = omega (arith, lt, core.within)

    waits : is_load (entry_at t.context i).operation ≡ true → waits_to_load h c (entry_at t.context i).stamp ≡ true
    waits load =
        let k = (entry_at t.context i).stamp in
        ap (λ (g : Flow). waits_to_load g c k) is ∙ load_waits c k f.waiters ∙ ap (list_any (is_load_of k)) core.waiting ∙ load_queued c t.context.flight t.context.flight i within stage load

    by_load : (b : Bool) → is_load (entry_at t.context i).operation ≡ b → must_wait t.context i (sources_at (lane h c) i) ≡ false
    by_load false other = plain_wait t.context i other (sources_at (lane h c) i)
    by_load true load =
        let there : i < length (lane h c).nodes = rw lanes (omega (arith, lt, node_count core)) in
        let named : (node_at (lane h c) i).operands.stamp ≡ (entry_at t.context i).stamp = rw lanes (ap (λ o. o.stamp) (operands_at core i lt)) in
        ap (must_wait t.context i) (lacking i there (ap (waits_to_load h c) named ∙ waits load))

-- What waits, after the calls of the queue that wake, drop and put entries.
use Rattle.std.proofs.Common.{◌≡◌, ℕ, true, false, not, List, [], ◌∷◌, ◌++◌, map, refl, sym, ap}
use Rattle.std.specs.Prelude.{All, filter}
use Rattle.std.proofs.lemmas.Bool.{not-true}
use Rattle.std.proofs.lemmas.List.{map-append}
use Rattle.std.proofs.lemmas.List.Elements.{All-weaker, filter_passes}
use Rattle.issue_queue.specs.Entry.{Entry}
use Rattle.issue_queue.specs.IssueQueue.{awake, is_from}
use Rattle.issue_queue.proofs.Lists.{filter-of_map}
use Rattle.data_flow.specs.Flow.{Waiter, is_waiter_from}
use Rattle.data_flow.specs.Wired.{waiter_of}

-- a result changes nothing of what waits but the registers
pub waiters_awake : (p : ℕ) (es : List Entry) → map waiter_of (map (awake p) es) ≡ map waiter_of es
waiters_awake p [] = refl
waiters_awake p (e ∷ es) = ap (λ (ws : List Waiter). waiter_of e ∷ ws) (waiters_awake p es)

-- what is dropped from a stamp on
pub waiters_dropped : (c k : ℕ) (es : List Entry) → map waiter_of (filter (λ e. not (is_from c k e)) es) ≡ filter (λ w. not (is_waiter_from c k w)) (map waiter_of es)
waiters_dropped c k es = sym (filter-of_map waiter_of (λ w. not (is_waiter_from c k w)) es)

-- what is dropped because it is held
pub waiters_unheld : (es : List Entry) → map waiter_of (filter (λ e. not e.held) es) ≡ filter (λ w. not w.held) (map waiter_of es)
waiters_unheld es = sym (filter-of_map waiter_of (λ w. not w.held) es)

-- nothing from the stamp on is left
pub none_from : (c k : ℕ) (ws : List Waiter) → All (λ w. is_waiter_from c k w ≡ false) (filter (λ w. not (is_waiter_from c k w)) ws)
none_from c k ws =
    All-weaker (λ w. not (is_waiter_from c k w) ≡ true) (λ w. is_waiter_from c k w ≡ false) (λ w. not-true (is_waiter_from c k w)) (filter (λ w. not (is_waiter_from c k w)) ws)
    (filter_passes (λ w. not (is_waiter_from c k w)) ws)

-- ---- one more entry

pub waiters_put : (es : List Entry) (e : Entry) → map waiter_of (es ++ e ∷ []) ≡ map waiter_of es ++ waiter_of e ∷ []
waiters_put es e = map-append waiter_of es (e ∷ [])

-- Entries that wait for issue.
use Rattle.std.specs.Prelude.{ℕ, Bool, false, ◌&&◌, ◌==◌, nat_lt, if◌then◌else◌, List, [], ◌∷◌, map, filter}
use Rattle.std.specs.List.{list_any}
use Rattle.core_view.specs.declared.entry.Entry.{Entry}
use Rattle.core_view.specs.Operations.{is_load, is_guessed}
use Rattle.data_flow.specs.Flow.{Waiter, Flow}
use Rattle.core_view.specs.Flight.{is_queued, is_open_guess}

-- the entry of a stamp is queued
abbrev pub queued_at : ℕ → List Entry → Bool
queued_at k es = list_any (λ e. (e.stamp == k) && is_queued e.stage) es

-- a guessed entry older than a stamp has not completed
abbrev pub is_behind : ℕ → List Entry → Bool
is_behind k es = list_any (λ e. is_open_guess e && nat_lt e.stamp k) es

-- an instruction that waits, held or not
abbrev pub unheld : Waiter → Waiter
unheld w = record w { held = false }

-- what waits of a context, in the order in which it came, held or not
abbrev pub waiting_of : Flow → ℕ → List Waiter
waiting_of f c = map unheld (filter (λ w. w.context == c) f.waiters)

-- an entry of a context's flight as it waits
abbrev pub waiter_for : ℕ → List Entry → Entry → Waiter
waiter_for c es e = record { stamp = e.stamp; context = c; guessed = is_guessed e.operation; load = is_load e.operation; speculative = is_behind e.stamp es; held = false }

-- the entries up to the oldest guessed one that has not completed
abbrev pub up_to_guess : List Entry → List Entry
up_to_guess [] = []
up_to_guess (e ∷ es) = e ∷ (if is_open_guess e then [] else up_to_guess es)

-- what waits of a context, marked where it is one of these entries as behind no guessed one
abbrev pub settled : ℕ → List Entry → Waiter → Waiter
settled c es w = if (w.context == c) && queued_at w.stamp es then record w { speculative = false } else w

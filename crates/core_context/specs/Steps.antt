-- What each event makes of the data flow.
use Rattle.std.specs.Prelude.{◌≡◌, ℕ, ◌+◌, ◌<◌, Bool, false, ◌++◌, List, [], ◌∷◌, get_or, map, take, if◌then◌else◌, Option, Some, None}
use Rattle.core_view.specs.declared.entry.Execution.{Execution}
use Rattle.core_view.specs.Flight.{result_in, is_open_guess}
use Rattle.core_view.specs.declared.entry.Entry.{Entry}
use Rattle.core_view.specs.Operations.{stops_at_fetch, is_load, is_guessed}
use Rattle.core_view.specs.View.{Context, entry_at, no_entry}
use Rattle.data_flow.specs.Flow.{Flow, lane, with_lane, without_oldest, with_result, with_node, cut_flow}
use Rattle.core_context.specs.Queued.{unheld, up_to_guess, settled}
use Rattle.core_context.specs.Cores.{operands_of}
use Rattle.core_context.specs.Track.{Track, cut_stamp, completed}

-- the instructions of a context from a stamp on are forgotten, if there is one
abbrev pub cut_if : Flow → ℕ → Option ℕ → Flow
cut_if f c None = f
cut_if f c (Some k) = cut_flow f c k

-- the oldest instruction is committed; the others are forgotten where it is the last one that the context is to retire
abbrev pub retired_flow : Flow → ℕ → Bool → Flow
retired_flow f c last = let g = with_lane f c (without_oldest (lane f c)) in if last then cut_flow g c 0 else g

-- the instruction at a place has a result, if there is one
abbrev pub finished_flow : Flow → ℕ → ℕ → Option ℕ → Flow
finished_flow f c i None = f
finished_flow f c i (Some value) = with_lane f c (with_result (lane f c) i value)

-- the instruction at a place has its result, and what its entry squashes is forgotten
abbrev pub cut_by : Flow → ℕ → ℕ → Execution → Context → Flow
cut_by f c i x context = cut_if (finished_flow f c i (result_in x.outcome)) c (cut_stamp context i x)

-- what is behind no guessed entry that has not completed is marked so
abbrev pub settled_flow : Flow → ℕ → Track → Flow
settled_flow f c t = record f { waiters = map (settled c (up_to_guess (take t.renamed t.context.flight))) f.waiters }

-- of the first so many entries, where none of them is an open guess but the last, none is marked as behind one
abbrev pub AreTold : Flow → ℕ → List Entry → ℕ → Type 0
AreTold f c es n = ((i : ℕ) → i + 1 < n → is_open_guess (get_or es i no_entry) ≡ false) → f ≡ record f { waiters = map (settled c (take n es)) f.waiters }

-- the instruction at a place has its result, and marks are settled where the entry is guessed
abbrev pub completed_flow : Flow → ℕ → ℕ → Execution → Track → Flow
completed_flow f c i x t =
    let g = cut_by f c i x t.context in
    if is_guessed (entry_at t.context i).operation then settled_flow g c (completed t i x) else g

-- an entry is the youngest instruction, and waits for issue unless it stops at fetch
abbrev pub renamed_flow : Flow → ℕ → Entry → Bool → Flow
renamed_flow f c e speculative =
    let g = with_lane f c (with_node (lane f c) (operands_of e)) in
    if stops_at_fetch e.operation then g
    else record g { waiters = f.waiters ++ record { stamp = e.stamp; context = c; guessed = is_guessed e.operation; load = is_load e.operation; speculative = speculative; held = false } ∷ [] }

-- only what is held has changed
pub record IsRemarked (old new : Flow) : Type 0 where
  pub flow : new ≡ record old { waiters = new.waiters }
  pub waits : map unheld new.waiters ≡ map unheld old.waiters

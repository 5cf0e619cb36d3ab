-- What the data flow lets an instruction see is what the flight lets its entry see.
use Rattle.std.proofs.Common.{◌≡◌, ℕ, ◌<◌, ◌≤◌, Bool, true, false, List, [], ◌∷◌, length, get_or, take, map, Option, None, refl, ap, ◌∙◌, arith}
use Rattle.std.specs.Prelude.{◌==◌, slice_set, if◌then◌else◌}
use Rattle.std.proofs.lemmas.List.{length-map, length-take-le, get_or-take, take-take, take-map, get_or-map}
use Rattle.paged_memory.specs.Cells.{byte_at}
use Rattle.hart_step.specs.State.{State}
use Rattle.core_view.specs.declared.note.EntryId.{EntryId}
use Rattle.core_view.specs.declared.entry.Entry.{Entry}
use Rattle.core_view.specs.Operations.{destination_of, first_source_of, second_source_of}
use Rattle.core_view.specs.Flight.{Seen, result_of, known, produced, seen_after, seen_past, source_value}
use Rattle.core_view.specs.View.{entry_at, no_entry, seen_at as flight_seen_at}
use Rattle.data_flow.specs.Flow.{Node, Flow, lane, no_node, node_at, seen_at, seen_past_nodes, both, sources_at}
use Rattle.core_context.specs.Track.{Track}
use Rattle.core_context.specs.Cores.{operands_of, node_of_entry, IsCore}

-- what a producer gives is the same where x0's result is left out
produced_same : (registers : List (Option ℕ)) (register : ℕ) (result : Option ℕ) → produced registers register (if register == 0 then None else result) ≡ produced registers register result
produced_same registers register result = go (register == 0)
  where
    go : (t : Bool) → (if t then registers else slice_set registers register (if t then None else result)) ≡ (if t then registers else slice_set registers register result)
    go true = refl
    go false = refl

-- the fold over the data flow's instructions is the fold over the entries
pub seen_past_entries : (seen : Seen) (es : List Entry) → seen_past_nodes seen.registers (map node_of_entry es) ≡ (seen_past seen es).registers
seen_past_entries seen [] = refl
seen_past_entries seen (e ∷ es) =
    ap (λ (registers : List (Option ℕ)). seen_past_nodes registers (map node_of_entry es)) (produced_same seen.registers (destination_of e.operation) (result_of e.stage))
    ∙ seen_past_entries (seen_after seen e) es

-- ---- of a core

-- the instructions before a place are the entries before it
pub nodes_before : {start : State} {stamp reorder c : ℕ} {f : Flow} {names : List EntryId} {t : Track} → IsCore start stamp reorder f names c t → (i : ℕ) → i ≤ t.renamed
    → take i (lane f c).nodes ≡ map node_of_entry (take i t.context.flight)
nodes_before {t = t} core i le = ap (take i) core.nodes ∙ take-map node_of_entry i (take t.renamed t.context.flight) ∙ ap (map node_of_entry) (take-take i t.renamed t.context.flight le)

-- as many instructions are in the data flow as entries are renamed
pub node_count : {start : State} {stamp reorder c : ℕ} {f : Flow} {names : List EntryId} {t : Track} → IsCore start stamp reorder f names c t → length (lane f c).nodes ≡ t.renamed
node_count {t = t} core = ap length core.nodes ∙ length-map (take t.renamed t.context.flight) node_of_entry ∙ length-take-le t.renamed t.context.flight core.within

-- the instruction at a place is its entry
pub node_is : {start : State} {stamp reorder c : ℕ} {f : Flow} {names : List EntryId} {t : Track} → IsCore start stamp reorder f names c t → (i : ℕ) → i < t.renamed
    → node_at (lane f c) i ≡ node_of_entry (entry_at t.context i)
node_is {t = t} core i lt =
    ap (λ (ns : List Node). get_or ns i no_node) core.nodes
    ∙ get_or-map node_of_entry (take t.renamed t.context.flight) i no_entry no_node (omega (arith, length-take-le t.renamed t.context.flight core.within))
    ∙ ap node_of_entry (get_or-take t.renamed t.context.flight i no_entry lt)

-- so are its operands
pub operands_at : {start : State} {stamp reorder c : ℕ} {f : Flow} {names : List EntryId} {t : Track} → IsCore start stamp reorder f names c t → (i : ℕ) → i < t.renamed
    → (node_at (lane f c) i).operands ≡ operands_of (entry_at t.context i)
operands_at core i lt = ap (λ (n : Node). n.operands) (node_is core i lt)

-- the registers that it sees are those that its entry sees
pub lane_seen : {start : State} {stamp reorder c : ℕ} {f : Flow} {names : List EntryId} {t : Track} → IsCore start stamp reorder f names c t → (i : ℕ) → i ≤ t.renamed
    → seen_at (lane f c) i ≡ (flight_seen_at t.context i).registers
lane_seen {t = t} core i le =
    rw (core.registers, nodes_before core i le) (seen_past_entries (record { registers = known t.context.state.registers; bytes = byte_at t.context.state.memory }) (take i t.context.flight))

-- the values of an entry's sources, where both are known
abbrev pub entry_sources : Seen → Entry → Option (ℕ × ℕ)
entry_sources seen e = both (source_value seen.registers (first_source_of e.operation)) (source_value seen.registers (second_source_of e.operation))

-- so the values of its sources are the same
pub sources_are : {start : State} {stamp reorder c : ℕ} {f : Flow} {names : List EntryId} {t : Track} → IsCore start stamp reorder f names c t → (i : ℕ) → i < t.renamed
    → sources_at (lane f c) i ≡ entry_sources (flight_seen_at t.context i) (entry_at t.context i)
sources_are core i lt = rw (lane_seen core i (omega arith), operands_at core i lt) refl

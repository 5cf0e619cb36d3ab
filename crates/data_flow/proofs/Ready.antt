-- An entry of the queue is ready where its instruction has the values of its sources.
use Rattle.std.proofs.Common.{◌≡◌, ◌≢◌, ℕ, zero, suc, ◌<◌, ◌&&◌, not, true, false, List, [], ◌∷◌, ◌++◌, length, get_or, take, Option, Some, None, refl, sym, ap, ap₂, ◌∙◌, arith}
use Rattle.std.specs.Prelude.{is_some, ◌==◌, if◌then◌else◌}
use Rattle.std.proofs.lemmas.Bool.{eq-eqb, ne_eqb}
use Rattle.std.proofs.lemmas.List.{length-map}
use Rattle.rename_file.specs.File.{Bank, bank}
use Rattle.circular_buffer.specs.Buffer.{Buffer}
use Rattle.core_view.specs.Flight.{known}
use Rattle.issue_queue.specs.Entry.{Entry, IsReady, is_ready}
use Rattle.data_flow.specs.declared.operands.Operands.{Operands}
use Rattle.data_flow.specs.declared.operands.Renamed.{Renamed}
use Rattle.data_flow.specs.declared.data_flow.DataFlow.TheInside.{Inside}
use Rattle.data_flow.specs.Flow.{Node, Lane, no_node, seen_past_node, seen_past_nodes, seen_at, both, sources_of, is_supplied, waits_of, queued_waiter}
use Rattle.data_flow.specs.Wired.{cell_of, node_of, lane_of, flow, waiter_of, no_buffer, no_renamed, IsTied, IsWaiting, IsWiredUp}
use Rattle.data_flow.proofs.Ties.{IsSettled, Reads, reads, settled, lane_at, tied_at, get_or-map}

-- ---- the instruction of a stamp

-- the first instruction of a stamp is the one that is asked for
pub supplied_at : (seen : List (Option ℕ)) (ns : List Node) (i k : ℕ) → i < length ns → (get_or ns i no_node).operands.stamp ≡ k → ((j : ℕ) → j < i → (get_or ns j no_node).operands.stamp ≢ k)
    → is_supplied seen ns k ≡ is_some (sources_of (seen_past_nodes seen (take i ns)) (get_or ns i no_node).operands)
supplied_at seen [] i k lt here before = absurd (omega arith)
supplied_at seen (n ∷ ns) zero k lt here before = let same : (n.operands.stamp == k) ≡ true = eq-eqb n.operands.stamp k here in rw same refl
supplied_at seen (n ∷ ns) (suc i) k lt here before =
    let other : (n.operands.stamp == k) ≡ false = ne_eqb n.operands.stamp k (before 0 (omega arith)) in
    rw other (supplied_at (seen_past_node seen n) ns i k (omega arith) here (λ j less. before (suc j) (omega arith)))

-- an instruction of a context is supplied where its registers have values
pub supplied_in : (cells : List (Option ℕ)) (b : Bank) (ns : Buffer Renamed) (i k : ℕ) → IsTied cells b ns → IsSettled cells b → i < length ns.items → (get_or ns.items i no_renamed).operands.stamp ≡ k
    → is_supplied (known (lane_of cells b ns).registers) (lane_of cells b ns).nodes k ≡ is_some (both (cell_of cells (get_or ns.items i no_renamed).first) (cell_of cells (get_or ns.items i no_renamed).second))
supplied_in cells b ns i k t s lt stamped =
    let l : Lane = lane_of cells b ns in
    let n : Renamed = get_or ns.items i no_renamed in
    let r : Reads cells l i n = reads cells b ns i no_renamed t s lt in
    let stamp_at = λ (j : ℕ) (within : j < length ns.items). ap (λ (x : Node). x.operands.stamp) (get_or-map (node_of cells) ns.items j no_renamed no_node within) in
    let found = supplied_at (known l.registers) l.nodes i k (omega (arith, lt, length-map ns.items (node_of cells))) (stamp_at i lt ∙ stamped)
    (λ j below same. absurd (omega (arith, t.growing j i no_renamed below lt, stamp_at j (omega arith), same, stamped))) in
    found ∙ ap (λ (o : Operands). is_some (sources_of (seen_at l i) o)) r.operands ∙ ap is_some (ap₂ both (sym r.first) (sym r.second))

-- ---- what an entry waits for

ready_there : (a b : Option ℕ) (p q : ℕ) → (if is_some a then [] else p ∷ []) ++ (if is_some b then [] else q ∷ []) ≡ [] → waits_of (is_some (both a b)) ≡ []
ready_there None b p q h = absurd cc
ready_there (Some x) None p q h = absurd cc
ready_there (Some x) (Some y) p q h = refl

ready_back : (a b : Option ℕ) (p q : ℕ) → waits_of (is_some (both a b)) ≡ [] → (if is_some a then [] else p ∷ []) ++ (if is_some b then [] else q ∷ []) ≡ []
ready_back None b p q h = absurd cc
ready_back (Some x) None p q h = absurd cc
ready_back (Some x) (Some y) p q h = refl

supplied_alike : (a b : Option ℕ) (p q : ℕ) → (length (waits_of (is_some (both a b))) == 0) ≡ (length ((if is_some a then [] else p ∷ []) ++ (if is_some b then [] else q ∷ [])) == 0)
supplied_alike None None p q = refl
supplied_alike None (Some y) p q = refl
supplied_alike (Some x) None p q = refl
supplied_alike (Some x) (Some y) p q = refl

-- the entry as it is shown
abbrev pub shown_entry : List Lane → Entry → Entry
shown_entry lanes e = queued_waiter lanes (waiter_of e)

-- an entry is ready where it is shown as ready
pub record IsFaithful (f : Entry → Entry) (e : Entry) : Type 0 where
  pub there : IsReady e → IsReady (f e)
  pub back : IsReady (f e) → IsReady e
  pub tested : is_ready (f e) ≡ is_ready e

pub faithful : {A : Type 0} (d : Inside A) (e : Entry) → IsWiredUp d → IsWaiting d.registers.cells d.renamed e → IsFaithful (shown_entry (flow d).lanes) e
faithful d e up h =
    let cells : List (Option ℕ) = d.registers.cells in
    let ns : Buffer Renamed = get_or d.renamed e.context no_buffer in
    let n : Renamed = get_or ns.items h.place no_renamed in
    let lt : e.context < length d.registers.banks = omega (arith, h.context, up.file.eight) in
    let at_lane = lane_at cells d.registers.banks d.renamed e.context up.tied lt in
    let supplied = supplied_in cells (bank d.registers e.context) ns h.place e.stamp (tied_at cells d.registers.banks d.renamed e.context up.tied lt) (settled d.registers e.context up.file h.context) h.within h.stamp in
    let shown = ap (λ (l : Lane). waits_of (is_supplied (known l.registers) l.nodes e.stamp)) at_lane ∙ ap waits_of supplied in
    record {
      there = λ ready. (shown ∙ ready_there (cell_of cells n.first) (cell_of cells n.second) n.first n.second (sym h.waits ∙ ready.0), ready.1);
      back = λ ready. (h.waits ∙ ready_back (cell_of cells n.first) (cell_of cells n.second) n.first n.second (sym shown ∙ ready.0), ready.1);
      tested = ap (λ (ws : List ℕ). (length ws == 0) && not e.held) shown
          ∙ ap (λ s. s && not e.held) (supplied_alike (cell_of cells n.first) (cell_of cells n.second) n.first n.second)
          ∙ sym (ap (λ (ws : List ℕ). (length ws == 0) && not e.held) h.waits);
    }

-- Which contexts have a ready load, by what waits.
use Rattle.std.proofs.Common.{◌≡◌, ℕ, ◌<◌, inl, inr, Bool, true, false, List, [], ◌∷◌, length, get_or, map, not, ◌&&◌, ◌||◌, Option, Some, None, refl, sym, ap, ap₂, subst, ◌∙◌, arith}
use Rattle.std.specs.Prelude.{All, is_some, ◌==◌}
use Rattle.std.specs.List.{list_any}
use Rattle.std.proofs.lemmas.Bool.{cases_lt, true≢false, and_parts, or_parts, or_cases, eqb-true}
use Rattle.std.proofs.lemmas.List.{get_or_past}
use Rattle.std.proofs.lemmas.List.Elements.{All-head, All-tail, All-weaker}
use Rattle.rename_file.specs.File.{Bank, bank}
use Rattle.circular_buffer.specs.Buffer.{Buffer}
use Rattle.core_view.specs.Flight.{known}
use Rattle.word_mask.specs.Mask.{has}
use Rattle.issue_queue.specs.Entry.{Entry, is_ready_load}
use Rattle.data_flow.specs.declared.operands.Operands.{Operands}
use Rattle.data_flow.specs.declared.operands.Renamed.{Renamed}
use Rattle.data_flow.specs.declared.data_flow.DataFlow.TheInside.{Inside}
use Rattle.data_flow.specs.Flow.{Lane, Flow, Waiter, no_lane, lane, node_at, sources_at, is_supplied, is_waiter, is_load_let_go, waits_to_load, waits_of, queued_waiter, queued}
use Rattle.data_flow.specs.Wired.{lane_of, flow, no_buffer, no_renamed, IsTied, IsWaiting, IsWiredUp}
use Rattle.data_flow.proofs.Ties.{IsSettled, Reads, reads, lengths}
use Rattle.data_flow.proofs.Places.{here_unread, eight}
use Rattle.data_flow.proofs.Sources.{given}
use Rattle.data_flow.proofs.Ready.{shown_entry, supplied_in, IsFaithful, faithful}
use Rattle.data_flow.proofs.Carried.{shown_entries}

-- ---- entries as they are shown

any_shown : (c : ℕ) (lanes : List Lane) (es : List Entry) → All (IsFaithful (shown_entry lanes)) es → list_any (is_ready_load c) (map (shown_entry lanes) es) ≡ list_any (is_ready_load c) es
any_shown c lanes [] h = refl
any_shown c lanes (e ∷ es) h =
    ap₂ (λ x y. x || y) (ap (λ ready. (e.context == c) && (ready && e.load)) (All-head (IsFaithful (shown_entry lanes)) e es h).tested)
    (any_shown c lanes es (All-tail (IsFaithful (shown_entry lanes)) e es h))

pub contexts_shown : {A : Type 0} (d : Inside A) (now : Flow) (word c : ℕ) → flow d ≡ now → IsWiredUp d → has word c ≡ list_any (is_ready_load c) d.queue.entries → has word c ≡ list_any (is_ready_load c) (queued now)
contexts_shown d now word c shows up is =
    let lanes : List Lane = (flow d).lanes in
    let all_faithful : All (IsFaithful (shown_entry lanes)) d.queue.entries =
    All-weaker (IsWaiting d.registers.cells d.renamed) (IsFaithful (shown_entry lanes)) (λ e. faithful d e up) d.queue.entries up.waiting in
    is ∙ sym (any_shown c lanes d.queue.entries all_faithful) ∙ sym (ap (list_any (is_ready_load c)) (shown_entries lanes d.queue.entries)) ∙ ap (λ (f : Flow). list_any (is_ready_load c) (queued f)) shows

-- ---- a load of a context without a ready one lacks a source

lacks_at : (own supplied free load : Bool) → own ≡ true → free ≡ true → load ≡ true → (own && (((length (waits_of supplied) == 0) && free) && load)) ≡ false → supplied ≡ false
lacks_at own true free load is_own is_free is_load h = absurd (true≢false (rw (is_own, is_free, is_load) at h))
lacks_at own false free load is_own is_free is_load h = refl

-- the instruction of a stamp of a context, where its registers and instructions are a lane
abbrev supplied_by : List Lane → ℕ → ℕ → Bool
supplied_by lanes c k = is_supplied (known (get_or lanes c no_lane).registers) (get_or lanes c no_lane).nodes k

lacks : (c k : ℕ) (lanes : List Lane) (w : Waiter) → is_ready_load c (queued_waiter lanes w) ≡ false → is_load_let_go c k w ≡ true → supplied_by lanes c k ≡ false
lacks c k lanes w fails h =
    let parts = and_parts (is_waiter c k w) (w.load && not w.held) h in
    let name = and_parts (w.context == c) (w.stamp == k) parts.0 in
    let marks = and_parts w.load (not w.held) parts.1 in
    ap₂ (supplied_by lanes) (sym (eqb-true w.context c name.0)) (sym (eqb-true w.stamp k name.1))
    ∙ lacks_at (w.context == c) (supplied_by lanes w.context w.stamp) (not w.held) w.load name.0 marks.1 marks.0 fails

any_lacks : (c k : ℕ) (lanes : List Lane) (ws : List Waiter) → list_any (is_ready_load c) (map (queued_waiter lanes) ws) ≡ false → list_any (is_load_let_go c k) ws ≡ true → supplied_by lanes c k ≡ false
any_lacks c k lanes [] none some = absurd (true≢false (sym some))
any_lacks c k lanes (w ∷ ws) none some =
    let parts = or_parts (is_ready_load c (queued_waiter lanes w)) (list_any (is_ready_load c) (map (queued_waiter lanes) ws)) none in
    elim (or_cases (is_load_let_go c k w) (list_any (is_load_let_go c k) ws) some) [
      | inl here ↦ lacks c k lanes w parts.0 here
      | inr later ↦ any_lacks c k lanes ws parts.1 later
    ]

none_of : (o : Option (ℕ × ℕ)) → is_some o ≡ false → o ≡ None
none_of None h = refl
none_of (Some v) h = absurd (true≢false h)

-- the instruction at a place that isn't supplied has no sources
no_sources : (cells : List (Option ℕ)) (b : Bank) (ns : Buffer Renamed) (i : ℕ) → IsTied cells b ns → IsSettled cells b → i < length ns.items
    → is_supplied (known (lane_of cells b ns).registers) (lane_of cells b ns).nodes (node_at (lane_of cells b ns) i).operands.stamp ≡ false → sources_at (lane_of cells b ns) i ≡ None
no_sources cells b ns i t s lt h =
    let l : Lane = lane_of cells b ns in
    let n : Renamed = get_or ns.items i no_renamed in
    let r : Reads cells l i n = reads cells b ns i no_renamed t s lt in
    let k : ℕ = (node_at l i).operands.stamp in
    none_of (sources_at l i) (ap is_some (given cells l i n r) ∙ sym (supplied_in cells b ns i k t s lt (sym (ap (λ (o : Operands). o.stamp) r.operands))) ∙ h)

pub load_lacks : {A : Type 0} (d : Inside A) (now : Flow) (c i : ℕ) → flow d ≡ now → IsWiredUp d → list_any (is_ready_load c) (queued now) ≡ false → i < length (lane now c).nodes
    → waits_to_load now c (node_at (lane now c) i).operands.stamp ≡ true → sources_at (lane now c) i ≡ None
load_lacks d now c i shows up none lt waits = elim (cases_lt c 8) [
  | inl below ↦
      let h = here_unread d now c shows up below in
      subst (λ (l : Lane). is_supplied (known l.registers) l.nodes (node_at l i).operands.stamp ≡ false → sources_at l i ≡ None) (sym h.lane_is)
      (no_sources d.registers.cells (bank d.registers c) (get_or d.renamed c no_buffer) i h.tied h.settled (omega (arith, h.count, lt)))
      (any_lacks c (node_at (lane now c) i).operands.stamp now.lanes now.waiters none waits)
  | inr above ↦
      let lens = lengths d.registers.cells d.registers.banks d.renamed up.tied in
      let wide = eight d up in
      let count : length now.lanes ≡ 8 = ap (λ (f : Flow). length f.lanes) (sym shows) ∙ lens.0 ∙ wide.0 in
      let absent : lane now c ≡ no_lane = get_or_past now.lanes c no_lane (omega (arith, count, above)) in
      absurd (omega (arith, lt, ap (λ (l : Lane). length l.nodes) absent))
]

-- One more instruction, from the fields before it to the fields after it.
use Rattle.std.proofs.Common.{◌≡◌, ℕ, ◌-◌, ◌<◌, Bool, true, false, List, [], ◌∷◌, ◌++◌, length, get_or, slice_get, Option, Some, None, refl, sym, ap, subst, ◌∙◌, arith}
use Rattle.std.specs.Prelude.{set, sum_by, All, ◌==◌, if◌then◌else◌, OnOk, IsOk, ◌↔◌, Result, Ok, Err}
use Rattle.std.proofs.lemmas.Bool.Decides.{nat_tests}
use Rattle.std.proofs.lemmas.List.{length-set, get_or-set_same}
use Rattle.std.proofs.lemmas.List.Elements.{All-get_or}
use Rattle.std.proofs.lemmas.Option.{get_or_from_slice_get, slice_get_within}
use Rattle.rename_file.specs.File.{Bank, bank, File, map_past, uses_in, rename_count}
use Rattle.reorder_buffer.specs.Growing.{IsGrowing}
use Rattle.reorder_buffer.proofs.Stamps.{growing_push}
use Rattle.circular_buffer.specs.Buffer.{Buffer, buffer}
use Rattle.data_flow.specs.declared.operands.Operands.{Operands}
use Rattle.data_flow.specs.declared.operands.Renamed.{Renamed}
use Rattle.data_flow.specs.declared.data_flow.DataFlow.TheInside.{Inside}
use Rattle.data_flow.specs.Flow.{Node, Lane, Flow, lane, no_lane, no_node, node_at, with_lane, with_node, taken}
use Rattle.data_flow.specs.Banks.{bank_with, CellsWith, IsNamed}
use Rattle.data_flow.specs.Wired.{cell_of, node_of, lane_of, lanes_of, flow, IsTied, AreTied, IsWaiting, IsWiredUp, no_buffer, no_renamed}
use Rattle.data_flow.proofs.Ties.{lane_at, tied_at, lanes-set, tied-set, IsWiredOver, get_or-map}
use Rattle.data_flow.proofs.Cells.{same_lanes, same_all_tied, used_in_banks, free_unused, sources_used}
use Rattle.data_flow.proofs.LaneEvents.{stamp_of, push_tied, push_lane}
use Rattle.data_flow.proofs.Counts.{counted_all}
use Rattle.data_flow.proofs.Places.{Here, here_unread}
use Rattle.data_flow.proofs.Steps.{Leaves, one_changes}
use Rattle.data_flow.proofs.Waits.{IsUnread, waiting_push, waiting_rename}

-- ---- a register that is free for one more

pub free_for : {A : Type 0} (d : Inside A) (now : Flow) (rd : ℕ) → flow d ≡ now → IsWiredUp d → (0 < rd → taken now < now.extra) → 0 < rd → 0 < length d.registers.free
free_for d now rd shows up free named =
    let room : taken (flow d) < (flow d).extra = subst (λ (f : Flow). taken f < f.extra) (sym shows) (free named) in
    let count : taken (flow d) ≡ rename_count d.registers = counted_all d.registers.cells d.registers.banks d.renamed up.tied in
    omega (arith, room, count, up.file.extra)

-- ---- stamps

-- the stamp of the youngest is below the new one
youngest_below : {A : Type 0} (d : Inside A) (now : Flow) (c k stamp : ℕ) (found : Buffer Renamed) (x : Renamed) → Here d now c k found → All (λ n. n.operands.stamp < stamp) (lane now c).nodes
    → slice_get found.items (length found.items - 1) ≡ Some x → x.operands.stamp < stamp
youngest_below d now c k stamp found x h younger e =
    let lt : length found.items - 1 < length found.items = slice_get_within found.items (length found.items - 1) x e in
    let is : get_or found.items (length found.items - 1) x ≡ x = get_or_from_slice_get found.items (length found.items - 1) x x e in
    let node-is : node_at (lane now c) (length found.items - 1) ≡ node_of d.registers.cells x =
    rw h.lane_is (get_or-map (node_of d.registers.cells) found.items (length found.items - 1) x no_node lt ∙ ap (node_of d.registers.cells) is) in
    let below : (node_at (lane now c) (length found.items - 1)).operands.stamp < stamp = All-get_or (λ (n : Node). n.operands.stamp < stamp) (lane now c).nodes (length found.items - 1) no_node (omega (arith, lt, h.count)) younger in
    subst (λ (n : Node). n.operands.stamp < stamp) node-is below

-- ---- the registers' values, once one of them is named

-- what naming the register of one more instruction leaves
pub record Named {A : Type 0} (d : Inside A) (c : ℕ) (cells : List (Option ℕ)) (n : Renamed) : Type 0 where
  pub tied : AreTied cells d.registers.banks d.renamed
  pub lanes : lanes_of cells d.registers.banks d.renamed ≡ lanes_of d.registers.cells d.registers.banks d.renamed
  pub len : length cells ≡ length d.registers.cells
  pub empty : (if n.operands.destination == 0 then None else cell_of cells n.destination) ≡ None
  pub waiting : All (IsWaiting cells (set d.renamed c (buffer ((get_or d.renamed c no_buffer).items ++ n ∷ []) (get_or d.renamed c no_buffer).capacity))) d.queue.entries

-- what was free is no source
unread : {A : Type 0} (d : Inside A) (now : Flow) (p : ℕ) → flow d ≡ now → IsWiredUp d → sum_by (uses_in p) d.registers.banks ≡ 0 → IsUnread d.renamed p
unread d now p shows up unused e i lt within =
    let h = here_unread d now e shows up lt in
    let found : Buffer Renamed = get_or d.renamed e no_buffer in
    let used = sources_used d.registers.cells (bank d.registers e) found i no_renamed h.tied h.settled.wide within in
    (λ same. omega (arith, unused, used_in_banks d.registers e p h.in_banks (rw same at used.first)), λ same. omega (arith, unused, used_in_banks d.registers e p h.in_banks (rw same at used.second)))

named : {A : Type 0} (d : Inside A) (now : Flow) (c : ℕ) (r : File) (n : Renamed) → flow d ≡ now → IsWiredUp d → c < length d.renamed → CellsWith d.registers r n.operands.destination n.destination → Named d c r.cells n
named d now c r n shows up lt step = by_test (n.operands.destination == 0) refl
  where
    by_test : (none : Bool) → (n.operands.destination == 0) ≡ none → Named d c r.cells n
    by_test true e =
        let zero_is : n.operands.destination ≡ 0 = grind (arith, nat_tests) in
        let same : r.cells ≡ d.registers.cells = (step.none zero_is).0 in
        rw same (record {
          tied = up.tied;
          lanes = refl;
          len = refl;
          empty = rw e refl;
          waiting = waiting_push d.registers.cells d.renamed c n d.queue.entries lt up.waiting;
        })
    by_test false e =
        let named_is : 0 < n.operands.destination = grind (arith, nat_tests) in
        let p : ℕ = n.destination in
        let w = step.named named_is in
        let unused = free_unused d.registers p up.file w.1 in
        rw w.0 (record {
          tied = same_all_tied d.registers.cells p None d.registers.banks d.renamed up.tied;
          lanes = same_lanes d.registers.cells p None d.registers.banks d.renamed up.tied unused;
          len = length-set d.registers.cells p None;
          empty = rw e (get_or-set_same d.registers.cells p None None w.3);
          waiting = waiting_rename d.registers.cells d.renamed c p n d.queue.entries lt (unread d now p shows up unused) up.waiting;
        })

-- ---- what a push into a ring that had room leaves: callers have such rings

pub push_is : {U E : Type 0} (r : Result U E) (P : Type 0) (a b : ℕ) → (IsOk r ↔ (a < b)) → OnOk r P → a < b → P
push_is (Ok u) P a b variant ok lt = ok
push_is (Err e) P a b variant ok lt = let no_entry = variant.1 lt in absurd cc

-- ---- the instruction

-- a list has room for it
pub has_room : {A : Type 0} (d : Inside A) (now : Flow) (c k : ℕ) (found : Buffer Renamed) → Here d now c k found → length (lane now c).nodes < (lane now c).room → length found.items < found.capacity
has_room d now c k found h room =
    let capacity : (lane now c).room ≡ found.capacity = ap (λ (l : Lane). l.room) h.lane_is in
    omega (arith, room, h.count)

own_leaves : {A : Type 0} (d : Inside A) (now : Flow) (c k : ℕ) (found left : Buffer Renamed) (n : Renamed) (r : File) → flow d ≡ now → IsWiredUp d → Here d now c k found → IsNamed d.registers c n.operands n
    → All (λ m. m.operands.stamp < n.operands.stamp) (lane now c).nodes → left ≡ buffer (found.items ++ n ∷ []) found.capacity
    → r.banks ≡ set d.registers.banks c (bank_with (bank d.registers c) n.operands.destination n.destination) → CellsWith d.registers r n.operands.destination n.destination
    → Leaves r (set d.renamed k left) d.queue (with_lane now c (with_node (lane now c) n.operands))
own_leaves d now c k found left n r shows up h new younger left-is banks cells =
    let m = named d now c r n shows up h.in_buffers cells in
    let b : Bank = bank d.registers c in
    let b' : Bank = bank_with b n.operands.destination n.destination in
    let pushed : Buffer Renamed = buffer (found.items ++ n ∷ []) found.capacity in
    let here_tied : IsTied r.cells b found = rw h.place (tied_at r.cells d.registers.banks d.renamed c m.tied h.in_banks) in
    let lane-is : lane now c ≡ lane_of r.cells b found = ap (λ (ls : List Lane). get_or ls c no_lane) (h.lanes ∙ sym m.lanes) ∙ rw h.place (lane_at r.cells d.registers.banks d.renamed c m.tied h.in_banks) in
    let over : IsWiredOver (map_past b.committed b.renames) n = record { first = new.first; second = new.second; first_narrow = new.first_narrow; second_narrow = new.second_narrow; destination_narrow = new.destination_narrow } in
    let growing : IsGrowing stamp_of (found.items ++ n ∷ []) = growing_push stamp_of found.items n h.tied.growing (λ x last. youngest_below d now c k n.operands.stamp found x h younger last) in
    let tied = push_tied r.cells b found n here_tied over growing in
    let l : Lane = with_node (lane now c) n.operands in
    let here : lane_of r.cells b' pushed ≡ l = push_lane r.cells b found n m.empty ∙ ap (λ (x : Lane). with_node x n.operands) (sym lane-is) in
    let lanes : lanes_of r.cells (set d.registers.banks c b') (set d.renamed c pushed) ≡ set now.lanes c l =
    lanes-set r.cells d.registers.banks d.renamed c b' pushed ∙ ap (set (lanes_of r.cells d.registers.banks d.renamed) c) here ∙ ap (λ (ls : List Lane). set ls c l) (m.lanes ∙ sym h.lanes) in
    let waiting : All (IsWaiting r.cells (set d.renamed c pushed)) d.queue.entries = rw h.place m.waiting in
    rw (h.index, left-is) (record {
      tied = rw banks (tied-set r.cells d.registers.banks d.renamed c b' pushed m.tied tied);
      waiting = waiting;
      shows = one_changes d now c l r (set d.renamed c pushed) d.queue shows (rw banks lanes) m.len refl refl;
    })

-- the same of the registers that it was named for
pub rename_leaves : {A : Type 0} (d : Inside A) (now : Flow) (c k : ℕ) (o : Operands) (found left : Buffer Renamed) (n : Renamed) (r : File) → flow d ≡ now → IsWiredUp d → Here d now c k found → IsNamed d.registers c o n
    → All (λ m. m.operands.stamp < o.stamp) (lane now c).nodes → left ≡ buffer (found.items ++ n ∷ []) found.capacity
    → r.banks ≡ set d.registers.banks c (bank_with (bank d.registers c) o.destination n.destination) → CellsWith d.registers r o.destination n.destination
    → Leaves r (set d.renamed k left) d.queue (with_lane now c (with_node (lane now c) o))
rename_leaves d now c k o found left n r shows up h new younger left-is banks cells =
    let own : o ≡ n.operands = sym new.operands in
    let new' = subst (λ (x : Operands). IsNamed d.registers c x n) own new in
    let younger' = subst (λ (x : Operands). All (λ m. m.operands.stamp < x.stamp) (lane now c).nodes) own younger in
    let banks' = subst (λ (x : Operands). r.banks ≡ set d.registers.banks c (bank_with (bank d.registers c) x.destination n.destination)) own banks in
    let cells' = subst (λ (x : Operands). CellsWith d.registers r x.destination n.destination) own cells in
    subst (λ (x : Operands). Leaves r (set d.renamed k left) d.queue (with_lane now c (with_node (lane now c) x))) new.operands (own_leaves d now c k found left n r shows up h new' younger' left-is banks' cells')

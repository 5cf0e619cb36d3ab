-- One more instruction, which waits for issue, from the fields before it to the fields after it.
use Rattle.std.proofs.Common.{◌≡◌, ℕ, ◌<◌, Bool, true, false, List, [], ◌∷◌, ◌++◌, length, get_or, map, None, refl, sym, ap, ◌∙◌, arith, length-append}
use Rattle.std.specs.Prelude.{set, All, ◌==◌}
use Rattle.std.specs.List.{list_any}
use Rattle.std.proofs.lemmas.Bool.Decides.{nat_tests}
use Rattle.std.proofs.lemmas.List.{length-set, get_or-set_same}
use Rattle.std.proofs.lemmas.List.Elements.{All-push}
use Rattle.rename_file.specs.File.{File, bank}
use Rattle.circular_buffer.specs.Buffer.{Buffer, buffer}
use Rattle.issue_queue.specs.Entry.{Entry, is_named}
use Rattle.issue_queue.specs.IssueQueue.{IssueQueue}
use Rattle.data_flow.specs.declared.operands.Operands.{Operands}
use Rattle.data_flow.specs.declared.operands.Renamed.{Renamed}
use Rattle.data_flow.specs.declared.data_flow.DataFlow.TheInside.{Inside}
use Rattle.data_flow.specs.Flow.{Waiter, Flow, lane, with_lane, with_node, waits_in, is_waiter}
use Rattle.data_flow.specs.Banks.{bank_with, CellsWith, IsNamed}
use Rattle.data_flow.specs.Wired.{unready, waiting_entry, waiter_of, flow, IsWaiting, IsWiredUp, no_buffer, no_renamed}
use Rattle.data_flow.proofs.Places.{Here}
use Rattle.data_flow.proofs.Renames.{rename_leaves}
use Rattle.data_flow.proofs.Steps.{Leaves, shown}
use Rattle.data_flow.proofs.Waiters.{waiters_put}
use Rattle.data_flow.proofs.Waits.{waits_named}

-- no entry has the name of an instruction that doesn't wait
pub unnamed : {A : Type 0} (d : Inside A) (now : Flow) (c stamp : ℕ) → flow d ≡ now → waits_in now c stamp ≡ false → list_any (is_named c stamp) d.queue.entries ≡ false
unnamed d now c stamp shows idle =
    waits_named c stamp d.queue.entries ∙ ap (λ (f : Flow). list_any (is_waiter c stamp) f.waiters) shows ∙ idle

-- naming a register leaves as many
pub same_count : (old new : File) (rd p k : ℕ) → CellsWith old new rd p → k < length old.cells → k < length new.cells
same_count old new rd p k step lt = by_test (rd == 0) refl
  where
    by_test : (none : Bool) → (rd == 0) ≡ none → k < length new.cells
    by_test true e =
        let zero_is : rd ≡ 0 = grind (arith, nat_tests) in
        rw (step.none zero_is).0 lt
    by_test false e =
        let named_is : 0 < rd = grind (arith, nat_tests) in
        rw (step.named named_is).0 (omega (arith, length-set old.cells p None, lt))

last_new : (ns : List Renamed) (n : Renamed) → get_or (ns ++ n ∷ []) (length ns) no_renamed ≡ n
last_new [] n = refl
last_new (x ∷ ns) n = last_new ns n

-- with an instruction more, which waits
abbrev pub with_waiting : Flow → ℕ → Operands → Bool → Bool → Bool → Flow
with_waiting now c o guessed load speculative = record (with_lane now c (with_node (lane now c) o)) { waiters = now.waiters ++ record { stamp = o.stamp; context = c; guessed = guessed; load = load; speculative = speculative; held = false } ∷ [] }

pub rename_wait_leaves : {A : Type 0} (d : Inside A) (now : Flow) (c k : ℕ) (o : Operands) (found left : Buffer Renamed) (n : Renamed) (r : File) (guessed load speculative : Bool) (q : IssueQueue) → flow d ≡ now → IsWiredUp d → Here d now c k found → IsNamed d.registers c o n
    → All (λ m. m.operands.stamp < o.stamp) (lane now c).nodes → left ≡ buffer (found.items ++ n ∷ []) found.capacity
    → r.banks ≡ set d.registers.banks c (bank_with (bank d.registers c) o.destination n.destination) → CellsWith d.registers r o.destination n.destination
    → q ≡ record d.queue { entries = d.queue.entries ++ waiting_entry r.cells c n guessed load speculative ∷ [] }
    → Leaves r (set d.renamed k left) q (with_waiting now c o guessed load speculative)
rename_wait_leaves d now c k o found left n r guessed load speculative q shows up h new younger left-is banks cells q-is =
    let l = rename_leaves d now c k o found left n r shows up h new younger left-is banks cells in
    let buffers : List (Buffer Renamed) = set d.renamed k left in
    let there : get_or buffers c no_buffer ≡ buffer (found.items ++ n ∷ []) found.capacity =
    rw h.index (get_or-set_same d.renamed c left no_buffer h.in_buffers) ∙ left-is in
    let i : ℕ = length found.items in
    let e : Entry = waiting_entry r.cells c n guessed load speculative in
    let within : i < length (get_or buffers c no_buffer).items = rw there (omega (arith, length-append found.items (n ∷ []))) in
    let same : get_or (get_or buffers c no_buffer).items i no_renamed ≡ n = rw there (last_new found.items n) in
    let w : Waiter = record { stamp = o.stamp; context = c; guessed = guessed; load = load; speculative = speculative; held = false } in
    let entered : waiter_of e ≡ w = ap (λ (x : Operands). let v : Waiter = record { stamp = x.stamp; context = c; guessed = guessed; load = load; speculative = speculative; held = false } in v) new.operands in
    let waiters : map waiter_of (d.queue.entries ++ e ∷ []) ≡ now.waiters ++ w ∷ [] = waiters_put d.queue.entries e ∙ ap (λ (f : Flow). f.waiters ++ waiter_of e ∷ []) shows ∙ ap (λ v. now.waiters ++ v ∷ []) entered in
    rw q-is (record {
      tied = l.tied;
      waiting = All-push (IsWaiting r.cells buffers) d.queue.entries e l.waiting (record {
        context = h.below;
        place = i;
        within = within;
        stamp = ap (λ (m : Renamed). m.operands.stamp) same;
        waits = ap (λ (m : Renamed). unready r.cells m.first ++ unready r.cells m.second) (sym same);
      });
      shows = ap (λ (ws : List Waiter). let g : Flow = record (shown r buffers d.queue) { waiters = ws } in g) waiters ∙ ap (λ (f : Flow). let g : Flow = record f { waiters = now.waiters ++ w ∷ [] } in g) l.shows;
    })

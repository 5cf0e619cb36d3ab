-- A mark on an entry of the queue is a mark on what waits.
use Rattle.std.proofs.Common.{◌≡◌, ℕ, Bool, true, false, not, ◌&&◌, ◌||◌, List, [], ◌∷◌, map, Option, refl, sym, ap, ap₂, subst, ◌∙◌}
use Rattle.std.specs.Prelude.{All, filter, ◌==◌, if◌then◌else◌}
use Rattle.std.specs.List.{list_any}
use Rattle.std.proofs.lemmas.List.Elements.{All-weaker, All-map}
use Rattle.word_mask.proofs.Laws.{eqb_swap}
use Rattle.circular_buffer.specs.Buffer.{Buffer}
use Rattle.core_view.specs.declared.note.EntryId.{EntryId}
use Rattle.issue_queue.specs.Entry.{Entry, is_named}
use Rattle.issue_queue.specs.IssueQueue.{IssueQueue, with_held, with_speculative, hold_among, released}
use Rattle.issue_queue.specs.IsSelected.{is_among}
use Rattle.data_flow.specs.declared.operands.Renamed.{Renamed}
use Rattle.data_flow.specs.declared.data_flow.DataFlow.TheInside.{Inside}
use Rattle.data_flow.specs.Flow.{Waiter, Flow, with_held as held_waiter, with_speculative as speculative_waiter, hold_among as hold_waiter_among, released as released_waiter}
use Rattle.data_flow.specs.Wired.{waiter_of, IsWaiting, IsWiredUp, flow}
use Rattle.data_flow.proofs.Waiters.{waiters_unheld}
use Rattle.data_flow.proofs.Waits.{waiting_filter}

-- ---- one entry

waiter_marked : (flag : Bool) (e : Entry) (b : Bool) → waiter_of (if b then (record e { held = flag }) else e) ≡ (if b then (record (waiter_of e) { held = flag }) else waiter_of e)
waiter_marked flag e true = refl
waiter_marked flag e false = refl

pub waiter_held : (c k : ℕ) (flag : Bool) (e : Entry) → waiter_of (with_held c k flag e) ≡ held_waiter c k flag (waiter_of e)
waiter_held c k flag e = waiter_marked flag e (is_named c k e)

pub waiter_speculative : (c k : ℕ) (flag : Bool) (e : Entry) → waiter_of (with_speculative c k flag e) ≡ speculative_waiter c k flag (waiter_of e)
waiter_speculative c k flag e = at_test (is_named c k e)
  where
    at_test : (b : Bool) → waiter_of (if b then (record e { speculative = flag }) else e) ≡ (if b then (record (waiter_of e) { speculative = flag }) else waiter_of e)
    at_test true = refl
    at_test false = refl

-- an entry that is marked as held or not, where so
waiting_marked : (cells : List (Option ℕ)) (buffers : List (Buffer Renamed)) (flag : Bool) (e : Entry) → IsWaiting cells buffers e → (b : Bool) → IsWaiting cells buffers (if b then (record e { held = flag }) else e)
waiting_marked cells buffers flag e h true = record { context = h.context; place = h.place; within = h.within; stamp = h.stamp; waits = h.waits }
waiting_marked cells buffers flag e h false = h

waiting_held : (cells : List (Option ℕ)) (buffers : List (Buffer Renamed)) (c k : ℕ) (flag : Bool) (e : Entry) → IsWaiting cells buffers e → IsWaiting cells buffers (with_held c k flag e)
waiting_held cells buffers c k flag e h = waiting_marked cells buffers flag e h (is_named c k e)

waiting_speculative : (cells : List (Option ℕ)) (buffers : List (Buffer Renamed)) (c k : ℕ) (flag : Bool) (e : Entry) → IsWaiting cells buffers e → IsWaiting cells buffers (with_speculative c k flag e)
waiting_speculative cells buffers c k flag e h = at_test (is_named c k e)
  where
    at_test : (b : Bool) → IsWaiting cells buffers (if b then (record e { speculative = flag }) else e)
    at_test true = record { context = h.context; place = h.place; within = h.within; stamp = h.stamp; waits = h.waits }
    at_test false = h

-- ---- all entries

waiters_changed : (f : Entry → Entry) (g : Waiter → Waiter) → ((e : Entry) → waiter_of (f e) ≡ g (waiter_of e)) → (es : List Entry) → map waiter_of (map f es) ≡ map g (map waiter_of es)
waiters_changed f g same [] = refl
waiters_changed f g same (e ∷ es) = ap₂ (λ (w : Waiter) (ws : List Waiter). w ∷ ws) (same e) (waiters_changed f g same es)

-- what a queue whose entries changed leaves
pub record Changes {A : Type 0} (d : Inside A) (now : Flow) (q : IssueQueue) (g : List Waiter → List Waiter) : Type 0 where
  pub shown : flow (record d { queue = q }) ≡ record now { waiters = g now.waiters }
  pub wired : IsWiredUp (record d { queue = q })

leaves : {A : Type 0} (d : Inside A) (now : Flow) (q : IssueQueue) (es : List Entry) (g : List Waiter → List Waiter) → flow d ≡ now → IsWiredUp d
    → map waiter_of es ≡ g (map waiter_of d.queue.entries) → All (IsWaiting d.registers.cells d.renamed) es → q ≡ record d.queue { entries = es } → Changes d now q g
leaves {A} d now q es g shows up same waiting is = subst (λ (r : IssueQueue). Changes d now r g) (sym is) (record {
  shown = ap (λ (ws : List Waiter). let r : Flow = record (flow d) { waiters = ws } in r) same ∙ ap (λ (r : Flow). let s : Flow = record r { waiters = g r.waiters } in s) shows;
  wired = record { file = up.file; tied = up.tied; waiting = waiting };
})

changes : {A : Type 0} (d : Inside A) (now : Flow) (q : IssueQueue) (f : Entry → Entry) (g : Waiter → Waiter) → flow d ≡ now → IsWiredUp d
    → ((e : Entry) → waiter_of (f e) ≡ g (waiter_of e)) → ((e : Entry) → IsWaiting d.registers.cells d.renamed e → IsWaiting d.registers.cells d.renamed (f e))
    → q ≡ record d.queue { entries = map f d.queue.entries } → Changes d now q (map g)
changes d now q f g shows up same keeps is =
    leaves d now q (map f d.queue.entries) (map g) shows up (waiters_changed f g same d.queue.entries)
    (All-map (IsWaiting d.registers.cells d.renamed) f d.queue.entries
    (All-weaker (IsWaiting d.registers.cells d.renamed) (λ e. IsWaiting d.registers.cells d.renamed (f e)) keeps d.queue.entries up.waiting)) is

-- those that are held are gone
pub unheld : {A : Type 0} (d : Inside A) (now : Flow) (q : IssueQueue) → flow d ≡ now → IsWiredUp d → q ≡ record d.queue { entries = filter (λ e. not e.held) d.queue.entries } → Changes d now q (filter (λ w. not w.held))
unheld d now q shows up is =
    leaves d now q (filter (λ e. not e.held) d.queue.entries) (filter (λ w. not w.held)) shows up (waiters_unheld d.queue.entries) (waiting_filter d.registers.cells d.renamed (λ e. not e.held) d.queue.entries up.waiting) is

pub held : {A : Type 0} (d : Inside A) (now : Flow) (q : IssueQueue) (c k : ℕ) (flag : Bool) → flow d ≡ now → IsWiredUp d
    → q ≡ record d.queue { entries = map (with_held c k flag) d.queue.entries } → Changes d now q (map (held_waiter c k flag))
held d now q c k flag shows up is =
    changes d now q (with_held c k flag) (held_waiter c k flag) shows up (waiter_held c k flag) (waiting_held d.registers.cells d.renamed c k flag) is

pub speculated : {A : Type 0} (d : Inside A) (now : Flow) (q : IssueQueue) (c k : ℕ) (flag : Bool) → flow d ≡ now → IsWiredUp d
    → q ≡ record d.queue { entries = map (with_speculative c k flag) d.queue.entries } → Changes d now q (map (speculative_waiter c k flag))
speculated d now q c k flag shows up is =
    changes d now q (with_speculative c k flag) (speculative_waiter c k flag) shows up (waiter_speculative c k flag) (waiting_speculative d.registers.cells d.renamed c k flag) is

pub released_all : {A : Type 0} (d : Inside A) (now : Flow) (q : IssueQueue) → flow d ≡ now → IsWiredUp d → q ≡ record d.queue { entries = map released d.queue.entries } → Changes d now q (map released_waiter)
released_all d now q shows up is =
    changes d now q released released_waiter shows up (λ e. refl) (λ e h. record { context = h.context; place = h.place; within = h.within; stamp = h.stamp; waits = h.waits }) is

-- ---- those that are named

-- an entry is one of these as what waits is
named_same : (names : List EntryId) (e : Entry) → is_among names e ≡ list_any (λ n. (n.context == e.context) && (n.stamp == e.stamp)) names
named_same [] e = refl
named_same (n ∷ ns) e = ap₂ (λ (x y : Bool). x || y) (ap₂ (λ (x y : Bool). x && y) (eqb_swap e.context n.context) (eqb_swap e.stamp n.stamp)) (named_same ns e)

waiter_among : (names : List EntryId) (e : Entry) → waiter_of (hold_among names e) ≡ hold_waiter_among names (waiter_of e)
waiter_among names e = waiter_marked true e (is_among names e) ∙ ap (λ (b : Bool). if b then (record (waiter_of e) { held = true }) else waiter_of e) (named_same names e)

pub held_among : {A : Type 0} (d : Inside A) (now : Flow) (q : IssueQueue) (names : List EntryId) → flow d ≡ now → IsWiredUp d
    → q.capacity ≡ d.queue.capacity → q.entries ≡ map (hold_among names) d.queue.entries → Changes d now q (map (hold_waiter_among names))
held_among d now q names shows up capacity entries =
    changes d now q (hold_among names) (hold_waiter_among names) shows up (waiter_among names) (λ e h. waiting_marked d.registers.cells d.renamed true e h (is_among names e))
    (ap₂ (λ (n : ℕ) (es : List Entry). let r : IssueQueue = record { capacity = n; entries = es } in r) capacity entries)

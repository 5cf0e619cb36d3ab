-- What the instructions in flight compute with. No physical register is named.
use Rattle.std.specs.Prelude.{ℕ, ◌-◌, Bool, true, false, not, ◌&&◌, ◌==◌, nat_lt, nat_le, if◌then◌else◌, List, [], ◌∷◌, ◌++◌, length, map, filter, take, drop, get_or, slice_set, replicate, Option, Some, None, is_some, unwrap_or, sum_by, count_by}
use Rattle.std.specs.List.{list_any}
use Rattle.hart_step.specs.State.{written}
use Rattle.core_view.specs.Flight.{known, produced, source_value}
use Rattle.core_view.specs.declared.note.EntryId.{EntryId}
use Rattle.issue_queue.specs.Entry.{Entry}
use Rattle.data_flow.specs.declared.operands.Operands.{Operands}

-- ---- one context

-- an instruction in flight: the registers that it names, and its result, once it is there; one without a destination has none
pub record Node : Type 0 where
  pub operands : Operands
  pub result : Option ℕ

-- a context: its committed registers, its instructions in flight, oldest first, and how many there may be
pub record Lane : Type 0 where
  pub registers : List ℕ
  pub nodes : List Node
  pub room : ℕ

abbrev pub no_node : Node
no_node = record { operands = record { stamp = 0; destination = 0; first = 0; second = 0 }; result = None }

abbrev pub node_at : Lane → ℕ → Node
node_at l i = get_or l.nodes i no_node

-- the registers as they are seen after an instruction, each known or not
abbrev pub seen_past_node : List (Option ℕ) → Node → List (Option ℕ)
seen_past_node seen n = produced seen n.operands.destination n.result

-- after several
abbrev pub seen_past_nodes : List (Option ℕ) → List Node → List (Option ℕ)
seen_past_nodes seen [] = seen
seen_past_nodes seen (n ∷ ns) = seen_past_nodes (seen_past_node seen n) ns

-- the registers as the instruction at a place sees them
abbrev pub seen_at : Lane → ℕ → List (Option ℕ)
seen_at l i = seen_past_nodes (known l.registers) (take i l.nodes)

-- two values, where both are there
abbrev pub both : Option ℕ → Option ℕ → Option (ℕ × ℕ)
both None b = None
both (Some a) None = None
both (Some a) (Some b) = Some (a, b)

-- the values of an instruction's sources, where both are there
abbrev pub sources_of : List (Option ℕ) → Operands → Option (ℕ × ℕ)
sources_of seen o = both (source_value seen o.first) (source_value seen o.second)

abbrev pub sources_at : Lane → ℕ → Option (ℕ × ℕ)
sources_at l i = sources_of (seen_at l i) (node_at l i).operands

-- the instruction with a stamp has the values of both its sources
abbrev pub is_supplied : List (Option ℕ) → List Node → ℕ → Bool
is_supplied seen [] k = false
is_supplied seen (n ∷ ns) k = if n.operands.stamp == k then is_some (sources_of seen n.operands) else is_supplied (seen_past_node seen n) ns k

-- ---- what happens to a context

abbrev pub with_register : Lane → ℕ → ℕ → Lane
with_register l r value = record l { registers = slice_set l.registers r value }

-- one more instruction, the youngest, without a result
abbrev pub with_node : Lane → Operands → Lane
with_node l o = record l { nodes = l.nodes ++ record { operands = o; result = None } ∷ [] }

-- a result for an instruction, where it has a destination
abbrev pub result_for : Operands → ℕ → Option ℕ
result_for o value = if o.destination == 0 then None else Some value

abbrev pub with_result : Lane → ℕ → ℕ → Lane
with_result l i value = record l { nodes = slice_set l.nodes i (record (node_at l i) { result = result_for (node_at l i).operands value }) }

-- the oldest instruction is committed
abbrev pub without_oldest : Lane → Lane
without_oldest l = record l { registers = written l.registers (node_at l 0).operands.destination (unwrap_or (node_at l 0).result 0); nodes = drop 1 l.nodes }

-- the youngest instruction is forgotten
abbrev pub without_newest : Lane → Lane
without_newest l = record l { nodes = take (length l.nodes - 1) l.nodes }

-- so many of the oldest instructions are left
abbrev pub kept : Lane → ℕ → Lane
kept l n = record l { nodes = take n l.nodes }

-- the instructions from a stamp on are forgotten
abbrev pub cut_from : Lane → ℕ → Lane
cut_from l k = record l { nodes = filter (λ n. nat_lt n.operands.stamp k) l.nodes }

-- ---- all contexts

-- an instruction that waits for issue
pub record Waiter : Type 0 where
  pub stamp : ℕ
  pub context : ℕ
  pub guessed : Bool
  pub load : Bool
  -- an older guessed entry of its context has not completed
  pub speculative : Bool
  -- a load that is not clear
  pub held : Bool

-- the contexts, how many instructions with a destination there may be, those that wait for issue in the order in which they came, and how many these may be
pub record Flow : Type 0 where
  pub lanes : List Lane
  pub extra : ℕ
  pub waiters : List Waiter
  pub places : ℕ

abbrev pub no_lane : Lane
no_lane = record { registers = []; nodes = []; room = 0 }

abbrev pub lane : Flow → ℕ → Lane
lane f c = get_or f.lanes c no_lane

abbrev pub with_lane : Flow → ℕ → Lane → Flow
with_lane f c l = record f { lanes = slice_set f.lanes c l }

-- how many instructions of a context have a destination
abbrev pub takes : Node → Bool
takes n = not (n.operands.destination == 0)

abbrev pub taken_in : Lane → ℕ
taken_in l = count_by takes l.nodes

-- of all contexts
abbrev pub taken : Flow → ℕ
taken f = sum_by taken_in f.lanes

abbrev pub is_waiter : ℕ → ℕ → Waiter → Bool
is_waiter c k w = (w.context == c) && (w.stamp == k)

-- the instruction of a context and stamp waits for issue
abbrev pub waits_in : Flow → ℕ → ℕ → Bool
waits_in f c k = list_any (is_waiter c k) f.waiters

-- a load of a context and stamp, not held
abbrev pub is_load_let_go : ℕ → ℕ → Waiter → Bool
is_load_let_go c k w = is_waiter c k w && (w.load && not w.held)

-- the instruction of a context and stamp is a load that waits for issue and is not held
abbrev pub waits_to_load : Flow → ℕ → ℕ → Bool
waits_to_load f c k = list_any (is_load_let_go c k) f.waiters

-- an instruction of the context from a stamp on
abbrev pub is_waiter_from : ℕ → ℕ → Waiter → Bool
is_waiter_from c k w = (w.context == c) && nat_le k w.stamp

-- the instructions of a context from a stamp on are forgotten, and don't wait
abbrev pub cut_flow : Flow → ℕ → ℕ → Flow
cut_flow f c k = record f { lanes = slice_set f.lanes c (cut_from (lane f c) k); waiters = filter (λ w. not (is_waiter_from c k w)) f.waiters }

-- how many of a context are below a stamp
abbrev pub left_in : Flow → ℕ → ℕ → ℕ
left_in f c k = length (cut_from (lane f c) k).nodes

abbrev pub with_speculative : ℕ → ℕ → Bool → Waiter → Waiter
with_speculative c k flag w = if is_waiter c k w then record w { speculative = flag } else w

abbrev pub with_held : ℕ → ℕ → Bool → Waiter → Waiter
with_held c k flag w = if is_waiter c k w then record w { held = flag } else w

-- held where it is one of these
abbrev pub hold_among : List EntryId → Waiter → Waiter
hold_among names w = if list_any (λ n. (n.context == w.context) && (n.stamp == w.stamp)) names then record w { held = true } else w

abbrev pub released : Waiter → Waiter
released w = record w { held = false }

-- ---- the waiting as an issue queue: an instruction waits where a source has no value

abbrev pub waits_of : Bool → List ℕ
waits_of supplied = if supplied then [] else 0 ∷ []

abbrev pub queued_waiter : List Lane → Waiter → Entry
queued_waiter lanes w = record {
  stamp = w.stamp;
  context = w.context;
  guessed = w.guessed;
  load = w.load;
  speculative = w.speculative;
  held = w.held;
  waits = waits_of (is_supplied (known (get_or lanes w.context no_lane).registers) (get_or lanes w.context no_lane).nodes w.stamp);
}

abbrev pub queued : Flow → List Entry
queued f = map (queued_waiter f.lanes) f.waiters

-- eight contexts that have done nothing yet
abbrev pub first_lane : ℕ → Lane
first_lane room = record { registers = replicate 32 0; nodes = []; room = room }

abbrev pub first_flow : ℕ → ℕ → ℕ → Flow
first_flow extra room places = record { lanes = replicate 8 (first_lane room); extra = extra; waiters = []; places = places }

-- How physical registers stand for values.
use Rattle.std.specs.Prelude.{◌≡◌, ℕ, ◌-◌, ◌<◌, Bool, false, List, [], ◌∷◌, ◌++◌, length, map, get_or, slice_index, All, Option, None, is_some, unwrap_or, ◌==◌, if◌then◌else◌}
use Rattle.rename_file.specs.declared.rename_map.Rename.{Rename}
use Rattle.rename_file.specs.File.{Bank, IsFile}
use Rattle.reorder_buffer.specs.Growing.{IsGrowing}
use Rattle.circular_buffer.specs.Buffer.{Buffer}
use Rattle.issue_queue.specs.Entry.{Entry}
use Rattle.hart_step.specs.State.{written}
use Rattle.data_flow.specs.declared.operands.Renamed.{Renamed}
use Rattle.data_flow.specs.declared.data_flow.DataFlow.TheInside.{Inside}
use Rattle.data_flow.specs.Flow.{Node, Lane, Waiter, Flow}

abbrev pub cell_of : List (Option ℕ) → ℕ → Option ℕ
cell_of cells p = get_or cells p None

abbrev pub value_of : List (Option ℕ) → ℕ → ℕ
value_of cells p = unwrap_or (cell_of cells p) 0

-- ---- what is shown

abbrev pub node_of : List (Option ℕ) → Renamed → Node
node_of cells n = record { operands = n.operands; result = if n.operands.destination == 0 then None else cell_of cells n.destination }

abbrev pub lane_of : List (Option ℕ) → Bank → Buffer Renamed → Lane
lane_of cells b ns = record { registers = map (value_of cells) b.committed; nodes = map (node_of cells) ns.items; room = ns.capacity }

abbrev pub lanes_of : List (Option ℕ) → List Bank → List (Buffer Renamed) → List Lane
lanes_of cells [] ns = []
lanes_of cells (b ∷ bs) [] = []
lanes_of cells (b ∷ bs) (n ∷ ns) = lane_of cells b n ∷ lanes_of cells bs ns

abbrev pub waiter_of : Entry → Waiter
waiter_of e = record { stamp = e.stamp; context = e.context; guessed = e.guessed; load = e.load; speculative = e.speculative; held = e.held }

abbrev pub flow : {A : Type 0} → Inside A → Flow
flow d = record {
  lanes = lanes_of d.registers.cells d.registers.banks d.renamed;
  extra = length d.registers.cells - 256;
  waiters = map waiter_of d.queue.entries;
  places = d.queue.capacity;
}

-- ---- the invariant

-- the renames that instructions stand for
abbrev pub renames_of : List Renamed → List Rename
renames_of [] = []
renames_of (n ∷ ns) = if n.operands.destination == 0 then renames_of ns else record { rd = n.operands.destination; register = n.destination } ∷ renames_of ns

-- each instruction reads what its sources stood for as it was renamed; there are so many registers, and this is the map before
abbrev pub IsWired : ℕ → List ℕ → List Renamed → Type 0
IsWired count map [] = Unit {0}
IsWired count map (n ∷ ns) =
    (n.first ≡ slice_index map n.operands.first) × (n.second ≡ slice_index map n.operands.second)
    × (n.operands.first < 32) × (n.operands.second < 32) × (n.operands.destination < 32)
    × IsWired count (written map n.operands.destination n.destination) ns

pub record IsTied (cells : List (Option ℕ)) (b : Bank) (ns : Buffer Renamed) : Type 0 where
  pub renames : b.renames ≡ renames_of ns.items
  pub wired : IsWired (length cells) b.committed ns.items
  pub growing : IsGrowing (λ n. n.operands.stamp) ns.items

abbrev pub AreTied : List (Option ℕ) → List Bank → List (Buffer Renamed) → Type 0
AreTied cells [] [] = Unit {0}
AreTied cells [] (n ∷ ns) = ⊥
AreTied cells (b ∷ bs) [] = ⊥
AreTied cells (b ∷ bs) (n ∷ ns) = IsTied cells b n × AreTied cells bs ns

abbrev pub no_buffer : Buffer Renamed
no_buffer = record { items = []; capacity = 0 }

abbrev pub no_renamed : Renamed
no_renamed = record { operands = record { stamp = 0; destination = 0; first = 0; second = 0 }; destination = 0; first = 0; second = 0 }

-- a register has no value yet
abbrev pub unready : List (Option ℕ) → ℕ → List ℕ
unready cells p = if is_some (cell_of cells p) then [] else p ∷ []

-- the entry of an instruction that waits for those of its registers
abbrev pub waiting_entry : List (Option ℕ) → ℕ → Renamed → Bool → Bool → Bool → Entry
waiting_entry cells c n guessed load speculative = record {
  stamp = n.operands.stamp;
  context = c;
  guessed = guessed;
  load = load;
  speculative = speculative;
  held = false;
  waits = unready cells n.first ++ unready cells n.second;
}

-- an entry of the queue waits for those registers of its instruction that have no value yet
pub record IsWaiting (cells : List (Option ℕ)) (buffers : List (Buffer Renamed)) (e : Entry) : Type 0 where
  pub context : e.context < 8
  pub place : ℕ
  pub within : place < length (get_or buffers e.context no_buffer).items
  pub stamp : (get_or (get_or buffers e.context no_buffer).items place no_renamed).operands.stamp ≡ e.stamp
  pub waits : e.waits ≡ unready cells (get_or (get_or buffers e.context no_buffer).items place no_renamed).first ++ unready cells (get_or (get_or buffers e.context no_buffer).items place no_renamed).second

pub record IsWiredUp {A : Type 0} (d : Inside A) : Type 0 where
  pub file : IsFile d.registers
  pub tied : AreTied d.registers.cells d.registers.banks d.renamed
  pub waiting : All (IsWaiting d.registers.cells d.renamed) d.queue.entries

-- The table of a profile: its keys, what may stand at each, and the defaults.
use Rattle.std.specs.Prelude.{◌≡◌, ℕ, ◌≤◌, ◌≢◌, List, [], ◌∷◌, Bool, false, ◌&&◌, ◌||◌, ◌==◌, nat_le, Option, codes, find, AllPairs}
use Rattle.std.specs.Str.{bytes_eq}
use Rattle.std.specs.Ordering.{nat_cmp}
use Rattle.std.specs.Cmp.Lexicographic.{slice_cmp}
use Rattle.std.specs.declared.cmp.Ordering.TheVariants.{Less}
use Rattle.core_profile.specs.declared.key.Key.{Key}
use Rattle.core_profile.specs.declared.key.Key.TheVariants.{AluLatency, BranchLatency, ExtraRegisters, Fetch, FrontDelay, HitLatency, Issue, IssueQueue, IssueWidth, LoadQueue, MissLatency, Num1, Num2, RenameWidth, ReorderBuffer, RetireWidth, StoreLatency, StoreQueue}

-- the keys in the order of their bytes
abbrev pub keys : List Key
keys = AluLatency ∷ BranchLatency ∷ ExtraRegisters ∷ Fetch ∷ FrontDelay ∷ HitLatency ∷ Issue ∷ IssueQueue ∷ IssueWidth ∷ LoadQueue ∷ MissLatency ∷ Num1 ∷ Num2 ∷ RenameWidth ∷ ReorderBuffer ∷ RetireWidth ∷ StoreLatency ∷ StoreQueue ∷ []

-- the name of a key
abbrev pub name_of : Key → List ℕ
name_of AluLatency = codes "alu_latency"
name_of BranchLatency = codes "branch_latency"
name_of ExtraRegisters = codes "extra_registers"
name_of Fetch = codes "fetch"
name_of FrontDelay = codes "front_delay"
name_of HitLatency = codes "hit_latency"
name_of Issue = codes "issue"
name_of IssueQueue = codes "issue_queue"
name_of IssueWidth = codes "issue_width"
name_of LoadQueue = codes "load_queue"
name_of MissLatency = codes "miss_latency"
name_of Num1 = codes "num1"
name_of Num2 = codes "num2"
name_of RenameWidth = codes "rename_width"
name_of ReorderBuffer = codes "reorder_buffer"
name_of RetireWidth = codes "retire_width"
name_of StoreLatency = codes "store_latency"
name_of StoreQueue = codes "store_queue"

-- a name comes before another in the order of their bytes
abbrev pub IsBefore : List ℕ → List ℕ → Type 0
IsBefore name other = slice_cmp nat_cmp name other ≡ Less

-- each name of the keys comes before those after it
abbrev pub AreInOrder : List Key → Type 0
AreInOrder ks = AllPairs (λ j k. IsBefore (name_of j) (name_of k)) ks

-- the key of a name
abbrev pub key_named : List ℕ → Option Key
key_named name = find (λ k. bytes_eq (name_of k) name) keys

-- what may stand at a key: the name of a policy, one of the numbers 1, 2 and 4, or a number from one to another
pub data Range : Type 0 where
  fetch_policy : Range
  issue_policy : Range
  one_two_four : Range
  from_to : ℕ → ℕ → Range

-- what may stand at a key
abbrev pub range_of : Key → Range
range_of AluLatency = from_to 1 200
range_of BranchLatency = from_to 1 200
range_of ExtraRegisters = from_to 32 224
range_of Fetch = fetch_policy
range_of FrontDelay = from_to 1 8
range_of HitLatency = from_to 1 200
range_of Issue = issue_policy
range_of IssueQueue = from_to 8 64
range_of IssueWidth = from_to 1 8
range_of LoadQueue = from_to 4 32
range_of MissLatency = from_to 1 200
range_of Num1 = one_two_four
range_of Num2 = from_to 1 8
range_of RenameWidth = from_to 1 8
range_of ReorderBuffer = from_to 8 64
range_of RetireWidth = from_to 1 16
range_of StoreLatency = from_to 1 200
range_of StoreQueue = from_to 4 32

-- the test of a number for a range
unfoldable pub allows : Range → ℕ → Bool
allows fetch_policy n = false
allows issue_policy n = false
allows one_two_four n = n == 1 || n == 2 || n == 4
allows (from_to low high) n = nat_le low n && nat_le n high

-- a number is in a range
abbrev pub IsIn : Range → ℕ → Type 0
IsIn fetch_policy n = ⊥
IsIn issue_policy n = ⊥
IsIn one_two_four n = (1 ≤ n) × (n ≤ 4) × (n ≢ 3)
IsIn (from_to low high) n = (low ≤ n) × (n ≤ high)

-- the number at a key that a table doesn't have
abbrev pub default_of : Key → ℕ
default_of AluLatency = 1
default_of BranchLatency = 1
default_of ExtraRegisters = 100
default_of Fetch = 0
default_of FrontDelay = 2
default_of HitLatency = 1
default_of Issue = 0
default_of IssueQueue = 32
default_of IssueWidth = 8
default_of LoadQueue = 16
default_of MissLatency = 20
default_of Num1 = 2
default_of Num2 = 8
default_of RenameWidth = 8
default_of ReorderBuffer = 32
default_of RetireWidth = 8
default_of StoreLatency = 1
default_of StoreQueue = 16

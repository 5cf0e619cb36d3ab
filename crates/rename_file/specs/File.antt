-- Physical registers: which of them each context has committed, which are renames, which are free.
use Rattle.std.specs.Prelude.{◌≡◌, ℕ, ◌+◌, ◌-◌, ◌<◌, ◌≤◌, List, [], ◌∷◌, ◌++◌, length, take, drop, slice_set, slice_index, slice_index_or, slice_get, Option, Some, None, IsSome, All, nat_lt, ◌==◌, if◌then◌else◌, sum_by}
use Rattle.rename_file.specs.declared.rename_map.Rename.{Rename}

-- one context: the register that is committed for each of x0 to x31, and the renames since, oldest first
pub record Bank : Type 0 where
  pub committed : List ℕ
  pub renames : List Rename

-- the contexts, the registers that are free, the newest last, and for each register its value, once it is there
pub record File : Type 0 where
  pub banks : List Bank
  pub free : List ℕ
  pub cells : List (Option ℕ)

abbrev pub no_bank : Bank
no_bank = record { committed = []; renames = [] }

-- the context c
abbrev pub bank : File → ℕ → Bank
bank f c = slice_index_or f.banks c no_bank

-- the value of the register p, once it is there
abbrev pub cell : File → ℕ → Option ℕ
cell f p = slice_index_or f.cells p None

-- the map m with each rename written over it, the newest last
abbrev pub map_past : List ℕ → List Rename → List ℕ
map_past m [] = m
map_past m (n ∷ ns) = map_past (slice_set m n.rd n.register) ns

-- the register that rs stands for in a context
abbrev pub mapped : Bank → ℕ → ℕ
mapped b rs = slice_index (map_past b.committed b.renames) rs

-- ---- each register in one place

-- 1 where q is p
abbrev pub at : ℕ → ℕ → ℕ
at p q = if q == p then 1 else 0

-- how often a context has p
abbrev pub uses_in : ℕ → Bank → ℕ
uses_in p b = sum_by (at p) b.committed + sum_by (λ n. at p n.register) b.renames

-- how often p stands among what is free, committed and renamed to
abbrev pub uses : ℕ → File → ℕ
uses p f = sum_by (at p) f.free + sum_by (uses_in p) f.banks

-- how many extra registers are in use
abbrev pub rename_count : File → ℕ
rename_count f = sum_by (λ b. length b.renames) f.banks

-- a rename of one of x1 to x31, to a register that isn't an x0
pub record IsRename (n : Rename) : Type 0 where
  pub named : 0 < n.rd
  pub narrow : n.rd < 32
  pub register : 8 ≤ n.register

-- a context c: its x0 is register c, it has a register of its own for each other name, and what is committed has its value
pub record IsBank (cells : List (Option ℕ)) (c : ℕ) (b : Bank) : Type 0 where
  pub wide : length b.committed ≡ 32
  pub zero : slice_index b.committed 0 ≡ c
  pub others : (r : ℕ) → 0 < r → r < 32 → 8 ≤ slice_index b.committed r
  pub valued : (r : ℕ) → r < 32 → IsSome (slice_index_or cells (slice_index b.committed r) None)
  pub renamed : All IsRename b.renames

-- eight contexts, 256 registers for what is committed, and extra ones that are free or renames; each in one place
pub record IsFile (f : File) : Type 0 where
  pub eight : length f.banks ≡ 8
  pub banks : (c : ℕ) → c < 8 → IsBank f.cells c (bank f c)
  pub zeros : (c : ℕ) → c < 8 → cell f c ≡ Some 0
  pub free : All (λ p. 8 ≤ p) f.free
  pub once : (p : ℕ) → uses p f ≡ (if nat_lt p (length f.cells) then 1 else 0)
  pub extra : length f.free + rename_count f + 256 ≡ length f.cells

-- ---- what each call does

-- the register p has a value, or none yet
abbrev pub with_cell : File → ℕ → Option ℕ → File
with_cell f p v = record { banks = f.banks; free = f.free; cells = slice_set f.cells p v }

abbrev pub renamed_bank : Bank → ℕ → ℕ → Bank
renamed_bank b rd p = record { committed = b.committed; renames = b.renames ++ record { rd = rd; register = p } ∷ [] }

-- p is the newest of the free
abbrev pub IsNewestFree : File → ℕ → Type 0
IsNewestFree f p = slice_get f.free (length f.free - 1) ≡ Some p

-- rd of the context c is renamed to p, the newest of the free, which has no value yet
abbrev pub renamed : File → ℕ → ℕ → ℕ → File
renamed f c rd p = record { banks = slice_set f.banks c (renamed_bank (bank f c) rd p); free = take (length f.free - 1) f.free; cells = slice_set f.cells p None }

abbrev pub no_rename : Rename
no_rename = record { rd = 0; register = 0 }

-- the oldest rename
abbrev pub first : Bank → Rename
first b = slice_index_or b.renames 0 no_rename

-- the newest rename
abbrev pub last : Bank → Rename
last b = slice_index_or b.renames (length b.renames - 1) no_rename

abbrev pub committed_bank : Bank → Bank
committed_bank b = record { committed = slice_set b.committed (first b).rd (first b).register; renames = drop 1 b.renames }

-- the oldest rename of the context c is the committed register, and the one that it replaces is free
abbrev pub committed_one : File → ℕ → File
committed_one f c = record { banks = slice_set f.banks c (committed_bank (bank f c)); free = f.free ++ slice_index (bank f c).committed (first (bank f c)).rd ∷ []; cells = f.cells }

abbrev pub undone_bank : Bank → Bank
undone_bank b = record { committed = b.committed; renames = take (length b.renames - 1) b.renames }

-- the newest rename of the context c is taken off, and its register is free
abbrev pub undone : File → ℕ → File
undone f c = record { banks = slice_set f.banks c (undone_bank (bank f c)); free = f.free ++ (last (bank f c)).register ∷ []; cells = f.cells }

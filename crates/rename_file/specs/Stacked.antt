-- The registers that the slots of a free list hold.
use Rattle.std.specs.Prelude.{ℕ, List, take, drop}
use Rattle.rename_file.specs.declared.free_list.FreeList.TheInside.{Inside}

-- the first slot has no item
abbrev pub stacked : Inside → List ℕ
stacked l = take l.count (drop 1 l.slots)

-- The parts of a document by their keys.
use Rattle.std.specs.Prelude.{ℕ, ◌+◌, List, unwrap_or}
use Rattle.std.specs.Option.{option_and_then}
use Rattle.toml.specs.Data.{Items, no_items, item, Members, no_members, get_item, get_member, as_array, as_table}

-- the table at a key, the empty one where there is none
abbrev pub table_at : List ℕ → Members → Members
table_at key ms = unwrap_or (option_and_then as_table (get_member key ms)) no_members

-- the array at a key, the empty one where there is none
abbrev pub array_at : List ℕ → Members → Items
array_at key ms = unwrap_or (option_and_then as_array (get_member key ms)) no_items

-- the table at an index, the empty one where there is none
abbrev pub table_of_item : Items → ℕ → Members
table_of_item ds i = unwrap_or (option_and_then as_table (get_item i ds)) no_members

-- how many items there are
abbrev pub count_of : Items → ℕ
count_of no_items = 0
count_of (item d ds) = count_of ds + 1

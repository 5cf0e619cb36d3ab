-- The table of data tags: 64 lines of 64 bytes for all contexts.
use Rattle.std.specs.Prelude.{ℕ, ◌/◌, ◌%◌, ◌==◌, ◌&&◌, not, Bool, false, List, Option, Some, None, slice_index_or, slice_set, replicate}
use Rattle.data_tags.specs.declared.delay.Kind.{Kind}
use Rattle.data_tags.specs.declared.delay.Kind.TheVariants.{Load}
use Rattle.data_tags.specs.declared.delay.Lag.{Lag}
use Rattle.data_tags.specs.declared.latencies.Latencies.{Latencies}
use Rattle.data_tags.specs.Latency.{lag_of}
use Rattle.data_tags.specs.declared.tags.Tag.{Tag}

-- latencies that stay, and 64 lines that each have the tag of the last load there
pub record Table : Type 0 where
  pub latencies : Latencies
  pub lines : List (Option Tag)

-- the number of an address's 64 bytes, and the line that they go to
abbrev pub block_of : ℕ → ℕ
block_of address = address / 64

abbrev pub line_of : ℕ → ℕ
line_of address = block_of address % 64

abbrev pub tag_of : ℕ → ℕ → Tag
tag_of context address = record { context = context; block = block_of address }

-- whether a line has the tag of a context and a block
abbrev pub has_tag : Option Tag → ℕ → ℕ → Bool
has_tag None context block = false
has_tag (Some tag) context block = (tag.context == context) && (tag.block == block)

-- whether an access is a load whose tag isn't there
abbrev pub is_miss : List (Option Tag) → ℕ → Kind → ℕ → Bool
is_miss lines context Load address = not (has_tag (slice_index_or lines (line_of address) None) context (block_of address))
is_miss lines context _ address = false

-- a load leaves its tag; nothing else changes a line
abbrev pub after_access : List (Option Tag) → ℕ → Kind → ℕ → List (Option Tag)
after_access lines context Load address = slice_set lines (line_of address) (Some (tag_of context address))
after_access lines context _ address = lines

-- ---- the table as a whole

-- as it is made: no line has a tag
abbrev pub new_table : Latencies → Table
new_table latencies = record { latencies = latencies; lines = replicate 64 None }

-- the lag of an access
abbrev pub lag_in : Table → ℕ → Kind → ℕ → Lag
lag_in t context kind address = lag_of t.latencies kind (is_miss t.lines context kind address)

-- the table after an access
abbrev pub after_access_in : Table → ℕ → Kind → ℕ → Table
after_access_in t context kind address = record t { lines = after_access t.lines context kind address }

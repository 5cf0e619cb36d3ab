-- The memory map of a program before its first step, in environment 1: text pages may be read and
-- executed, data pages may be read and written.
use Rattle.std.specs.Prelude.{ℕ, ◌+◌, ◌-◌, ◌*◌, ◌/◌, ◌%◌, true, false, Option, Some, None, if◌then◌else◌, List, length, slice_index}
use Rattle.std.specs.Int.{byte_at as byte_of_number}
use Rattle.paged_memory.specs.Cells.{Cell, Cells, within}
use Rattle.paged_memory.specs.Regions.{text_start, data_start}
use Rattle.paged_memory.specs.Table.{tabulated}

-- how many pages of 4096 bytes hold so many bytes
abbrev pub pages_for : ℕ → ℕ
pages_for n = (n + 4095) / 4096

-- byte j of the text: each word stands least byte first, and 0 follows the last
abbrev pub text_byte : List ℕ → ℕ → ℕ
text_byte words j = byte_of_number (j % 4) (slice_index words (j / 4))

-- byte j of the data: 0 follows the last
abbrev pub data_byte : List ℕ → ℕ → ℕ
data_byte bytes j = slice_index bytes j

-- the cell at an address: text may be executed, data may be written
abbrev pub start_cell : List ℕ → List ℕ → ℕ → Option Cell
start_cell words bytes a =
    if within text_start (4096 * pages_for (4 * length words)) a
    then Some (record { byte = text_byte words (a - text_start); writable = false; executable = true })
    else (if within data_start (4096 * pages_for (length bytes)) a
    then Some (record { byte = data_byte bytes (a - data_start); writable = true; executable = false })
    else None)

-- the map of all: at most 64 pages of text and 256 of data end below 0x200000
unfoldable pub start_cells : List ℕ → List ℕ → Cells
start_cells words bytes = tabulated (start_cell words bytes) 0x200000

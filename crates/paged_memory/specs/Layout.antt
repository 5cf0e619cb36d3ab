-- How a memory keeps its pages: text pages and then data pages, each part without a gap.
use Rattle.std.specs.Prelude.{◌≡◌, ℕ, zero, suc, ◌+◌, ◌-◌, ◌*◌, ◌/◌, ◌%◌, ◌<◌, ◌≤◌, ◌&&◌, nat_lt, nat_le, if◌then◌else◌, Option, Some, None, List, [], length, slice_index, slice_index_or, slice_set}
use Rattle.std.specs.Int.{byte_at as byte_of_number}
use Rattle.paged_memory.specs.Cells.{Cell, Cells}
use Rattle.paged_memory.specs.Table.{tabulated}
use Rattle.paged_memory.specs.Pages.{PageValue}
use Rattle.paged_memory.specs.Regions.{text_start, data_start}

-- ---- where each page is

-- a page of the list, empty beyond its end
abbrev pub page_in : List PageValue → ℕ → PageValue
page_in pages p = slice_index_or pages p (record { address = 0; bytes = [] })

-- its bytes
abbrev pub page_bytes : List PageValue → ℕ → List ℕ
page_bytes pages p = (page_in pages p).bytes

-- the numbers of the first text page and of the first data page: their addresses divided by 4096
abbrev pub first_text : ℕ
first_text = text_start / 4096

abbrev pub first_data : ℕ
first_data = data_start / 4096

-- the address of the page at a place, where so many are text
abbrev pub address_of : ℕ → ℕ → ℕ
address_of text p = if nat_lt p text then 4096 * (first_text + p) else 4096 * (first_data + (p - text))

-- the place of the page with a number, which is its address divided by 4096
abbrev pub place_of : ℕ → ℕ → ℕ → Option ℕ
place_of text total number =
    if nat_le first_text number && nat_lt number (first_text + text) then Some (number - first_text)
    else (if nat_le first_data number && nat_lt number (first_data + (total - text)) then Some (text + (number - first_data))
    else None)

-- ---- what every memory keeps

-- at most 64 pages are text, and at most 256 are data
pub record IsSized (text total : ℕ) : Type 0 where
  pub few_text : text ≤ 64
  pub text_first : text ≤ total
  pub few_data : total ≤ text + 256

-- every page has its address, and 4096 bytes of 8 bits
pub record IsLaidOut (text : ℕ) (pages : List PageValue) : Type 0 where
  pub addresses : (p : ℕ) → p < length pages → (page_in pages p).address ≡ address_of text p
  pub full : (p : ℕ) → p < length pages → length (page_bytes pages p) ≡ 4096
  pub bytes : (p : ℕ) → p < length pages → (j : ℕ) → slice_index (page_bytes pages p) j < 256

-- and both together
pub record IsSound (text : ℕ) (pages : List PageValue) : Type 0 where
  pub sized : IsSized text (length pages)
  pub laid_out : IsLaidOut text pages

-- ---- the memory map that the pages show

-- the cell at an offset in the page at a place
abbrev pub cell_in : ℕ → List PageValue → ℕ → Option ℕ → Option Cell
cell_in text pages offset None = None
cell_in text pages offset (Some p) =
    Some (record { byte = slice_index (page_bytes pages p) offset; writable = nat_le text p; executable = nat_lt p text })

-- the cell at an address
unfoldable pub cell_at : ℕ → List PageValue → ℕ → Option Cell
cell_at text pages a = cell_in text pages (a % 4096) (place_of text (length pages) (a / 4096))

-- the map of all; no page lies at 0x200000 or above
unfoldable pub cells_of : ℕ → List PageValue → Cells
cells_of text pages = tabulated (cell_at text pages) 0x200000

-- ---- one page

-- page p of contents that begin at an address
pub record IsPageOf (start : ℕ) (content : ℕ → ℕ) (p : ℕ) (page : PageValue) : Type 0 where
  pub address : page.address ≡ start + 4096 * p
  pub full : length page.bytes ≡ 4096
  pub bytes : (j : ℕ) → j < 4096 → slice_index page.bytes j ≡ content (4096 * p + j)

-- the k lowest bytes of a number, least first, put into bytes at an offset
abbrev pub put_number : List ℕ → ℕ → ℕ → ℕ → List ℕ
put_number bytes offset zero v = bytes
put_number bytes offset (suc k) v = slice_set (put_number bytes offset k v) (offset + k) (byte_of_number k v)

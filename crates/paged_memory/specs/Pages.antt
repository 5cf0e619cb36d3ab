-- The pages of a memory map.
use Rattle.std.specs.Prelude.{ℕ, zero, suc, ◌+◌, ◌%◌, ◌==◌, List, [], ◌∷◌, map}
use Rattle.std.specs.FinMap.{keys, retain_keys}
use Rattle.paged_memory.specs.Cells.{Cells, byte_at}

-- a page: its address and its 4096 bytes
pub record PageValue : Type 0 where
  pub address : ℕ
  pub bytes : List ℕ

-- so many bytes from an address upward
unfoldable pub bytes_from : (ℕ → ℕ) → ℕ → ℕ → List ℕ
bytes_from bytes a zero = []
bytes_from bytes a (suc k) = bytes a ∷ bytes_from bytes (a + 1) k

-- the page that begins at an address
unfoldable pub page_at : Cells → ℕ → PageValue
page_at m a = record { address = a; bytes = bytes_from (byte_at m) a 4096 }

-- the addresses of the mapped pages, in order: a page is mapped where its first byte is
unfoldable pub page_addresses : Cells → List ℕ
page_addresses m = keys (retain_keys m (λ a. a % 4096 == 0))

-- the mapped pages, in order of address
unfoldable pub pages_of : Cells → List PageValue
pages_of m = map (page_at m) (page_addresses m)

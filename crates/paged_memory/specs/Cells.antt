-- The memory map: a finite map from addresses to a byte and its rights, and what a fetch, a load
-- and a store do with it. The source is the RISC-V Unprivileged ISA 20191213: 1.4 (memory is one
-- space of bytes), 1.5 (instructions stand least byte first), 2.6 and 5.3 (load and store).
use Rattle.std.specs.Prelude.{◌≡◌, ℕ, zero, suc, ◌+◌, ◌*◌, ◌%◌, ◌^◌, ◌<◌, ◌≤◌, Bool, true, false, ◌&&◌, ◌==◌, nat_lt, nat_le, if◌then◌else◌, Option, Some, None, Result, Ok, Err, refl}
use Rattle.std.specs.Ordering.{nat_cmp}
use Rattle.std.specs.FinMap.{FinMap, get, insert}
use Rattle.std.specs.Int.{byte_at as byte_of_number}
use Rattle.std.specs.Coded.{Coded, code_by, coded×, coded_ℕ, coded_bool}
use Rattle.paged_memory.specs.declared.Width.{Width}
use Rattle.paged_memory.specs.declared.Width.TheVariants.{Byte, Half, Word, Double}
use Rattle.paged_memory.specs.declared.Fault.{Fault}
use Rattle.paged_memory.specs.declared.Fault.TheVariants.{FetchAccess, LoadMisaligned, LoadAccess, StoreMisaligned, StoreAccess}

-- ---- the map

-- what stands at a mapped address
pub record Cell : Type 0 where
  pub byte : ℕ
  pub writable : Bool
  pub executable : Bool

-- a cell is stored as the triple of its fields
abbrev pub coded_cell : Coded Cell
coded_cell =
    code_by (ℕ × (Bool × Bool)) (coded× coded_ℕ (coded× coded_bool coded_bool)) (λ c. (c.byte, (c.writable, c.executable))) (λ p. record { byte = p.0; writable = p.1.0; executable = p.1.1 }) (λ _. refl)

-- which cell stands at each mapped address
abbrev pub Cells : Type 0
Cells = FinMap nat_cmp Cell

-- ---- bytes

-- the byte of a cell, 0 where there is none
abbrev pub byte_of : Option Cell → ℕ
byte_of None = 0
byte_of (Some c) = c.byte

-- the byte at an address, 0 where none is mapped
abbrev pub byte_at : Cells → ℕ → ℕ
byte_at m x = byte_of (get m x)

-- a byte has 8 bits, and an address 64: 1.4 and 5.1
pub record IsByteMap (m : Cells) : Type 0 where
  pub below : (x : ℕ) → byte_at m x < 256
  pub addressed : (x : ℕ) → 2 ^ 64 ≤ x → byte_at m x ≡ 0

-- the number that so many bytes from an address upward spell, least first
unfoldable pub number_at : (ℕ → ℕ) → ℕ → ℕ → ℕ
number_at bytes a zero = 0
number_at bytes a (suc k) = bytes a + 256 * number_at bytes (a + 1) k

-- ---- rights

-- what may be done at an address
pub record Rights : Type 0 where
  pub readable : Bool
  pub writable : Bool
  pub executable : Bool

-- the rights of a cell: a mapped byte is readable
abbrev pub rights_of : Option Cell → Rights
rights_of None = record { readable = false; writable = false; executable = false }
rights_of (Some c) = record { readable = true; writable = c.writable; executable = c.executable }

-- the rights at an address
abbrev pub rights_at : Cells → ℕ → Rights
rights_at m x = rights_of (get m x)

-- each right by itself
abbrev pub is_readable : Rights → Bool
is_readable r = r.readable

abbrev pub is_writable : Rights → Bool
is_writable r = r.writable

abbrev pub is_executable : Rights → Bool
is_executable r = r.executable

-- so many addresses from one upward all have a right
unfoldable pub all_have : (Rights → Bool) → (ℕ → Rights) → ℕ → ℕ → Bool
all_have right rights a zero = true
all_have right rights a (suc k) = right (rights a) && all_have right rights (a + 1) k

-- ---- writes

-- an address is one of so many from another upward
abbrev pub within : ℕ → ℕ → ℕ → Bool
within a k x = nat_le a x && nat_lt x (a + k)

-- a byte put where this cell stood, with the cell's rights; nothing becomes mapped
abbrev pub put_byte : Cells → ℕ → ℕ → Option Cell → Cells
put_byte m a b None = m
put_byte m a b (Some c) = insert m a (record c { byte = b })

-- the lowest bytes of a number, least first, put from an address upward
unfoldable pub write : Cells → ℕ → ℕ → ℕ → Cells
write m a zero v = m
write m a (suc k) v = put_byte (write m a k v) (a + k) (byte_of_number k v) (get m (a + k))

-- ---- accesses

-- how many bytes an access moves
abbrev pub bytes_of : Width → ℕ
bytes_of Byte = 1
bytes_of Half = 2
bytes_of Word = 4
bytes_of Double = 8

-- the instruction word at an aligned address, all of whose bytes may be executed
abbrev pub fetch_of : Cells → ℕ → Result ℕ Fault
fetch_of m a =
    if all_have is_executable (rights_at m) a 4 then Ok (number_at (byte_at m) a 4)
    else Err FetchAccess

-- the number of k bytes at an address; misalignment comes before access
abbrev pub load_of : Cells → ℕ → ℕ → Result ℕ Fault
load_of m a k =
    if a % k == 0 then (
    if all_have is_readable (rights_at m) a k then Ok (number_at (byte_at m) a k)
    else Err LoadAccess)
    else Err LoadMisaligned

-- the map once the k lowest bytes of a number stand at an address; misalignment comes before access
abbrev pub store_of : Cells → ℕ → ℕ → ℕ → Result Cells Fault
store_of m a k v =
    if a % k == 0 then (
    if all_have is_writable (rights_at m) a k then Ok (write m a k v)
    else Err StoreAccess)
    else Err StoreMisaligned

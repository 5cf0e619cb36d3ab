-- What a store leaves, said without the loop that writes.
use Rattle.std.specs.Prelude.{◌≡◌, ℕ, ◌-◌, ◌%◌, ◌^◌, if◌then◌else◌, Ok}
use Rattle.std.specs.Int.{byte_at as byte_of_number}
use Rattle.paged_memory.specs.Cells.{Cells, byte_at, rights_at, within, fetch_of, load_of}
use Rattle.paged_memory.specs.Pages.{page_addresses}

-- the k lowest bytes of a number stand at an address; every other byte, all rights and which pages there are stay
pub record IsStored (old new : Cells) (a k v : ℕ) : Type 0 where
  pub bytes : (x : ℕ) → byte_at new x ≡ (if within a k x then byte_of_number (x - a) v else byte_at old x)
  pub rights : (x : ℕ) → rights_at new x ≡ rights_at old x
  pub pages : page_addresses new ≡ page_addresses old
  pub loaded : load_of new a k ≡ Ok (v % 256 ^ k)

-- the same is fetched from both: no store changes text, so what was decoded once stays right
abbrev pub IsFetchedAlike : Cells → Cells → Type 0
IsFetchedAlike old new = (x : ℕ) → x % 4 ≡ 0 → fetch_of new x ≡ fetch_of old x

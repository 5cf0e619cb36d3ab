-- Pages' lines in front of a rest.
use Rattle.std.specs.Prelude.{◌≡◌, ℕ, ◌+◌, ◌<◌, List, ◌++◌, codes, length}
use Rattle.checkpoint_file.specs.Contexts.{AreInOrder, page_lines}
use Rattle.paged_memory.specs.Pages.{PageValue}

-- pages from an address on, in order of address, and then the rest
pub record HasPages (least : ℕ) (bytes rest : List ℕ) : Type 0 where
  pub pages : List PageValue
  pub in_order : AreInOrder least pages
  pub parts : bytes ≡ page_lines pages ++ rest

-- no page's line begins here
abbrev pub IsNoPage : List ℕ → Type 0
IsNoPage bytes = (rest : List ℕ) → bytes ≡ codes "page " ++ rest → ⊥

-- over a page: the same rests follow the pages from there on
pub record IsOver (least : ℕ) (bytes : List ℕ) (address : ℕ) (next : List ℕ) : Type 0 where
  pub back : (rest : List ℕ) → HasPages (address + 1) next rest → HasPages least bytes rest
  pub on : (rest : List ℕ) → IsNoPage rest → HasPages least bytes rest → HasPages (address + 1) next rest
  pub shorter : length next < length bytes

-- What stands of a context in a checkpoint text.
use Rattle.std.specs.Prelude.{◌≡◌, ℕ, ◌+◌, ◌-◌, ◌^◌, ◌<◌, ◌≤◌, List, [], ◌∷◌, ◌++◌, length, codes, ⊤}
use Rattle.checkpoint_file.specs.Lines.{AreBytes, context_line, count_line, page_line, register_line, word_line}
use Rattle.paged_memory.specs.Pages.{PageValue}

-- the lines of registers from a number on
abbrev pub register_lines : ℕ → List ℕ → List ℕ
register_lines number [] = []
register_lines number (value ∷ values) = register_line number value ++ register_lines (number + 1) values

-- the lines of pages
abbrev pub page_lines : List PageValue → List ℕ
page_lines [] = []
page_lines (page ∷ pages) = page_line page ++ page_lines pages

-- a context: its count, its pc, its registers from x1 to x31, and its data pages
pub record ContextValue : Type 0 where
  pub count : ℕ
  pub pc : ℕ
  pub registers : List ℕ
  pub pages : List PageValue

-- its lines
abbrev pub context_text : ℕ → ContextValue → List ℕ
context_text number context =
    context_line number ++ (count_line context.count ++ (word_line (codes "pc ") context.pc
    ++ (register_lines 1 context.registers ++ page_lines context.pages)))

-- a page whose address is at least this
pub record FitsPage (least : ℕ) (page : PageValue) : Type 0 where
  pub from_least : least ≤ page.address
  pub address : page.address < 2 ^ 64
  pub bytes : AreBytes 4096 page.bytes

-- pages whose addresses rise from this on
abbrev pub AreInOrder : ℕ → List PageValue → Type 0
AreInOrder least [] = ⊤
AreInOrder least (page ∷ pages) = FitsPage least page × AreInOrder (page.address + 1) pages

-- numbers of 64 bits
abbrev pub AreWords : List ℕ → Type 0
AreWords [] = ⊤
AreWords (value ∷ values) = (value < 2 ^ 64) × AreWords values

-- the registers from a number up to x31
pub record AreRegisters (number : ℕ) (values : List ℕ) : Type 0 where
  pub count : length values ≡ 32 - number
  pub words : AreWords values

-- a context that the text can have: a count of at most 2^60, numbers of 64 bits, and pages in order of address
pub record FitsContext (context : ContextValue) : Type 0 where
  pub count : context.count ≤ 2 ^ 60
  pub pc : context.pc < 2 ^ 64
  pub registers : AreRegisters 1 context.registers
  pub pages : AreInOrder 0 context.pages

-- Lines of registers and pages, one after the other.
use Rattle.std.proofs.Common.{◌≡◌, ℕ, zero, suc, ◌+◌, ◌<◌, ◌≤◌, List, [], ◌∷◌, ◌++◌, length, drop, get_or, refl, ap, sym, ◌∙◌, arith, Bool, true, false, Option, Some}
use Rattle.std.proofs.lemmas.List.{append-nil}
use Rattle.std.proofs.Math.Seq.{drop-cons}
use Rattle.std.proofs.Common.{add-one}
use Rattle.checkpoint.specs.MarkValue.{MarkValue, state_of}
use Rattle.checkpoint_file.specs.Contexts.{context_text, page_lines, register_lines}
use Rattle.checkpoint_file.specs.Lines.{page_line, register_line}
use Rattle.checkpoint_file.specs.Texts.{context_of, data_pages, mark_text}
use Rattle.hart_step.specs.State.{State}
use Rattle.paged_memory.specs.Pages.{PageValue, pages_of}
use Rattle.paged_memory.specs.Regions.{data_start}
use Rattle.std.specs.Prelude.{nat_le, if◌then◌else◌}
use Rattle.std.specs.Option.{option_map_or}

-- the next register
pub register_step : (registers : List ℕ) (number : ℕ) → number < length registers
    → register_lines number (drop number registers) ≡ register_line number (get_or registers number 0) ++ register_lines (number + 1) (drop (number + 1) registers)
register_step registers number below =
    let next : drop number registers ≡ get_or registers number 0 ∷ drop (number + 1) registers = rw (add-one, drop-cons registers number 0) refl in
    ap (register_lines number) next

drop_past : {X : Type 0} (n : ℕ) (xs : List X) → length xs ≤ n → drop n xs ≡ []
drop_past zero [] short = refl
drop_past zero (x ∷ xs) short = absurd (omega (arith, short))
drop_past (suc n) [] short = refl
drop_past (suc n) (x ∷ xs) short = drop_past n xs (omega (arith, short))

-- after the last there is none
pub registers_end : (registers : List ℕ) (number : ℕ) → length registers ≤ number → register_lines number (drop number registers) ≡ []
registers_end registers number past = ap (register_lines number) (drop_past number registers past)

one_of : (b : Bool) (page : PageValue) (pages : List PageValue)
    → page_lines (if b then page ∷ pages else pages) ≡ page_lines (if b then page ∷ [] else []) ++ page_lines pages
one_of true page pages = ap (λ (t : List ℕ). t ++ page_lines pages) (sym (append-nil (page_line page)))
one_of false page pages = refl

-- the next page, which may be a data page
pub page_step : (page : PageValue) (from pages : List PageValue) → from ≡ page ∷ pages
    → page_lines (data_pages from) ≡ page_lines (data_pages (page ∷ [])) ++ page_lines (data_pages pages)
page_step page from pages e = ap (λ (t : List PageValue). page_lines (data_pages t)) e ∙ one_of (nat_le data_start page.address) page (data_pages pages)

-- a data page alone, and another page alone
pub page_alone : (page : PageValue) → nat_le data_start page.address ≡ true → page_line page ≡ page_lines (data_pages (page ∷ []))
page_alone page there = rw there (sym (append-nil (page_line page)))

pub page_none : (page : PageValue) → nat_le data_start page.address ≡ false → [] ≡ page_lines (data_pages (page ∷ []))
page_none page none = rw none refl

pub pages_end : (pages : List PageValue) (number : ℕ) → length pages ≤ number → page_lines (data_pages (drop number pages)) ≡ []
pages_end pages number past = ap (λ (t : List PageValue). page_lines (data_pages t)) (drop_past number pages past)

-- the lines of a state in the words of a context
pub context_text_at : (number count pc : ℕ) (registers : List ℕ) (pages : List PageValue) (s : State) → pc ≡ s.pc → registers ≡ s.registers → pages ≡ pages_of s.memory
    → context_text number (record { count = count; pc = pc; registers = drop 1 registers; pages = data_pages pages }) ≡ context_text number (context_of count s)
context_text_at number count pc registers pages s e f h = rw (e, f, h) refl

-- the lines of a mark in its state
pub mark_text_at : (mark : MarkValue) (s : State) (number count : ℕ) → state_of mark ≡ Some s → number ≡ mark.context → count ≡ mark.count
    → mark_text mark ≡ context_text number (context_of count s)
mark_text_at mark s number count e f h =
    ap (λ (o : Option State). option_map_or (λ t. context_text mark.context (context_of mark.count t)) o []) e ∙ rw (f, h) refl

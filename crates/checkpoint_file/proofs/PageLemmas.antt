-- A step over a page.
use Rattle.std.proofs.Common.{◌≡◌, ℕ, ◌+◌, ◌<◌, List, [], ◌∷◌, ◌++◌, length, refl, sym, ap, ◌∙◌, append_assoc, arith}
use Rattle.std.specs.Prelude.{codes}
use Rattle.std.proofs.lemmas.List.{length-append}
use Rattle.checkpoint_file.specs.Lines.{page_line, word_text}
use Rattle.hex.specs.Hex.{encode_lower}
use Rattle.checkpoint_file.specs.Contexts.{AreInOrder, FitsPage, page_lines}
use Rattle.checkpoint_file.specs.PageLines.{HasPages, IsNoPage}
use Rattle.paged_memory.specs.Pages.{PageValue}

-- one more page before the others
pub one_more : (least : ℕ) (page : PageValue) (bytes next rest : List ℕ) → FitsPage least page → bytes ≡ page_line page ++ next
    → HasPages (page.address + 1) next rest → HasPages least bytes rest
one_more least page bytes next rest fits e h = record {
  pages = page ∷ h.pages;
  in_order = (fits, h.in_order);
  parts = e ∙ ap (λ (t : List ℕ). page_line page ++ t) h.parts ∙ sym (append_assoc (page_line page) (page_lines h.pages) rest);
}

-- what the pages at a page's beginning are
pub record BeginsWith (least : ℕ) (bytes rest : List ℕ) : Type 0 where
  pub page : PageValue
  pub fits : FitsPage least page
  pub next : List ℕ
  pub parts : bytes ≡ page_line page ++ next
  pub others : HasPages (page.address + 1) next rest

first_of : (least : ℕ) (bytes rest front : List ℕ) (pages : List PageValue) → bytes ≡ codes "page " ++ front → IsNoPage rest
    → AreInOrder least pages → bytes ≡ page_lines pages ++ rest → BeginsWith least bytes rest
first_of least bytes rest front [] b stop fits e = absurd (stop front (sym e ∙ b))
first_of least bytes rest front (page ∷ pages) b stop fits e = record {
  page = page;
  fits = fits.0;
  next = page_lines pages ++ rest;
  parts = e ∙ append_assoc (page_line page) (page_lines pages) rest;
  others = record { pages = pages; in_order = fits.1; parts = refl };
}

pub first_page : (least : ℕ) (bytes rest front : List ℕ) → bytes ≡ codes "page " ++ front → IsNoPage rest → HasPages least bytes rest → BeginsWith least bytes rest
first_page least bytes rest front b stop h = first_of least bytes rest front h.pages b stop h.in_order h.parts

-- no pages before a rest that is no page
none_of : (least : ℕ) (bytes rest : List ℕ) (pages : List PageValue) → IsNoPage bytes → bytes ≡ page_lines pages ++ rest → bytes ≡ rest
none_of least bytes rest [] stop e = e
none_of least bytes rest (page ∷ pages) stop e = absurd (stop _ (e ∙ append_assoc (page_line page) (page_lines pages) rest))

pub no_pages : (least : ℕ) (bytes rest : List ℕ) → IsNoPage bytes → HasPages least bytes rest → bytes ≡ rest
no_pages least bytes rest stop h = none_of least bytes rest h.pages stop h.parts

pub carried : (a b : ℕ) (m n rest : List ℕ) → a ≡ b → m ≡ n → HasPages (b + 1) n rest → HasPages (a + 1) m rest
carried a b m n rest e f h = rw (e, f) h

pub is_shorter : (page : PageValue) (bytes next : List ℕ) → bytes ≡ page_line page ++ next → length next < length bytes
is_shorter page bytes next e = omega (arith, ap length e, length-append (codes "page ") (word_text page.address ++ (32 ∷ (encode_lower page.bytes ++ (10 ∷ [])))), length-append (page_line page) next)

-- so far: the same rests follow the pages from here on as from the start
pub record Goes (bytes : List ℕ) (least : ℕ) (here : List ℕ) : Type 0 where
  pub back : (rest : List ℕ) → HasPages least here rest → HasPages 0 bytes rest
  pub on : (rest : List ℕ) → IsNoPage rest → HasPages 0 bytes rest → HasPages least here rest

-- The pages of a program show its start.
use Rattle.std.proofs.Common.{◌≡◌, ℕ, ◌+◌, ◌-◌, ◌*◌, ◌/◌, ◌%◌, ◌<◌, ◌≤◌, Bool, true, false, nat_lt, nat_le, Option, Some, None, List, length, cond, ltb, arith, ap, sym, ◌∙◌, refl, subst, inl, inr}
use Rattle.std.specs.Prelude.{slice_index}
use Rattle.std.proofs.Math.ListN.{get_or-eq_default}
use Rattle.std.proofs.lemmas.Bool.{cases_lt}
use Rattle.std.proofs.lemmas.Bool.Decides.{nat_tests}
use Rattle.std.specs.Cmp.{nat_cmp_total}
use Rattle.std.specs.FinMap.{same_map, nat_cmp-IsAntisymmetric}
use Rattle.paged_memory.specs.Regions.{text_start, data_start, most_words, most_bytes}
use Rattle.paged_memory.specs.Cells.{Cell}
use Rattle.paged_memory.specs.Pages.{PageValue}
use Rattle.paged_memory.specs.Layout.{first_text, first_data, place_of, page_in, page_bytes, address_of, cell_in, cell_at, cells_of, IsPageOf, IsSized, IsSound}
use Rattle.paged_memory.specs.Start.{pages_for, text_byte, data_byte, start_cell, start_cells}
use Rattle.paged_memory.proofs.Stored.{small_byte}
use Rattle.paged_memory.proofs.Tabulated.{get-tabulated}
use Rattle.paged_memory.proofs.OnePage.{get-cells_of}

-- the pages are those of a program: t of text, and then those of data
pub record Starts (words content : List ℕ) (t : ℕ) (ps : List PageValue) : Type 0 where
  pub few_words : length words ≤ most_words
  pub few_bytes : length content ≤ most_bytes
  pub text : t ≡ pages_for (4 * length words)
  pub content_bytes : (j : ℕ) → slice_index content j < 256
  pub total : length ps ≡ t + pages_for (length content)
  pub text_pages : (p : ℕ) → p < t → IsPageOf text_start (text_byte words) p (page_in ps p)
  pub data_pages : (p : ℕ) → t ≤ p → p < length ps → IsPageOf data_start (data_byte content) (p - t) (page_in ps p)

-- the same, by its parts
pub starts : (words content : List ℕ) (t : ℕ) (ps : List PageValue) → length words ≤ most_words → length content ≤ most_bytes → t ≡ pages_for (4 * length words) → ((j : ℕ) → slice_index content j < 256) → length ps ≡ t + pages_for (length content) → ((p : ℕ) → p < t → IsPageOf text_start (text_byte words) p (page_in ps p)) → ((p : ℕ) → t ≤ p → p < length ps → IsPageOf data_start (data_byte content) (p - t) (page_in ps p)) → Starts words content t ps
starts words content t ps few_words few_bytes text small total text_pages data_pages = record {
  few_words = few_words;
  few_bytes = few_bytes;
  text = text;
  content_bytes = small;
  total = total;
  text_pages = text_pages;
  data_pages = data_pages;
}

sized : (words content : List ℕ) (t : ℕ) (ps : List PageValue) → Starts words content t ps → IsSized t (length ps)
sized words content t ps s = record { few_text = omega arith; text_first = omega arith; few_data = omega arith }

text_address : (t p : ℕ) → p < t → text_start + 4096 * p ≡ address_of t p
text_address t p h = grind (arith, nat_tests)

data_address : (t p : ℕ) → t ≤ p → data_start + 4096 * (p - t) ≡ address_of t p
data_address t p h = grind (arith, nat_tests)

small_page : (start p : ℕ) (content : ℕ → ℕ) (page : PageValue) → IsPageOf start content p page → ((j : ℕ) → content j < 256) → (j : ℕ) → slice_index page.bytes j < 256
small_page start p content page is small j =
    elim (cases_lt j 4096) [
      | inl within ↦ subst (λ (n : ℕ). n < 256) (sym (is.bytes j within)) (small (4096 * p + j))
      | inr beyond ↦ let none : slice_index page.bytes j ≡ 0 = get_or-eq_default page.bytes 0 (omega (arith, is.full, beyond)) in omega (arith, none)
    ]

pub started_sound : (words content : List ℕ) (t : ℕ) (ps : List PageValue) → Starts words content t ps → IsSound t ps
started_sound words content t ps s = record {
  sized = sized words content t ps s;
  laid_out = record { addresses = address; full = full; bytes = bytes };
}
  where
    address : (p : ℕ) → p < length ps → (page_in ps p).address ≡ address_of t p
    address p h =
        elim (cases_lt p t) [
          | inl text ↦ (s.text_pages p text).address ∙ text_address t p text
          | inr beyond ↦ (s.data_pages p beyond h).address ∙ data_address t p beyond
        ]

    full : (p : ℕ) → p < length ps → length (page_bytes ps p) ≡ 4096
    full p h =
        elim (cases_lt p t) [
          | inl text ↦ (s.text_pages p text).full
          | inr beyond ↦ (s.data_pages p beyond h).full
        ]

    bytes : (p : ℕ) → p < length ps → (j : ℕ) → slice_index (page_bytes ps p) j < 256
    bytes p h j =
        elim (cases_lt p t) [
          | inl text ↦ small_page text_start p (text_byte words) (page_in ps p) (s.text_pages p text) (λ i. small_byte (i % 4) (slice_index words (i / 4))) j
          | inr beyond ↦ small_page data_start (p - t) (data_byte content) (page_in ps p) (s.data_pages p beyond h) s.content_bytes j
        ]

-- ---- the cell at an address, by its region

same_cell : (b c : ℕ) (w v e f : Bool) → b ≡ c → w ≡ v → e ≡ f → ◌≡◌ {A = Option Cell} (Some (record { byte = b; writable = w; executable = e })) (Some (record { byte = c; writable = v; executable = f }))
same_cell b c w v e f h k l = cc

in_text : (words content : List ℕ) (t : ℕ) (ps : List PageValue) (q : ℕ) → Starts words content t ps → text_start ≤ q → q < text_start + 4096 * t → cell_at t ps q ≡ cond (ltb q 0x200000) (start_cell words content q) None
unfolding cell_at
in_text words content t ps q s lo hi =
    let place : place_of t (length ps) (q / 4096) ≡ Some (q / 4096 - first_text) = grind (arith, nat_tests) in
    let start : start_cell words content q ≡ Some (record { byte = text_byte words (q - text_start); writable = false; executable = true }) = grind (arith, nat_tests) in
    let under : ltb q 0x200000 ≡ true = grind (arith, nat_tests) in
    let offset : 4096 * (q / 4096 - first_text) + q % 4096 ≡ q - text_start = omega arith in
    let writable : nat_le t (q / 4096 - first_text) ≡ false = grind (arith, nat_tests) in
    let executable : nat_lt (q / 4096 - first_text) t ≡ true = grind (arith, nat_tests) in
    let page = s.text_pages (q / 4096 - first_text) (omega arith) in
    ap (cell_in t ps (q % 4096)) place
    ∙ same_cell _ _ _ _ _ _ (page.bytes (q % 4096) (omega arith) ∙ ap (text_byte words) offset) writable executable
    ∙ sym start ∙ ap (λ v. cond v (start_cell words content q) None) (sym under)

in_data : (words content : List ℕ) (t : ℕ) (ps : List PageValue) (q : ℕ) → Starts words content t ps → data_start ≤ q → q < data_start + 4096 * pages_for (length content) → cell_at t ps q ≡ cond (ltb q 0x200000) (start_cell words content q) None
unfolding cell_at
in_data words content t ps q s lo hi =
    let place : place_of t (length ps) (q / 4096) ≡ Some (t + (q / 4096 - first_data)) = grind (arith, nat_tests) in
    let start : start_cell words content q ≡ Some (record { byte = data_byte content (q - data_start); writable = true; executable = false }) = grind (arith, nat_tests) in
    let under : ltb q 0x200000 ≡ true = grind (arith, nat_tests) in
    let offset : 4096 * (t + (q / 4096 - first_data) - t) + q % 4096 ≡ q - data_start = omega arith in
    let writable : nat_le t (t + (q / 4096 - first_data)) ≡ true = grind (arith, nat_tests) in
    let executable : nat_lt (t + (q / 4096 - first_data)) t ≡ false = grind (arith, nat_tests) in
    let page = s.data_pages (t + (q / 4096 - first_data)) (omega arith) (omega arith) in
    ap (cell_in t ps (q % 4096)) place
    ∙ same_cell _ _ _ _ _ _ (page.bytes (q % 4096) (omega arith) ∙ ap (data_byte content) offset) writable executable
    ∙ sym start ∙ ap (λ v. cond v (start_cell words content q) None) (sym under)

outside : (words content : List ℕ) (t : ℕ) (ps : List PageValue) (q : ℕ) → Starts words content t ps → ((text_start ≤ q) → (text_start + 4096 * t ≤ q)) → ((data_start ≤ q) → (data_start + 4096 * pages_for (length content) ≤ q)) → cell_at t ps q ≡ cond (ltb q 0x200000) (start_cell words content q) None
unfolding cell_at
outside words content t ps q s no_text no_data =
    let place : place_of t (length ps) (q / 4096) ≡ None = grind (arith, nat_tests) in
    let start : start_cell words content q ≡ None = grind (arith, nat_tests) in
    let either : (v : Bool) → None ≡ cond v (start_cell words content q) None = λ v. elim v as (λ v. None ≡ cond v (start_cell words content q) None) [ true ↦ sym start | false ↦ refl ] in
    ap (cell_in t ps (q % 4096)) place ∙ either (ltb q 0x200000)

everywhere : (words content : List ℕ) (t : ℕ) (ps : List PageValue) (q : ℕ) → Starts words content t ps → cell_at t ps q ≡ cond (ltb q 0x200000) (start_cell words content q) None
everywhere words content t ps q s =
    elim (cases_lt q text_start) [
      | inl low ↦ outside words content t ps q s (λ h. omega arith) (λ h. omega arith)
      | inr lo ↦
          elim (cases_lt q (text_start + 4096 * t)) [
            | inl hi ↦ in_text words content t ps q s lo hi
            | inr past ↦
                elim (cases_lt q data_start) [
                  | inl under ↦ outside words content t ps q s (λ h. past) (λ h. omega arith)
                  | inr at ↦
                      elim (cases_lt q (data_start + 4096 * pages_for (length content))) [
                        | inl within ↦ in_data words content t ps q s at within
                        | inr beyond ↦ outside words content t ps q s (λ h. past) (λ h. beyond)
                      ]
                ]
          ]
    ]

pub started : (words content : List ℕ) (t : ℕ) (ps : List PageValue) → Starts words content t ps → cells_of t ps ≡ start_cells words content
unfolding start_cells
started words content t ps s =
    same_map nat_cmp_total nat_cmp-IsAntisymmetric _ _ (λ q.
    get-cells_of t ps q (sized words content t ps s)
    ∙ everywhere words content t ps q s
    ∙ sym (get-tabulated (start_cell words content) 0x200000 q))

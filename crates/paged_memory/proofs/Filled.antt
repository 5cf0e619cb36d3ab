-- A page that is filled from its beginning.
use Rattle.std.proofs.Common.{◌≡◌, ℕ, zero, suc, ◌+◌, ◌-◌, ◌*◌, ◌/◌, ◌%◌, ◌^◌, ◌<◌, ◌≤◌, List, length, get_or, cond, replicate, arith, ap, sym, ◌∙◌, refl, inl, inr}
use Rattle.std.specs.Prelude.{slice_index}
use Rattle.std.proofs.lemmas.Bool.Decides.{nat_tests}
use Rattle.std.proofs.lemmas.Bool.{cases_lt}
use Rattle.std.proofs.lemmas.List.{get_or-replicate, length-replicate}
use Rattle.std.proofs.Math.ListN.{get_or-eq_default}
use Rattle.std.proofs.Math.Nat.{zero-div}
use Rattle.std.specs.Int.{byte_at as byte_of_number}
use Rattle.paged_memory.specs.Cells.{within}
use Rattle.paged_memory.specs.Start.{text_byte, data_byte}
use Rattle.paged_memory.specs.Pages.{PageValue}
use Rattle.paged_memory.specs.Layout.{put_number, IsPageOf}
use Rattle.paged_memory.proofs.Stored.{get-put_number, length-put_number}

-- page p of some contents has its first n bytes, and 0 after them
pub record IsFilled (start : ℕ) (content : ℕ → ℕ) (p n : ℕ) (page : PageValue) : Type 0 where
  pub address : page.address ≡ start + 4096 * p
  pub full : length page.bytes ≡ 4096
  pub so_far : (j : ℕ) → j < n → slice_index page.bytes j ≡ content (4096 * p + j)
  pub blank : (j : ℕ) → n ≤ j → slice_index page.bytes j ≡ 0

zeros : (n j : ℕ) → ◌≡◌ {A = ℕ} (get_or (replicate n 0) j 0) 0
zeros n j =
    elim (cases_lt j n) [
      | inl inside ↦ get_or-replicate n j 0 0 inside
      | inr past ↦ get_or-eq_default (replicate n 0) 0 (let long : length (replicate {A = ℕ} n 0) ≡ n = length-replicate n 0 in omega (arith, past, long))
    ]

pub filled_blank : (start : ℕ) (content : ℕ → ℕ) (p n : ℕ) (page : PageValue) → page.address ≡ start + 4096 * p → page.bytes ≡ replicate n 0 → n ≡ 4096 → IsFilled start content p 0 page
filled_blank start content p n page a b m = record {
  address = a;
  full = ap length b ∙ (let long : length (replicate {A = ℕ} n 0) ≡ n = length-replicate n 0 in long) ∙ m;
  so_far = λ j h. absurd (omega (arith, h));
  blank = λ j h. ap (λ (bs : List ℕ). get_or bs j 0) b ∙ zeros n j;
}

-- n bytes more
pub filled_more : (start : ℕ) (content : ℕ → ℕ) (p n k m : ℕ) (page new : PageValue) (v : ℕ) → IsFilled start content p n page → m ≡ n + k → n + k ≤ 4096 → ((i : ℕ) → i < k → byte_of_number i v ≡ content (4096 * p + (n + i))) → new ≡ record page { bytes = put_number page.bytes n k v } → IsFilled start content p m new
filled_more start content p n k m page new v s end fits is put = rw (put, end) record {
  address = s.address;
  full = length-put_number page.bytes n k v ∙ s.full;
  so_far = so_far;
  blank = λ j h. at j ∙ outside j (omega (arith, h)) ∙ s.blank j (omega (arith, h));
}
  where
    at : (j : ℕ) → get_or (put_number page.bytes n k v) j 0 ≡ cond (within n k j) (byte_of_number (j - n) v) (get_or page.bytes j 0)
    at j = get-put_number page.bytes n k v j (omega (arith, s.full))

    outside : (j : ℕ) → n + k ≤ j → cond (within n k j) (byte_of_number (j - n) v) (get_or page.bytes j 0) ≡ get_or page.bytes j 0
    outside j h = grind (arith, nat_tests)

    before : (j : ℕ) → j < n → cond (within n k j) (byte_of_number (j - n) v) (get_or page.bytes j 0) ≡ get_or page.bytes j 0
    before j h = grind (arith, nat_tests)

    inside : (j : ℕ) → n ≤ j → j < n + k → cond (within n k j) (byte_of_number (j - n) v) (get_or page.bytes j 0) ≡ byte_of_number (j - n) v
    inside j lo hi = grind (arith, nat_tests)

    so_far : (j : ℕ) → j < n + k → get_or (put_number page.bytes n k v) j 0 ≡ content (4096 * p + j)
    so_far j h =
        elim (cases_lt j n) [
          | inl old ↦ at j ∙ before j old ∙ s.so_far j old
          | inr new ↦
              let place : n + (j - n) ≡ j = omega arith in
              at j ∙ inside j new h ∙ is (j - n) (omega arith) ∙ ap (λ (i : ℕ). content (4096 * p + i)) place
        ]

-- what is left of the page lies beyond the contents
pub filled_page : (start : ℕ) (content : ℕ → ℕ) (p n : ℕ) (page : PageValue) → IsFilled start content p n page → ((j : ℕ) → n ≤ j → j < 4096 → content (4096 * p + j) ≡ 0) → IsPageOf start content p page
filled_page start content p n page s rest = record {
  address = s.address;
  full = s.full;
  bytes = λ j h. elim (cases_lt j n) [
    | inl old ↦ s.so_far j old
    | inr beyond ↦ s.blank j beyond ∙ sym (rest j beyond h)
  ];
}

-- ---- the contents of a program

-- a word makes four bytes of text
pub word_bytes : (words : List ℕ) (p n v : ℕ) → v ≡ get_or words (1024 * p + n) 0 → (i : ℕ) → i < 4 → byte_of_number i v ≡ text_byte words (4096 * p + (4 * n + i))
word_bytes words p n v is i lt =
    let which : (4096 * p + (4 * n + i)) % 4 ≡ i = omega arith in
    let word : (4096 * p + (4 * n + i)) / 4 ≡ 1024 * p + n = omega arith in
    rw (which, word, is) refl

no_byte : (i : ℕ) → byte_of_number i 0 ≡ 0
no_byte zero = refl
no_byte (suc i) = ap (λ (n : ℕ). n % 256) (zero-div (256 ^ suc i))

-- past the last word the text is 0
pub no_word : (words : List ℕ) (p n : ℕ) → length words ≤ 1024 * p + n → (j : ℕ) → 4 * n ≤ j → text_byte words (4096 * p + j) ≡ 0
no_word words p n past j from =
    let none : get_or words ((4096 * p + j) / 4) 0 ≡ 0 = get_or-eq_default words 0 (omega arith) in
    rw none (no_byte _)

pub data_bytes : (bytes : List ℕ) (p n v : ℕ) → v ≡ get_or bytes (4096 * p + n) 0 → v < 256 → (i : ℕ) → i < 1 → byte_of_number i v ≡ data_byte bytes (4096 * p + (n + i))
data_bytes bytes p n v is small i lt =
    let first : i ≡ 0 = omega arith in
    let here : n + 0 ≡ n = omega arith in
    let low : v % 256 ≡ v = omega arith in
    rw (first, here, low, is) refl

pub no_data : (bytes : List ℕ) (p n : ℕ) → length bytes ≤ 4096 * p + n → (j : ℕ) → n ≤ j → data_byte bytes (4096 * p + j) ≡ 0
no_data bytes p n past j from = get_or-eq_default bytes 0 (omega arith)

-- A store leaves what is fetched: it puts its bytes into a data page, and a fetch reads text pages.
use Rattle.std.proofs.Common.{◌≡◌, ℕ, ◌/◌, ◌%◌, ◌<◌, ◌≤◌, Option, Some, None, List, length, set, arith, sym, ◌∙◌, refl, inl, inr}
use Rattle.std.specs.Prelude.{slice_index, slice_index_or}
use Rattle.std.proofs.lemmas.Bool.{cases_lt}
use Rattle.std.proofs.lemmas.Grind.{common_steps}
use Rattle.std.proofs.Math.ListN.{length-set}
use Rattle.paged_memory.specs.Cells.{fetch_of, number_at}
use Rattle.paged_memory.specs.Pages.{PageValue}
use Rattle.paged_memory.specs.Layout.{place_of, page_in, cells_of, IsSized}
use Rattle.paged_memory.specs.Stored.{IsFetchedAlike}
use Rattle.paged_memory.proofs.Accesses.{fetch_ok, fetch_refused}

-- the page at a place is what reading it gives
read_back : (ps : List PageValue) (p : ℕ) → p < length ps → page_in ps p ≡ slice_index_or ps p (page_in ps p)
read_back ps p h = grind (arith, common_steps)

-- another page is as it was
other_page : (ps : List PageValue) (p r : ℕ) (q : PageValue) → r < p → page_in (set ps p q) r ≡ page_in ps r
other_page ps p r q h = grind (arith, common_steps)

-- with a data page replaced, what is fetched from the page at a place stays
fetched_at : (t : ℕ) (ps : List PageValue) (p : ℕ) (q : PageValue) (x : ℕ) (o : Option ℕ) → IsSized t (length ps) → t ≤ p → x % 4 ≡ 0 → place_of t (length ps) (x / 4096) ≡ o → fetch_of (cells_of t (set ps p q)) x ≡ fetch_of (cells_of t ps) x
fetched_at t ps p q x None s d m e = sym (fetch_refused t (set ps p q) x (rw length-set s) (rw (length-set, e) tt)) ∙ fetch_refused t ps x s (rw e tt)
fetched_at t ps p q x (Some r) s d m e =
    elim (cases_lt r t) [
      | inl text ↦
          let n : ℕ = number_at (slice_index (page_in ps r).bytes) (x % 4096) 4 in
          let long : r < length ps = omega (arith, s.text_first, text) in
          let same : page_in (set ps p q) r ≡ page_in ps r = other_page ps p r q (omega (arith, text, d)) in
          sym (fetch_ok t (set ps p q) x r n (page_in (set ps p q) r) (rw length-set s) (rw length-set e) text (read_back (set ps p q) r (rw length-set long)) m (rw same refl))
          ∙ fetch_ok t ps x r n (page_in ps r) s e text (read_back ps r long) m refl
      | inr after ↦ sym (fetch_refused t (set ps p q) x (rw length-set s) (rw (length-set, e) after)) ∙ fetch_refused t ps x s (rw e after)
    ]

-- so a store into a data page changes nothing that is fetched
pub fetched_alike : (t : ℕ) (ps qs : List PageValue) (p : ℕ) (q : PageValue) → IsSized t (length ps) → t ≤ p → qs ≡ set ps p q → IsFetchedAlike (cells_of t ps) (cells_of t qs)
fetched_alike t ps qs p q s d is x m = rw is (fetched_at t ps p q x (place_of t (length ps) (x / 4096)) s d m refl)

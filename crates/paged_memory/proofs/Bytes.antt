-- The bytes of the map, one by one.
use Rattle.std.proofs.Common.{◌≡◌, ℕ, ◌/◌, ◌%◌, ◌<◌, Option, Some, None, List, length, arith, ap, sym, ◌∙◌, subst, refl}
use Rattle.std.specs.Prelude.{slice_index, slice_index_or}
use Rattle.std.proofs.lemmas.Bool.Decides.{nat_tests}
use Rattle.paged_memory.specs.Cells.{byte_of, byte_at, IsByteMap}
use Rattle.paged_memory.specs.Pages.{PageValue}
use Rattle.paged_memory.specs.Layout.{place_of, cell_in, cells_of, IsSized, IsSound}
use Rattle.paged_memory.proofs.Accesses.{page_read}
use Rattle.paged_memory.proofs.OnePage.{beyond, get-cells_of, get_placed}

pub byte_ok : (t : ℕ) (ps : List PageValue) (a p b : ℕ) (page : PageValue) → IsSized t (length ps) → place_of t (length ps) (a / 4096) ≡ Some p → p < length ps → page ≡ slice_index_or ps p page → b ≡ slice_index page.bytes (a % 4096) → b ≡ byte_at (cells_of t ps) a
byte_ok t ps a p b page s e l read is =
    is ∙ ap (λ q. slice_index q.bytes (a % 4096)) (page_read ps p page l read) ∙ sym (ap byte_of (get_placed t ps a (Some p) s e))

pub byte_unmapped : (t : ℕ) (ps : List PageValue) (a : ℕ) → IsSized t (length ps) → place_of t (length ps) (a / 4096) ≡ None → 0 ≡ byte_at (cells_of t ps) a
byte_unmapped t ps a s e = sym (ap byte_of (get_placed t ps a None s e))

listed : (t n g p : ℕ) → IsSized t n → place_of t n g ≡ Some p → p < n
listed t n g p s e = grind (arith, nat_tests)

small_cell : (t : ℕ) (ps : List PageValue) (g at : ℕ) (o : Option ℕ) → IsSound t ps → place_of t (length ps) g ≡ o → byte_of (cell_in t ps at o) < 256
small_cell t ps g at None s e = omega arith
small_cell t ps g at (Some p) s e = s.laid_out.bytes p (listed t (length ps) g p s.sized e) at

-- pages show a map of bytes, which ends below 0x200000
pub byte_map : (t : ℕ) (ps : List PageValue) → IsSound t ps → IsByteMap (cells_of t ps)
byte_map t ps s = record {
  below = λ x. subst (λ (n : ℕ). n < 256) (sym (ap byte_of (get_placed t ps x _ s.sized refl))) (small_cell t ps (x / 4096) (x % 4096) _ s refl);
  addressed = λ x h. ap byte_of (get-cells_of t ps x s.sized ∙ sym (beyond t ps x s.sized (omega (arith, h))));
}

-- The outcomes of fetches and loads.
use Rattle.std.proofs.Common.{◌≡◌, ℕ, ◌+◌, ◌/◌, ◌%◌, ◌<◌, ◌≤◌, true, false, nat_lt, Option, Some, None, Ok, Err, List, length, arith, ap, sym, ◌∙◌, refl, IfSome}
use Rattle.std.specs.Prelude.{slice_index, slice_index_or}
use Rattle.std.proofs.lemmas.Bool.Decides.{nat_tests}
use Rattle.std.proofs.lemmas.Grind.{common_steps}
use Rattle.paged_memory.specs.Cells.{rights_of, rights_at, byte_at, number_at, all_have, is_readable, is_executable, bytes_of, load_of, fetch_of}
use Rattle.paged_memory.specs.Pages.{PageValue}
use Rattle.paged_memory.specs.Layout.{place_of, page_in, cell_in, cells_of, IsSized}
use Rattle.paged_memory.proofs.OnePage.{number_in_page, all_in_page, none_in_page}
use Rattle.paged_memory.specs.declared.Width.{Width}
use Rattle.paged_memory.specs.declared.Width.TheVariants.{Byte, Half, Word, Double}
use Rattle.paged_memory.specs.declared.Fault.TheVariants.{FetchAccess, LoadAccess}

-- an aligned access lies within one page
pub aligned_fits : (w : Width) (a : ℕ) → a % bytes_of w ≡ 0 → a % 4096 + bytes_of w ≤ 4096
aligned_fits Byte a h = omega arith
aligned_fits Half a h = omega arith
aligned_fits Word a h = omega arith
aligned_fits Double a h = omega arith

pub some_bytes : (w : Width) → 0 < bytes_of w
some_bytes Byte = omega arith
some_bytes Half = omega arith
some_bytes Word = omega arith
some_bytes Double = omega arith

-- a page that was read at a place in the list
pub page_read : (ps : List PageValue) (p : ℕ) (page : PageValue) → p < length ps → page ≡ slice_index_or ps p page → page ≡ page_in ps p
page_read ps p page l is = grind (arith, common_steps)

-- ---- loads

pub load_ok : (t : ℕ) (ps : List PageValue) (a p v : ℕ) (page : PageValue) (w : Width) → IsSized t (length ps) → place_of t (length ps) (a / 4096) ≡ Some p → p < length ps → page ≡ slice_index_or ps p page → a % bytes_of w ≡ 0 → v ≡ number_at (slice_index page.bytes) (a % 4096) (bytes_of w) → Ok v ≡ load_of (cells_of t ps) a (bytes_of w)
load_ok t ps a p v page w s e l read m is =
    let mapped : all_have is_readable (rights_at (cells_of t ps)) a (bytes_of w) ≡ true = all_in_page is_readable t ps a (bytes_of w) p refl s e (aligned_fits w a m) in
    let number : number_at (byte_at (cells_of t ps)) a (bytes_of w) ≡ v = number_in_page t ps a (bytes_of w) p s e (aligned_fits w a m) ∙ sym (is ∙ ap (λ q. number_at (slice_index q.bytes) (a % 4096) (bytes_of w)) (page_read ps p page l read)) in
    rw (m, mapped, number) refl

pub load_unmapped : (t : ℕ) (ps : List PageValue) (a : ℕ) (w : Width) → IsSized t (length ps) → place_of t (length ps) (a / 4096) ≡ None → a % bytes_of w ≡ 0 → Err LoadAccess ≡ load_of (cells_of t ps) a (bytes_of w)
load_unmapped t ps a w s e m =
    let mapped : all_have is_readable (rights_at (cells_of t ps)) a (bytes_of w) ≡ false = none_in_page is_readable t ps a (bytes_of w) None refl s e (some_bytes w) in
    rw (m, mapped) refl

-- ---- fetches

pub fetch_ok : (t : ℕ) (ps : List PageValue) (a p v : ℕ) (page : PageValue) → IsSized t (length ps) → place_of t (length ps) (a / 4096) ≡ Some p → p < t → page ≡ slice_index_or ps p page → a % 4 ≡ 0 → v ≡ number_at (slice_index page.bytes) (a % 4096) 4 → Ok v ≡ fetch_of (cells_of t ps) a
fetch_ok t ps a p v page s e d read m is =
    let right : nat_lt p t ≡ true = grind (arith, nat_tests) in
    let executable : all_have is_executable (rights_at (cells_of t ps)) a 4 ≡ true = all_in_page is_executable t ps a 4 p right s e (omega arith) in
    let number : number_at (byte_at (cells_of t ps)) a 4 ≡ v = number_in_page t ps a 4 p s e (omega arith) ∙ sym (is ∙ ap (λ q. number_at (slice_index q.bytes) (a % 4096) 4) (page_read ps p page (omega arith) read)) in
    rw (executable, number) refl

not_executable : (t : ℕ) (ps : List PageValue) (at : ℕ) (o : Option ℕ) → IfSome o (λ p. t ≤ p) → is_executable (rights_of (cell_in t ps at o)) ≡ false
not_executable t ps at None h = refl
not_executable t ps at (Some p) h = grind (arith, nat_tests)

pub fetch_refused : (t : ℕ) (ps : List PageValue) (a : ℕ) → IsSized t (length ps) → IfSome (place_of t (length ps) (a / 4096)) (λ p. t ≤ p) → Err FetchAccess ≡ fetch_of (cells_of t ps) a
fetch_refused t ps a s e =
    let executable : all_have is_executable (rights_at (cells_of t ps)) a 4 ≡ false = none_in_page is_executable t ps a 4 (place_of t (length ps) (a / 4096)) (not_executable t ps (a % 4096) _ e) s refl (omega arith) in
    rw executable refl

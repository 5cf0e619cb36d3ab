use Rattle.std.proofs.Common.{◌≡◌, ℕ, ◌-◌, ◌<◌, List, length, slice_get, Some, subst, arith}
use Rattle.std.specs.Prelude.{All}
use Rattle.reorder_buffer.specs.Growing.{IsGrowing}
use Rattle.reorder_buffer.proofs.Stamps.{below_up_to}
use Rattle.core_view.specs.declared.entry.Entry.{Entry}
use Rattle.queue_tests.proofs.accesses.Accesses.is_next.Goals as goal

-- the last entry has the greatest stamp
all_below : (n : ℕ) (es : List Entry) (last : Entry) → IsGrowing (λ (e : Entry). e.stamp) es → Some last ≡ slice_get es (length es - 1) → last.stamp < n → All (λ (e : Entry). e.stamp < n) es
all_below n es last growing at above k d lt = below_up_to (λ (e : Entry). e.stamp) n (length es - 1) es growing (omega (arith, lt)) (λ e read. grind (arith, at, read, above)) k d (omega (arith, lt))

pub returns-in-Some : goal.returns-in-Some
returns-in-Some c above = subst (λ f. All (λ (e : Entry). e.stamp < c.args.stamp) f.entries) c.self.view_is (all_below c.args.stamp c.self.inside.flight.entries c.in-Some.last.now c.len-len.ensures.growing (grind (arith, c.last.ensures, c.in-Some.is)) (grind (arith, above)))

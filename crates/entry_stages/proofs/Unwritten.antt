-- What leaves memory as it is.
use Rattle.std.proofs.Common.{◌≡◌, None, refl, sym}
use Rattle.std.proofs.lemmas.Option.{none-some}
use Rattle.paged_memory.specs.Cells.{Cells}
use Rattle.hart_step.specs.declared.environment.Environment.{Environment}
use Rattle.core_view.specs.declared.outcome.Access.{Access}
use Rattle.core_view.specs.declared.outcome.Access.TheVariants.{Free, Reads, Writes}
use Rattle.core_view.specs.Outcomes.{bytes_written, memory_after}

-- an access that writes no bytes leaves memory as it is
pub memory_unwritten : (environment : Environment) (memory : Cells) (a : Access) → bytes_written a ≡ None → memory_after environment memory a ≡ memory
memory_unwritten environment memory Free none = refl
memory_unwritten environment memory (Reads span) none = refl
memory_unwritten environment memory (Writes bytes) none = absurd (none-some bytes (sym none))

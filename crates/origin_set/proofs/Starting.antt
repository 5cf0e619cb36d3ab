-- What a context starts from.
use Rattle.std.proofs.Common.{◌≡◌, ℕ, List, Option, Some, Result, IfOk, replicate, refl}
use Rattle.hart_step.specs.State.{State}
use Rattle.hart_step.specs.declared.environment.Environment.{Environment}
use Rattle.join_law.specs.Eight.{place_of}
use Rattle.join_law.specs.declared.places.Eight.{Eight}
use Rattle.origin_set.specs.OriginValue.{OriginValue}
use Rattle.origin_set.specs.Start.{start, start_memory}
use Rattle.paged_memory.specs.Cells.{Cells}
use Rattle.paged_memory.specs.Regions.{text_start}
use Rattle.paged_memory.specs.Start.{start_cells}
use Rattle.rv64_asm.specs.ProgramValue.{ProgramValue}

-- the memory of a program's words and bytes
pub starting : {E : Type 0} (made : Result Cells E) (program : Option ProgramValue) (p : ProgramValue) (words bytes : List ℕ) → program ≡ Some p → words ≡ p.words → bytes ≡ p.bytes → IfOk made (λ memory. memory ≡ start_cells words bytes) → IfOk made (λ memory. memory ≡ start_memory program)
starting made program p words bytes is w b ok = rw (is, ← w, ← b) ok

-- the state over that memory
pub started : (environment : Environment) (programs : Eight (Option ProgramValue)) (context : ℕ) (memory : Cells) (program : Option ProgramValue) (seen : OriginValue) → memory ≡ start_memory program → program ≡ place_of programs context → ◌≡◌ {A = OriginValue} (record { environment = environment; programs = programs }) seen → ◌≡◌ {A = State} (record { registers = replicate 32 0; pc = text_start; memory = memory; environment = environment }) (start seen context)
started environment programs context memory program seen m p view = rw (m, p, ← view) refl

use Rattle.std.proofs.Common.{ℕ, List}
use Rattle.std.specs.List.Sorted.{IsStrictlySortedBy}
use Rattle.std.specs.Map.{keys_of}
use Rattle.std.specs.String.{string_cmp}
use Rattle.toml.specs.View.{members_view}
use Rattle.rv64_asm.specs.declared.fault.LineFault.{LineFault}
use Rattle.lab_plan.specs.Programs.{AllAssemble, IsFirstProgramFault}
use Rattle.lab_plan.proofs.programs.assemble_each.Given as goal

-- what remains: its names are in order, it assembles only where all does, and its first fault is that of all
abbrev pub invariant-loop-name : goal.invariant-loop-name
invariant-loop-name l = record {
  sorted : IsStrictlySortedBy string_cmp (keys_of l.name-iterator);
  all : AllAssemble (members_view l.name-iterator) → AllAssemble (members_view l.programs.entries);
  first : (name : List ℕ) (fault : LineFault) (line : ℕ) → IsFirstProgramFault (members_view l.name-iterator) name fault line → IsFirstProgramFault (members_view l.programs.entries) name fault line;
}

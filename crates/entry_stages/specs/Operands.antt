-- What an entry names as it is renamed.
use Rattle.core_view.specs.declared.entry.Entry.{Entry}
use Rattle.core_view.specs.Operations.{destination_of, first_source_of, second_source_of}
use Rattle.data_flow.specs.declared.operands.Operands.{Operands}

-- the registers that an entry names
abbrev pub operands_of : Entry → Operands
operands_of e = record { stamp = e.stamp; destination = destination_of e.operation; first = first_source_of e.operation; second = second_source_of e.operation }

use Rattle.std.proofs.Common.{◌≡◌, ◌+◌, ◌-◌, ◌≤◌}
use Rattle.paged_memory.specs.Cells.{byte_at, number_at}
use Rattle.load_store_queue.proofs.reading.number_by_bytes.Given as goal

abbrev pub invariant-loop-offset : goal.invariant-loop-offset
invariant-loop-offset g l = record {
  within : l.offset ≤ l.span.size;
  read : l.number ≡ number_at (byte_at l.memory) (l.span.address + l.offset) (l.span.size - l.offset);
}

abbrev pub decreases-loop-offset : goal.decreases-loop-offset
decreases-loop-offset g l = l.offset

-- The instructions that an active list holds, by their numbers.
use Rattle.std.specs.Prelude.{ℕ, ◌%◌}
use Rattle.circular_buffer.specs.Buffer.{Buffer, buffer}
use Rattle.data_flow.specs.Numbered.{numbered, count}
use Rattle.data_flow.specs.declared.operands.Renamed.{Renamed}
use Rattle.data_flow.specs.declared.slots.Slots.{Slots}
use Rattle.data_flow.specs.declared.active_list.ActiveList.TheInside.{Inside}
use Rattle.data_flow.specs.Slots.{slot_at}

-- the instruction of a number stands in the slot of its number modulo 64
abbrev pub of_number : Slots → ℕ → Renamed
of_number s k = slot_at s (k % 64)

abbrev pub listed : Inside → Buffer Renamed
listed l = buffer (numbered (of_number l.slots) l.head (count l.head l.tail)) l.room

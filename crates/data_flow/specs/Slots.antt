-- What stands in the slots of an active list.
use Rattle.std.specs.Prelude.{ℕ, slice_index, slice_set, ◌==◌, if◌then◌else◌}
use Rattle.data_flow.specs.declared.operands.Renamed.{Renamed}
use Rattle.data_flow.specs.declared.operands.Slot.{Slot}
use Rattle.data_flow.specs.declared.slots.Slots.{Slots}
use Rattle.data_flow.specs.declared.slots.Unread.{Unread, Nothing, After, After'}

-- the stamp and the source registers of what was written to a slot last, 0 and x0 where nothing was
abbrev pub stamp_at : Unread → ℕ → ℕ
stamp_at Nothing i = 0
stamp_at (After' marker before k stamp first second) i = if i == k then stamp else stamp_at before i

abbrev pub first_at : Unread → ℕ → ℕ
first_at Nothing i = 0
first_at (After' marker before k stamp first second) i = if i == k then first else first_at before i

abbrev pub second_at : Unread → ℕ → ℕ
second_at Nothing i = 0
second_at (After' marker before k stamp first second) i = if i == k then second else second_at before i

abbrev pub slot_at : Slots → ℕ → Renamed
slot_at s i = record {
  operands = record {
    stamp = stamp_at s.unread.value i;
    destination = slice_index s.destinations i;
    first = first_at s.unread.value i;
    second = second_at s.unread.value i;
  };
  destination = slice_index s.renamed_destinations i;
  first = slice_index s.renamed_firsts i;
  second = slice_index s.renamed_seconds i;
}

-- what is read of an instruction
abbrev pub slot_of : Renamed → Slot
slot_of n = record {
  name = n.operands.destination;
  destination = n.destination;
  first = n.first;
  second = n.second;
}

abbrev pub with_slot : Slots → ℕ → Renamed → Slots
with_slot s i n = record {
  destinations = slice_set s.destinations i n.operands.destination;
  renamed_destinations = slice_set s.renamed_destinations i n.destination;
  renamed_firsts = slice_set s.renamed_firsts i n.first;
  renamed_seconds = slice_set s.renamed_seconds i n.second;
  unread = record { marker = record {}; value = After s.unread i n.operands.stamp n.operands.first n.operands.second };
}

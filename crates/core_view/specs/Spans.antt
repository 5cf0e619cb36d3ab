-- Spans of addresses, and memory as a function from addresses to bytes with stores laid over it.
use Rattle.std.specs.Prelude.{ℕ, ◌+◌, ◌-◌, ◌/◌, ◌%◌, ◌^◌, Bool, ◌&&◌, nat_le, max, if◌then◌else◌, Option, Some, None}
use Rattle.std.specs.Int.{byte_at as byte_of_number}
use Rattle.paged_memory.specs.Cells.{within, number_at}
use Rattle.core_view.specs.declared.span.Span.{Span}
use Rattle.core_view.specs.declared.span.Bytes.{Bytes}

-- an address is in a span
abbrev pub contains : Span → ℕ → Bool
contains s x = within s.address s.size x

-- some byte is in both spans: the first of the one that begins later is
abbrev pub shares : Span → Span → Bool
shares s t = contains s (max s.address t.address) && contains t (max s.address t.address)

-- each byte of the second span is in the first
abbrev pub covers : Span → Span → Bool
covers s t = nat_le s.address t.address && nat_le (t.address + t.size) (s.address + s.size)

-- the number that the bytes of a span spell, least first
abbrev pub number_in : (ℕ → ℕ) → Span → ℕ
number_in bytes s = number_at bytes s.address s.size

-- the byte at an address once a store is laid over what stood there
abbrev pub byte_after : (ℕ → ℕ) → Bytes → ℕ → ℕ
byte_after bytes b x = if contains b.span x then byte_of_number (x - b.span.address) b.value else bytes x

-- the same, where there may be no store
abbrev pub overlaid : (ℕ → ℕ) → Option Bytes → ℕ → ℕ
overlaid bytes None = bytes
overlaid bytes (Some b) = byte_after bytes b

-- what a store's bytes spell at a span that theirs covers
abbrev pub part_of : Bytes → Span → ℕ
part_of b s = b.value / 256 ^ (s.address - b.span.address) % 256 ^ s.size

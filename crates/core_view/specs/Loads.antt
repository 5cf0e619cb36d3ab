-- What a load sees of memory and of the older stores, byte by byte and store by store, and when it may issue.
use Rattle.std.specs.Prelude.{ℕ, ◌-◌, Bool, true, List, [], ◌∷◌, if◌then◌else◌, Option, Some, None}
use Rattle.std.specs.Option.{option_or, option_map_or}
use Rattle.std.specs.Int.{byte_at as byte_of_number}
use Rattle.hart_step.specs.declared.effect.Effect.{Effect}
use Rattle.hart_step.specs.declared.effect.Effect.TheVariants.{Loads}
use Rattle.hart_step.specs.Values.{load_bytes}
use Rattle.core_view.specs.declared.span.Span.{Span}
use Rattle.core_view.specs.declared.span.Bytes.{Bytes}
use Rattle.core_view.specs.declared.entry.Entry.{Entry}
use Rattle.core_view.specs.Spans.{contains, shares, covers, number_in, part_of}
use Rattle.core_view.specs.Outcomes.{load_span}
use Rattle.core_view.specs.Flight.{bytes_done}

-- ---- what is seen

-- a store's bytes, where they pass a test
abbrev pub passing : (Bytes → Bool) → Option Bytes → Option Bytes
passing test None = None
passing test (Some b) = if test b then Some b else None

-- the newest store of these that is done without a stop and passes a test
abbrev pub newest : (Bytes → Bool) → List Entry → Option Bytes
newest test [] = None
newest test (e ∷ es) = option_or (newest test es) (passing test (bytes_done e.stage))

-- the newest that covers an address
abbrev pub newest_at : List Entry → ℕ → Option Bytes
newest_at es x = newest (λ b. contains b.span x) es

-- the newest that shares a byte with a span
abbrev pub newest_sharing : List Entry → Span → Option Bytes
newest_sharing es s = newest (λ b. shares b.span s) es

-- the byte at an address: of a store, else memory's
abbrev pub byte_from : (ℕ → ℕ) → Option Bytes → ℕ → ℕ
byte_from memory None x = memory x
byte_from memory (Some b) x = byte_of_number (x - b.span.address) b.value

-- the byte that is seen after these entries: that of the newest store that is done without a stop and covers it, else memory's
abbrev pub seen_byte : (ℕ → ℕ) → List Entry → ℕ → ℕ
seen_byte memory es x = byte_from memory (newest_at es x) x

-- the number that is seen at a span
abbrev pub seen_value : (ℕ → ℕ) → List Entry → Span → ℕ
seen_value memory es s = number_in (seen_byte memory es) s

-- ---- what a load gets

-- no store shares a byte with a span, or this one covers all of it
abbrev pub is_clear_of : Option Bytes → Span → Bool
is_clear_of None s = true
is_clear_of (Some b) s = covers b.span s

-- a load of a span after these entries is clear: no store that is done without a stop shares a byte with it, or the newest that does covers all
abbrev pub is_clear : List Entry → Span → Bool
is_clear es s = is_clear_of (newest_sharing es s) s

-- what a clear load gets: memory's number, or the part of that store's
abbrev pub forwarded : (ℕ → ℕ) → Option Bytes → Span → ℕ
forwarded memory None s = number_in memory s
forwarded memory (Some b) s = part_of b s

-- the span that a load asks for, whether or not it will stop
abbrev pub span_asked : Effect → Option Span
span_asked (Loads kind address) = Some (load_span address (load_bytes kind))
span_asked _ = None

-- the number that it gets after these entries, 0 where there is no load
abbrev pub number_answered : (ℕ → ℕ) → List Entry → Effect → ℕ
number_answered memory es e = option_map_or (λ s. forwarded memory (newest_sharing es s) s) (span_asked e) 0

-- an effect may be issued after these entries: what is asked for is clear
abbrev pub may_issue : List Entry → Effect → Bool
may_issue es e = option_map_or (is_clear es) (span_asked e) true

-- What a track's queues give the entry at a place.
use Rattle.std.proofs.Common.{◌≡◌, ℕ, ◌<◌, length, get_or, take, sym, ◌∙◌}
use Rattle.paged_memory.specs.Cells.{byte_at}
use Rattle.core_view.specs.declared.span.Span.{Span}
use Rattle.core_view.specs.Spans.{number_in}
use Rattle.core_view.specs.Outcomes.{image_of}
use Rattle.core_view.specs.Flight.{seen_of}
use Rattle.core_view.specs.Loads.{is_clear}
use Rattle.core_view.specs.Queues.{stores_of, is_clear_in, value_seen_in}
use Rattle.core_view.specs.View.{Context, seen_at, no_entry}
use Rattle.core_view.proofs.Loads.{seen_past-value}
use Rattle.core_view.proofs.Queues.{queue_clear, queue_value}
use Rattle.core_context.specs.Issuable.{IsAnswered}

module _ (x : Context) (i : ℕ) (s : Span) (ready : IsAnswered x i) (within : i < length x.flight) where
  -- a load waits exactly where it isn't clear
  pub asked_clear : is_clear_in (stores_of x.flight) (get_or x.flight i no_entry).stamp s ≡ is_clear (take i x.flight) s
  asked_clear = queue_clear (image_of x.state) (seen_of x.state) x.state.pc 0 x.flight i no_entry s within ready.growing ready.sound

  -- and what it sees in the queue is what the flight lets it see
  pub asked_value : value_seen_in (byte_at x.state.memory) (stores_of x.flight) (get_or x.flight i no_entry).stamp s ≡ number_in (seen_at x i).bytes s
  asked_value =
      queue_value (image_of x.state) (seen_of x.state) x.state.pc 0 (byte_at x.state.memory) x.flight i no_entry s within ready.growing ready.sound
      ∙ sym (seen_past-value (seen_of x.state) (take i x.flight) s)

-- What a load sees, by the newest store that shares a byte with it.
use Rattle.std.proofs.Common.{◌≡◌, ℕ, true, List, Option, Some, None, sym, ap, ◌∙◌}
use Rattle.core_view.specs.declared.span.Span.{Span}
use Rattle.core_view.specs.declared.span.Bytes.{Bytes}
use Rattle.core_view.specs.Spans.{shares, covers, number_in, part_of}
use Rattle.core_view.specs.Loads.{is_clear_of, forwarded}
use Rattle.core_view.specs.Queues.{StoreSlot, newest_in, value_seen_in, is_clear_in}
use Rattle.core_view.proofs.StoreSlots.{clear_seen_in}

module _ (memory : ℕ → ℕ) (qs : List StoreSlot) (k : ℕ) (s : Span) (newest : Option Bytes) (found : newest ≡ newest_in (λ b. shares b.span s) qs k) where
  clear_by : is_clear_in qs k s ≡ is_clear_of newest s
  clear_by = ap (λ (n : Option Bytes). is_clear_of n s) (sym found)

  seen_by : is_clear_of newest s ≡ true → value_seen_in memory qs k s ≡ forwarded memory newest s
  seen_by clear = clear_seen_in memory qs k s (clear_by ∙ clear) ∙ ap (λ (n : Option Bytes). forwarded memory n s) (sym found)

  -- there is none: memory's number
  pub seen_in_memory : (value : ℕ) → newest ≡ None → value ≡ number_in memory s → value ≡ value_seen_in memory qs k s
  seen_in_memory value none is =
      let by_none : forwarded memory newest s ≡ number_in memory s = ap (λ (n : Option Bytes). forwarded memory n s) none in
      is ∙ sym (seen_by (ap (λ (n : Option Bytes). is_clear_of n s) none) ∙ by_none)

  -- it covers the load: the part of it
  pub seen_in_store : (b : Bytes) (value : ℕ) → newest ≡ Some b → covers b.span s ≡ true → value ≡ part_of b s → value ≡ value_seen_in memory qs k s
  seen_in_store b value some whole is =
      let by_store : forwarded memory newest s ≡ part_of b s = ap (λ (n : Option Bytes). forwarded memory n s) some in
      is ∙ sym (seen_by (ap (λ (n : Option Bytes). is_clear_of n s) some ∙ whole) ∙ by_store)

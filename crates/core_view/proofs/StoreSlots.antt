-- What a load sees of the stores in a queue, byte by byte, and what one gets that is clear.
use Rattle.std.proofs.Common.{◌≡◌, ℕ, true, List, [], ◌∷◌, Option, Some, None, refl, sym, ap, ◌∙◌}
use Rattle.std.proofs.Math.Path.{fun_ext}
use Rattle.std.specs.Option.{option_or}
use Rattle.core_view.specs.declared.span.Span.{Span}
use Rattle.core_view.specs.declared.span.Bytes.{Bytes}
use Rattle.core_view.specs.Spans.{contains, shares, number_in, overlaid}
use Rattle.core_view.specs.Loads.{passing, byte_from, is_clear_of, forwarded}
use Rattle.core_view.specs.Queues.{StoreSlot, bytes_before, newest_in, byte_seen_in, value_seen_in, is_clear_in}
use Rattle.core_view.proofs.Loads.{byte_over, read_over}

-- memory with these stores laid over it, oldest first
abbrev laid : (ℕ → ℕ) → List StoreSlot → ℕ → ℕ → ℕ
laid memory [] k = memory
laid memory (q ∷ qs) k = laid (overlaid memory (bytes_before k q)) qs k

laid-byte : (memory : ℕ → ℕ) (qs : List StoreSlot) (k x : ℕ) → laid memory qs k x ≡ byte_seen_in memory qs k x
laid-byte memory [] k x = refl
laid-byte memory (q ∷ qs) k x = go (newest_in (λ b. contains b.span x) qs k) (laid-byte (overlaid memory own) qs k x)
  where
    own : Option Bytes
    own = bytes_before k q

    go : (n : Option Bytes) → laid (overlaid memory own) qs k x ≡ byte_from (overlaid memory own) n x → laid (overlaid memory own) qs k x ≡ byte_from memory (option_or n (passing (λ b. contains b.span x) own)) x
    go None h = h ∙ byte_over memory own x
    go (Some b) h = h

laid-clear : (memory : ℕ → ℕ) (qs : List StoreSlot) (k : ℕ) (s : Span) → is_clear_in qs k s ≡ true → number_in (laid memory qs k) s ≡ forwarded memory (newest_in (λ b. shares b.span s) qs k) s
laid-clear memory [] k s h = refl
laid-clear memory (q ∷ qs) k s h = go (newest_in (λ b. shares b.span s) qs k) (laid-clear (overlaid memory own) qs k s) h
  where
    own : Option Bytes
    own = bytes_before k q

    go : (n : Option Bytes) → (is_clear_of n s ≡ true → number_in (laid (overlaid memory own) qs k) s ≡ forwarded (overlaid memory own) n s) → is_clear_of (option_or n (passing (λ b. shares b.span s) own)) s ≡ true
        → number_in (laid (overlaid memory own) qs k) s ≡ forwarded memory (option_or n (passing (λ b. shares b.span s) own)) s
    go None ih h = ih refl ∙ read_over memory own s h
    go (Some b) ih h = ih h

-- a clear load sees memory's number, or a part of the newest store that shares a byte with it
pub clear_seen_in : (memory : ℕ → ℕ) (qs : List StoreSlot) (k : ℕ) (s : Span) → is_clear_in qs k s ≡ true → value_seen_in memory qs k s ≡ forwarded memory (newest_in (λ b. shares b.span s) qs k) s
clear_seen_in memory qs k s h = sym (ap (λ (bytes : ℕ → ℕ). number_in bytes s) (fun_ext (laid-byte memory qs k))) ∙ laid-clear memory qs k s h

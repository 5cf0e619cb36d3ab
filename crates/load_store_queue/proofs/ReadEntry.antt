-- The entry at a place of a flight, as it was read there.
use Rattle.std.proofs.Common.{◌≡◌, ℕ, ◌<◌, Bool, true, false, List, length, Option, Some, None, slice_get, refl, sym, ap, ◌∙◌, Bor}
use Rattle.std.specs.Prelude.{◌↔◌, IsTrue}
use Rattle.std.specs.Option.{IsSome, option_copied}
use Rattle.std.proofs.lemmas.Bool.{true≢false}
use Rattle.std.proofs.lemmas.Option.{get_or_from_slice_get, slice_get-get_or}
use Rattle.core_view.specs.declared.entry.Entry.{Entry}
use Rattle.core_view.specs.View.{no_entry}
use Rattle.flight.specs.Flights.{entry_in}
use Rattle.load_store_queue.specs.Queues.{Places, HasPlace}

some_of : (got : Option (Bor Entry)) (e : Entry) → option_copied got ≡ Some e → IsSome got
some_of (Some b) e is = refl
some_of None e is = absurd (true≢false (sym (ap option_is is)))
  where
    option_is : Option Entry → Bool
    option_is (Some f) = true
    option_is None = false

-- there is one
pub read-some : (es : List Entry) (i : ℕ) (got : Option (Bor Entry)) → i < length es → option_copied got ≡ slice_get es i → IsSome got
read-some es i got within read = some_of got (entry_in es i) (read ∙ slice_get-get_or es i no_entry within)

pub read-entry : (es : List Entry) (i : ℕ) (got : Option (Bor Entry)) (e : Bor Entry) → option_copied got ≡ slice_get es i → got ≡ Some e → entry_in es i ≡ e.now
read-entry es i got e read some = get_or_from_slice_get es i e.now no_entry (sym read ∙ ap option_copied some)

-- it was read at a place that is equal to this one
pub read-entry-at : (es : List Entry) (i n : ℕ) (got : Option (Bor Entry)) (e : Bor Entry) → n ≡ i → option_copied got ≡ slice_get es n → got ≡ Some e → entry_in es i ≡ e.now
read-entry-at es i n got e same read some = read-entry es i got e (read ∙ ap (slice_get es) same) some

-- whether there is a place for it is told of what was read
module _ (q : Places) (es : List Entry) (i : ℕ) (e : Entry) (b : Bool) (here : entry_in es i ≡ e) (told : IsTrue b ↔ HasPlace q es e.operation) where
  pub no-place-there : b ≡ false → (false ≡ true → HasPlace q es (entry_in es i).operation) × (HasPlace q es (entry_in es i).operation → false ≡ true)
  no-place-there none = (λ no_way. absurd (true≢false (sym no_way)), λ h. sym none ∙ told.1 (rw (← here) h))

  pub place-there : b ≡ true → (true ≡ true → HasPlace q es (entry_in es i).operation) × (HasPlace q es (entry_in es i).operation → true ≡ true)
  place-there some = (λ _. rw here (told.0 some), λ _. refl)

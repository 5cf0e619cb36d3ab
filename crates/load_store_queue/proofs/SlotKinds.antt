-- Which entries have a slot among the loads or the stores: the renamed ones of one kind.
use Rattle.std.proofs.Common.{◌≡◌, ℕ, Bool, true, false, ◌&&◌, List, length, take, count_by, Some, None, is_some, refl, sym, ◌∙◌, ap}
use Rattle.std.specs.Prelude.{if◌then◌else◌, nat_lt}
use Rattle.core_view.specs.declared.entry.Entry.{Entry}
use Rattle.core_view.specs.Operations.{is_load, is_store}
use Rattle.core_view.specs.View.{no_entry}
use Rattle.core_view.proofs.KindTests.{load-kind, store-kind}
use Rattle.core_view.specs.Queues.{is_renamed, load_slot, store_slot, loads_of, stores_of}
use Rattle.flight.specs.Flights.{entry_in}
use Rattle.flight.specs.Marked.{is_of_kind}
use Rattle.load_store_queue.proofs.SlotCounts.{length-slots}

pub both-true : (a b : Bool) → (a && b) ≡ true → a ≡ true
both-true true b is = refl
both-true false b is = is

is_some-if : {X : Type 0} (b : Bool) (x : X) → is_some (if b then Some x else None) ≡ b
is_some-if true x = refl
is_some-if false x = refl

is_some-load_slot : (e : Entry) → is_some (load_slot e) ≡ (is_of_kind 3 e && is_renamed e.stage)
is_some-load_slot e = is_some-if (is_load e.operation && is_renamed e.stage) _ ∙ ap (λ b. b && is_renamed e.stage) (sym (load-kind e.operation))

is_some-store_slot : (e : Entry) → is_some (store_slot e) ≡ (is_of_kind 4 e && is_renamed e.stage)
is_some-store_slot e = is_some-if (is_store e.operation && is_renamed e.stage) _ ∙ ap (λ b. b && is_renamed e.stage) (sym (store-kind e.operation))

-- the first n entries are renamed, and no others
abbrev pub AreOldest : ℕ → List Entry → Type 0
AreOldest n es = (i : ℕ) → is_renamed (entry_in es i).stage ≡ nat_lt i n

module _ (n : ℕ) (es : List Entry) (oldest : AreOldest n es) where
  pub loads-counted : length (loads_of es) ≡ count_by (is_of_kind 3) (take n es)
  loads-counted = length-slots load_slot (is_of_kind 3) no_entry n es (λ i. is_some-load_slot (entry_in es i) ∙ ap (λ b. is_of_kind 3 (entry_in es i) && b) (oldest i))

  pub stores-counted : length (stores_of es) ≡ count_by (is_of_kind 4) (take n es)
  stores-counted = length-slots store_slot (is_of_kind 4) no_entry n es (λ i. is_some-store_slot (entry_in es i) ∙ ap (λ b. is_of_kind 4 (entry_in es i) && b) (oldest i))

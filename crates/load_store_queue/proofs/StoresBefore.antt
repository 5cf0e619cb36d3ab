-- The newest store that is older than a stamp, by the places of the entries.
use Rattle.std.proofs.Common.{◌≡◌, ℕ, zero, suc, ◌<◌, ◌≤◌, Bool, true, false, ◌&&◌, List, [], ◌∷◌, Option, Some, None, refl, ap, ◌∙◌, arith, inl, inr}
use Rattle.std.specs.Prelude.{nat_lt, option_and_then, if◌then◌else◌, is_some, not, IsTrue, MatchOption}
use Rattle.std.specs.List.{cons_option}
use Rattle.std.specs.Option.{option_or}
use Rattle.std.proofs.lemmas.Bool.{and_right, lt-ltb, le-ltb, cases_lt}
use Rattle.core_view.specs.declared.span.Bytes.{Bytes}
use Rattle.core_view.specs.declared.entry.Entry.{Entry}
use Rattle.core_view.specs.declared.entry.Stage.{Stage}
use Rattle.core_view.specs.declared.entry.Stage.TheVariants.{Fetched, Queued, Issued, Done}
use Rattle.core_view.specs.Operations.{is_store}
use Rattle.core_view.specs.Flight.{bytes_done, is_done}
use Rattle.core_view.specs.Loads.{passing}
use Rattle.core_view.specs.declared.span.Span.{Span}
use Rattle.core_view.specs.Spans.{shares}
use Rattle.core_view.specs.Queues.{StoreSlot, is_renamed, store_slot, stores_of, bytes_before, newest_in, is_clear_in}
use Rattle.flight.specs.Flights.{Flight, entry_in, NoneRenamedBelow, IsLastRenamed}
use Rattle.flight.specs.Marked.{is_completed_store}
use Rattle.load_store_queue.proofs.SlotKinds.{both-true}
use Rattle.load_store_queue.proofs.RenamedPlace.{IsRenamedPlace, stamp-before, stamp-from, is-renamed, not-renamed}

module _ (test : Bytes → Bool) (k : ℕ) where
  -- the bytes of an entry, where it is a renamed store older than the stamp and they pass the test
  abbrev pub bytes_passing : Entry → Option Bytes
  bytes_passing e = option_and_then (λ q. passing test (bytes_before k q)) (store_slot e)

  newest_in-cons_option : (o : Option StoreSlot) (qs : List StoreSlot) → newest_in test (cons_option o qs) k ≡ option_or (newest_in test qs k) (option_and_then (λ q. passing test (bytes_before k q)) o)
  newest_in-cons_option None qs = none-last (newest_in test qs k)
    where
      none-last : (n : Option Bytes) → n ≡ option_or n None
      none-last None = refl
      none-last (Some b) = refl
  newest_in-cons_option (Some q) qs = refl

  -- there is none where no entry has such bytes
  newest-none : (es : List Entry) → ((i : ℕ) → bytes_passing (entry_in es i) ≡ None) → newest_in test (stores_of es) k ≡ None
  newest-none [] none = refl
  newest-none (e ∷ es) none = newest_in-cons_option (store_slot e) (stores_of es) ∙ rw (newest-none es (λ i. none (suc i))) (none 0)

  -- it is that of the last entry that has
  newest-last : (es : List Entry) (i : ℕ) (b : Bytes) → bytes_passing (entry_in es i) ≡ Some b → ((j : ℕ) → i < j → bytes_passing (entry_in es j) ≡ None) → newest_in test (stores_of es) k ≡ Some b
  newest-last [] i b here none = here
  newest-last (e ∷ es) zero b here none = newest_in-cons_option (store_slot e) (stores_of es) ∙ rw (newest-none es (λ j. none (suc j) (omega arith))) here
  newest-last (e ∷ es) (suc i) b here none = newest_in-cons_option (store_slot e) (stores_of es) ∙ rw (newest-last es i b here (λ j lt. none (suc j) (omega (arith, lt)))) refl

  store-older : (e : Entry) → is_store e.operation ≡ true → is_renamed e.stage ≡ true → e.stamp < k → bytes_passing e ≡ passing test (bytes_done e.stage)
  store-older e store renamed older = rw (store, renamed, lt-ltb e.stamp k older) refl

  none-before : (t : Bool) → passing test (if t then None else None) ≡ None
  none-before true = refl
  none-before false = refl

  -- what is no completed store has none
  not-completed : (e : Entry) → is_completed_store e ≡ false → bytes_passing e ≡ None
  not-completed e other = go (is_store e.operation) e.stage other
    where
      go : (store : Bool) (s : Stage) → (store && is_done s) ≡ false → option_and_then (λ (q : StoreSlot). passing test (bytes_before k q)) (if store && is_renamed s then Some (record { stamp = e.stamp; bytes = bytes_done s }) else None) ≡ None
      go false s h = refl
      go true Fetched h = refl
      go true Queued h = none-before (nat_lt e.stamp k)
      go true (Issued x) h = none-before (nat_lt e.stamp k)
      go true (Done x) h = absurd cc

  unplaced : (e : Entry) → is_renamed e.stage ≡ false → bytes_passing e ≡ None
  unplaced e waits = rw (and_right (is_store e.operation) (is_renamed e.stage) waits) refl

  not-older : (e : Entry) → k ≤ e.stamp → bytes_passing e ≡ None
  not-older e le = go (is_store e.operation && is_renamed e.stage)
    where
      go : (t : Bool) → option_and_then (λ (q : StoreSlot). passing test (bytes_before k q)) (if t then Some (record { stamp = e.stamp; bytes = bytes_done e.stage }) else None) ≡ None
      go true = rw (le-ltb e.stamp k le) refl
      go false = refl

-- ---- a look from a place down

module _ (test : Bytes → Bool) (f : Flight) (place : ℕ) (at : IsRenamedPlace f place) where
  abbrev pub bytes_at : ℕ → Option Bytes
  bytes_at i = bytes_passing test (entry_in f.entries place).stamp (entry_in f.entries i)

  -- from the place on none is older
  pub none-older : (i : ℕ) → place ≤ i → bytes_at i ≡ None
  none-older i from = elim (cases_lt i f.renamed) [
    | inl lt ↦ not-older test (entry_in f.entries place).stamp (entry_in f.entries i) (stamp-from f place at place i from lt)
    | inr ge ↦ unplaced test (entry_in f.entries place).stamp (entry_in f.entries i) (not-renamed f place at i ge)
  ]

  no-store : (i : ℕ) → is_completed_store (entry_in f.entries i) ≡ false → bytes_at i ≡ None
  no-store i other = not-completed test (entry_in f.entries place).stamp (entry_in f.entries i) other

  module _ (below : ℕ) (under : below ≤ place) (past : (i : ℕ) → below ≤ i → bytes_at i ≡ None) where
    -- no completed store is left
    pub newest-without : NoneRenamedBelow is_completed_store f below → newest_in test (stores_of f.entries) (entry_in f.entries place).stamp ≡ None
    newest-without none = newest-none test (entry_in f.entries place).stamp f.entries
        (λ i. elim (cases_lt i below) [ inl lt ↦ no-store i (none i lt (let renamed = at.renamed in omega (arith, lt, under, renamed))) | inr ge ↦ past i ge ])

    module _ (older : ℕ) (last : IsLastRenamed is_completed_store f below older) where
      after-store : (i : ℕ) → older < i → bytes_at i ≡ None
      after-store i after = elim (cases_lt i below) [ inl lt ↦ no-store i (last.last i after lt (let renamed = at.renamed in omega (arith, lt, under, renamed))) | inr ge ↦ past i ge ]

      at-store : bytes_at older ≡ passing test (bytes_done (entry_in f.entries older).stage)
      at-store = store-older test (entry_in f.entries place).stamp (entry_in f.entries older)
          (both-true (is_store (entry_in f.entries older).operation) (is_done (entry_in f.entries older).stage) last.passes)
          (is-renamed f place at older last.renamed)
          (stamp-before f place at older place (let before = last.below in omega (arith, before, under)) at.renamed)

      -- the last completed store that is left is the newest, where its bytes pass the test
      pub newest-there : (b : Bytes) → passing test (bytes_done (entry_in f.entries older).stage) ≡ Some b → newest_in test (stores_of f.entries) (entry_in f.entries place).stamp ≡ Some b
      newest-there b here = newest-last test (entry_in f.entries place).stamp f.entries older b (at-store ∙ here) after-store

      -- and else it is passed
      pub none-from : passing test (bytes_done (entry_in f.entries older).stage) ≡ None → (i : ℕ) → older ≤ i → bytes_at i ≡ None
      none-from here i from = elim (cases_lt older i) [ inl lt ↦ after-store i lt | inr le ↦ (let same : i ≡ older = omega (arith, le, from) in ap bytes_at same ∙ at-store ∙ here) ]

-- where no renamed entry is a completed store, a load at any place is clear
pub clear-without : (f : Flight) (place : ℕ) → IsRenamedPlace f place → f.renamed ≤ 64 → NoneRenamedBelow is_completed_store f 64 → (s : Span) → is_clear_in (stores_of f.entries) (entry_in f.entries place).stamp s ≡ true
clear-without f place at few none s =
    rw (newest-without (λ b. shares b.span s) f place at place (omega arith) (none-older (λ b. shares b.span s) f place at) (λ i below renamed. none i (omega (arith, renamed, few)) renamed)) refl

-- what holds where there is none
pub where-none : (o : Option ℕ) (P : Type 0) (Q : ℕ → Type 0) (b : Bool) → is_some o ≡ not b → IsTrue b → MatchOption o P Q → P
where-none None P Q b is t m = m
where-none (Some x) P Q true is t m = absurd cc
where-none (Some x) P Q false is t m = absurd (let bad : false ≡ true = t in cc)

-- The oldest load that is younger than a stamp and shares a byte with a store, by the places of the entries.
use Rattle.std.proofs.Common.{◌≡◌, ℕ, zero, suc, ◌+◌, ◌<◌, ◌≤◌, Bool, true, false, ◌&&◌, List, [], ◌∷◌, Option, Some, None, refl, sym, ap, ◌∙◌, arith, inl, inr, true≢false}
use Rattle.std.specs.Prelude.{nat_lt, not, if◌then◌else◌, option_map, find}
use Rattle.std.specs.List.{cons_option}
use Rattle.std.specs.Option.{option_map_or}
use Rattle.std.proofs.lemmas.Bool.{and_right, lt-ltb, le-ltb, cases_lt}
use Rattle.core_view.specs.declared.span.Bytes.{Bytes}
use Rattle.core_view.specs.declared.entry.Entry.{Entry}
use Rattle.core_view.specs.declared.entry.Stage.{Stage}
use Rattle.core_view.specs.declared.entry.Stage.TheVariants.{Fetched, Queued, Issued, Done}
use Rattle.core_view.specs.Operations.{is_load}
use Rattle.core_view.specs.Flight.{is_queued, span_read, touches}
use Rattle.core_view.specs.Queues.{LoadSlot, is_renamed, load_slot, loads_of, conflict_in}
use Rattle.flight.specs.Flights.{Flight, entry_in, IsNextRenamed, NoneRenamedFrom}
use Rattle.flight.specs.Marked.{is_issued_load}
use Rattle.load_store_queue.proofs.SlotKinds.{both-true}
use Rattle.load_store_queue.proofs.RenamedPlace.{IsRenamedPlace, stamp-before, stamp-from, is-renamed, not-renamed}

-- a store that stops shares a byte with no load
pub conflict-of-none : (xs : List LoadSlot) (k : ℕ) (b : Option Bytes) → b ≡ None → None ≡ conflict_in xs k b
conflict-of-none [] k b is = refl
conflict-of-none (x ∷ xs) k b is =
    let apart : touches b x.span ≡ false = rw is refl in
    rw (and_right (nat_lt k x.stamp) (touches b x.span) apart) (conflict-of-none xs k b is)

module _ (k : ℕ) (b : Bytes) where
  -- an entry is a renamed load that is younger than the stamp and shares a byte with these
  abbrev pub conflicts : Entry → Bool
  conflicts e = option_map_or (λ (q : LoadSlot). nat_lt k q.stamp && touches (Some b) q.span) (load_slot e) false

  -- it is passed, or it is the oldest
  conflict_in-cons_option : (e : Entry) (qs : List LoadSlot) (t : Bool) → conflicts e ≡ t → conflict_in (cons_option (load_slot e) qs) k (Some b) ≡ (if t then Some e.stamp else conflict_in qs k (Some b))
  conflict_in-cons_option e qs t is = go (is_load e.operation && is_renamed e.stage) is
    where
      slot : LoadSlot
      slot = record { stamp = e.stamp; span = span_read e.stage }

      own : (u : Bool) → u ≡ t → option_map (λ (q : LoadSlot). q.stamp) (if u then Some slot else find (λ q. nat_lt k q.stamp && touches (Some b) q.span) qs) ≡ (if t then Some e.stamp else conflict_in qs k (Some b))
      own true same = rw (sym same) refl
      own false same = rw (sym same) refl

      go : (p : Bool) → option_map_or (λ (q : LoadSlot). nat_lt k q.stamp && touches (Some b) q.span) (if p then Some slot else None) false ≡ t
          → conflict_in (cons_option (if p then Some slot else None) qs) k (Some b) ≡ (if t then Some e.stamp else conflict_in qs k (Some b))
      go true same = own (nat_lt k e.stamp && touches (Some b) (span_read e.stage)) same
      go false same = rw (sym same) refl

  -- there is none where no entry conflicts
  conflict-none : (es : List Entry) → ((i : ℕ) → conflicts (entry_in es i) ≡ false) → conflict_in (loads_of es) k (Some b) ≡ None
  conflict-none [] none = refl
  conflict-none (e ∷ es) none = conflict_in-cons_option e (loads_of es) false (none 0) ∙ conflict-none es (λ i. none (suc i))

  -- it is the first entry that does
  conflict-first : (es : List Entry) (i : ℕ) → conflicts (entry_in es i) ≡ true → ((j : ℕ) → j < i → conflicts (entry_in es j) ≡ false) → conflict_in (loads_of es) k (Some b) ≡ Some (entry_in es i).stamp
  conflict-first [] i here none = absurd (true≢false (sym here))
  conflict-first (e ∷ es) zero here none = conflict_in-cons_option e (loads_of es) true here
  conflict-first (e ∷ es) (suc i) here none = conflict_in-cons_option e (loads_of es) false (none 0 (omega arith)) ∙ conflict-first es i here (λ j lt. none (suc j) (omega (arith, lt)))

  load-younger : (e : Entry) → is_load e.operation ≡ true → is_renamed e.stage ≡ true → k < e.stamp → conflicts e ≡ touches (Some b) (span_read e.stage)
  load-younger e load renamed younger = rw (load, renamed, lt-ltb k e.stamp younger) refl

  -- what is no issued load has none
  not-issued : (e : Entry) → is_issued_load e ≡ false → conflicts e ≡ false
  not-issued e other = go (is_load e.operation) e.stage other
    where
      go : (load : Bool) (s : Stage) → (load && not (is_queued s)) ≡ false → option_map_or (λ (q : LoadSlot). nat_lt k q.stamp && touches (Some b) q.span) (if load && is_renamed s then Some (record { stamp = e.stamp; span = span_read s }) else None) false ≡ false
      go false s h = refl
      go true Fetched h = refl
      go true Queued h = and_right (nat_lt k e.stamp) false refl
      go true (Issued x) h = absurd cc
      go true (Done x) h = absurd cc

  unplaced : (e : Entry) → is_renamed e.stage ≡ false → conflicts e ≡ false
  unplaced e waits = rw (and_right (is_load e.operation) (is_renamed e.stage) waits) refl

  not-younger : (e : Entry) → e.stamp ≤ k → conflicts e ≡ false
  not-younger e le = go (is_load e.operation && is_renamed e.stage)
    where
      go : (p : Bool) → option_map_or (λ (q : LoadSlot). nat_lt k q.stamp && touches (Some b) q.span) (if p then Some (record { stamp = e.stamp; span = span_read e.stage }) else None) false ≡ false
      go true = rw (le-ltb k e.stamp le) refl
      go false = refl

-- ---- a look from a place up

module _ (b : Bytes) (f : Flight) (place : ℕ) (at : IsRenamedPlace f place) where
  abbrev pub conflicts_at : ℕ → Bool
  conflicts_at i = conflicts (entry_in f.entries place).stamp b (entry_in f.entries i)

  -- up to the place none is younger
  pub none-younger : (i : ℕ) → i < place + 1 → conflicts_at i ≡ false
  none-younger i upto = not-younger (entry_in f.entries place).stamp b (entry_in f.entries i) (stamp-from f place at i place (omega (arith, upto)) at.renamed)

  no-load : (i : ℕ) → is_issued_load (entry_in f.entries i) ≡ false → conflicts_at i ≡ false
  no-load i other = not-issued (entry_in f.entries place).stamp b (entry_in f.entries i) other

  module _ (from : ℕ) (past : (i : ℕ) → i < from → conflicts_at i ≡ false) where
    -- no issued load is left
    pub conflict-without : NoneRenamedFrom is_issued_load f from → conflict_in (loads_of f.entries) (entry_in f.entries place).stamp (Some b) ≡ None
    conflict-without none = conflict-none (entry_in f.entries place).stamp b f.entries (λ i. elim (cases_lt i from) [
      | inl lt ↦ past i lt
      | inr ge ↦ elim (cases_lt i f.renamed) [ inl lt ↦ no-load i (none i ge lt) | inr over ↦ unplaced (entry_in f.entries place).stamp b (entry_in f.entries i) (not-renamed f place at i over) ]
    ])

    module _ (behind : place < from) (younger : ℕ) (next : IsNextRenamed is_issued_load f from younger) where
      before-load : (i : ℕ) → i < younger → conflicts_at i ≡ false
      before-load i before = elim (cases_lt i from) [ inl lt ↦ past i lt | inr ge ↦ no-load i (next.first i ge before) ]

      at-load : conflicts_at younger ≡ touches (Some b) (span_read (entry_in f.entries younger).stage)
      at-load = load-younger (entry_in f.entries place).stamp b (entry_in f.entries younger)
          (both-true (is_load (entry_in f.entries younger).operation) (not (is_queued (entry_in f.entries younger).stage)) next.passes)
          (is-renamed f place at younger next.renamed)
          (stamp-before f place at place younger (let after = next.after in omega (arith, after, behind)) next.renamed)

      -- the first issued load that is left is the oldest, where it shares a byte with these
      pub conflict-there : touches (Some b) (span_read (entry_in f.entries younger).stage) ≡ true → conflict_in (loads_of f.entries) (entry_in f.entries place).stamp (Some b) ≡ Some (entry_in f.entries younger).stamp
      conflict-there here = conflict-first (entry_in f.entries place).stamp b f.entries younger (at-load ∙ here) before-load

      -- and else it is passed
      pub none-upto : touches (Some b) (span_read (entry_in f.entries younger).stage) ≡ false → (i : ℕ) → i < younger + 1 → conflicts_at i ≡ false
      none-upto here i upto = elim (cases_lt i younger) [ inl lt ↦ before-load i lt | inr ge ↦ (let same : i ≡ younger = omega (arith, ge, upto) in ap conflicts_at same ∙ at-load ∙ here) ]

-- where no load behind the place has issued, none conflicts, whatever bytes these are
pub conflict-unread : (o : Option Bytes) (f : Flight) (place : ℕ) → IsRenamedPlace f place → NoneRenamedFrom is_issued_load f (place + 1) → conflict_in (loads_of f.entries) (entry_in f.entries place).stamp o ≡ None
conflict-unread None f place at none = sym (conflict-of-none (loads_of f.entries) (entry_in f.entries place).stamp None refl)
conflict-unread (Some b) f place at none = conflict-without b f place at (place + 1) (none-younger b f place at) none

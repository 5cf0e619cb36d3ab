-- What the sources of an instruction at a place give.
use Rattle.std.proofs.Common.{◌≡◌, ℕ, ◌<◌, Bool, true, false, not, List, length, get_or, slice_get, Option, Some, None, refl, sym, ap, subst, ◌∙◌}
use Rattle.std.specs.Prelude.{IsSome}
use Rattle.std.specs.Option.{option_map}
use Rattle.std.proofs.lemmas.Option.{get_or_from_slice_get, slice_get_within}
use Rattle.rename_file.specs.File.{bank}
use Rattle.circular_buffer.specs.Buffer.{Buffer}
use Rattle.core_view.specs.Flight.{source_value}
use Rattle.data_flow.specs.declared.operands.Renamed.{Renamed}
use Rattle.data_flow.specs.declared.operands.Slot.{Slot}
use Rattle.data_flow.specs.declared.data_flow.DataFlow.TheInside.{Inside}
use Rattle.data_flow.specs.Flow.{Lane, Flow, lane, seen_at, both, sources_at}
use Rattle.data_flow.specs.Slots.{slot_of}
use Rattle.data_flow.specs.Wired.{cell_of, flow, IsWiredUp}
use Rattle.data_flow.proofs.Ties.{Reads, reads}
use Rattle.data_flow.proofs.Cells.{sources_used, used_is_cell}
use Rattle.data_flow.proofs.Places.{Here, here}

-- ---- an instruction that was found

-- the instruction that was found at a place
pub record IsAt (found : Buffer Renamed) (i : ℕ) (n : Renamed) : Type 0 where
  pub within : i < length found.items
  pub is : get_or found.items i n ≡ n

pub is_at : (found : Buffer Renamed) (i : ℕ) (n : Renamed) → slice_get found.items i ≡ Some n → IsAt found i n
is_at found i n e = record { within = slice_get_within found.items i n e; is = get_or_from_slice_get found.items i n n e }

-- the instruction that a slot was read of
pub record IsRead (item : Option Renamed) (s : Slot) : Type 0 where
  pub renamed : Renamed
  pub there : item ≡ Some renamed
  pub read : slot_of renamed ≡ s

pub is_read : (item : Option Renamed) (s : Slot) → option_map slot_of item ≡ Some s → IsRead item s
is_read None s e = absurd cc
is_read (Some n) s e = record { renamed = n; there = refl; read = cc }

-- the same of the instruction at a place
pub record IsReadAt (found : Buffer Renamed) (i : ℕ) (s : Slot) : Type 0 where
  pub renamed : Renamed
  pub at : IsAt found i renamed
  pub read : slot_of renamed ≡ s

pub read_at : (found : Buffer Renamed) (i : ℕ) (s : Slot) → option_map slot_of (slice_get found.items i) ≡ Some s → IsReadAt found i s
read_at found i s e =
    let item = is_read (slice_get found.items i) s e in
    record { renamed = item.renamed; at = is_at found i item.renamed item.there; read = item.read }

-- ---- its sources

both_is : (a b x y : Option ℕ) → a ≡ x → b ≡ y → both a b ≡ both x y
both_is a b x y e f = cc

-- what they give
pub given : (cells : List (Option ℕ)) (l : Lane) (i : ℕ) (n : Renamed) → Reads cells l i n → sources_at l i ≡ both (cell_of cells n.first) (cell_of cells n.second)
given cells l i n r = rw r.operands (both_is (source_value (seen_at l i) n.operands.first) (source_value (seen_at l i) n.operands.second) (cell_of cells n.first) (cell_of cells n.second) (sym r.first) (sym r.second))

-- the sources of the instruction at a place are cells, which hold what is seen
pub record HasSources (cells : List (Option ℕ)) (l : Lane) (i : ℕ) (s : Slot) : Type 0 where
  pub first_is_cell : s.first < length cells
  pub second_is_cell : s.second < length cells
  pub given : sources_at l i ≡ both (cell_of cells s.first) (cell_of cells s.second)

pub has_sources : {A : Type 0} (d : Inside A) (now : Flow) (c k i : ℕ) (found : Buffer Renamed) (s : Slot) → IsWiredUp d → Here d now c k found → IsReadAt found i s → HasSources d.registers.cells (lane now c) i s
has_sources d now c k i found s up h slot =
    let n : Renamed = slot.renamed in
    let at = slot.at in
    let used = sources_used d.registers.cells (bank d.registers c) found i n h.tied h.settled.wide at.within in
    let read = reads d.registers.cells (bank d.registers c) found i n h.tied h.settled at.within in
    subst (HasSources d.registers.cells (lane now c) i) slot.read (record {
      first_is_cell = used_is_cell d.registers c n.first up.file h.in_banks (rw at.is at used.first);
      second_is_cell = used_is_cell d.registers c n.second up.file h.in_banks (rw at.is at used.second);
      given = given d.registers.cells (lane now c) i n (rw h.lane_is (rw at.is at read));
    })

-- the same of a call that finds the instruction by the context's number
pub sources_found : {A : Type 0} (d : Inside A) (now : Flow) (c k i : ℕ) (e : Buffer Renamed) (s : Slot) → flow d ≡ now → IsWiredUp d → k ≡ c → k < 8 → option_map slot_of (slice_get (get_or d.renamed k e).items i) ≡ Some s → HasSources d.registers.cells (lane now c) i s
sources_found d now c k i e s shows up index below there =
    has_sources d now c k i (get_or d.renamed k e) s up (here d now c k e shows up index below) (read_at (get_or d.renamed k e) i s there)

both_none : (a : Option ℕ) → both a None ≡ None
both_none None = refl
both_none (Some v) = refl

none_first : (cells : List (Option ℕ)) (l : Lane) (i : ℕ) (s : Slot) → HasSources cells l i s → cell_of cells s.first ≡ None → sources_at l i ≡ None
none_first cells l i s has e = has.given ∙ ap (λ a. both a (cell_of cells s.second)) e

none_second : (cells : List (Option ℕ)) (l : Lane) (i : ℕ) (s : Slot) → HasSources cells l i s → cell_of cells s.second ≡ None → sources_at l i ≡ None
none_second cells l i s has e = has.given ∙ ap (both (cell_of cells s.first)) e ∙ both_none (cell_of cells s.first)

some_both : (cells : List (Option ℕ)) (l : Lane) (i a b : ℕ) (s : Slot) → HasSources cells l i s → cell_of cells s.first ≡ Some a → cell_of cells s.second ≡ Some b → sources_at l i ≡ Some (a, b)
some_both cells l i a b s has e f = has.given ∙ ap (λ x. both x (cell_of cells s.second)) e ∙ ap (both (Some a)) f

both_there : (a b : Option ℕ) → IsSome (both a b) → IsSome a × IsSome b
both_there None b some = absurd cc
both_there (Some a) None some = absurd cc
both_there (Some a) (Some b) some = (refl, refl)

-- where both values are there, each register has its own
pub each_there : (cells : List (Option ℕ)) (l : Lane) (i : ℕ) (s : Slot) → HasSources cells l i s → IsSome (sources_at l i) → IsSome (cell_of cells s.first) × IsSome (cell_of cells s.second)
each_there cells l i s has some = both_there (cell_of cells s.first) (cell_of cells s.second) (subst IsSome has.given some)

-- the same of what was answered
pub missing_first : (cells : List (Option ℕ)) (l : Lane) (i : ℕ) (s : Slot) (answer : Option (ℕ × ℕ)) → HasSources cells l i s → None ≡ cell_of cells s.first → answer ≡ None → answer ≡ sources_at l i
missing_first cells l i s answer has e is = is ∙ sym (none_first cells l i s has (sym e))

pub missing_second : (cells : List (Option ℕ)) (l : Lane) (i : ℕ) (s : Slot) (answer : Option (ℕ × ℕ)) → HasSources cells l i s → None ≡ cell_of cells s.second → answer ≡ None → answer ≡ sources_at l i
missing_second cells l i s answer has e is = is ∙ sym (none_second cells l i s has (sym e))

pub found_both : (cells : List (Option ℕ)) (l : Lane) (i a b : ℕ) (s : Slot) → HasSources cells l i s → Some a ≡ cell_of cells s.first → Some b ≡ cell_of cells s.second → Some (a, b) ≡ sources_at l i
found_both cells l i a b s has e f = sym (some_both cells l i a b s has (sym e) (sym f))

-- ---- whether it has a destination

pub not_true : (b : Bool) → not b ≡ true → b ≡ false
not_true true e = absurd cc
not_true false e = refl

pub not_false : (b : Bool) → not b ≡ false → b ≡ true
not_false true e = refl
not_false false e = absurd cc

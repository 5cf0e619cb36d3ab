-- The loads and the stores of a flight, after each event.
use Rattle.std.proofs.Common.{◌≡◌, ◌≢◌, ℕ, zero, suc, ◌+◌, ◌<◌, ◌≤◌, Bool, true, false, ◌&&◌, cond, List, [], ◌∷◌, ◌++◌, length, get_or, drop, map, Option, Some, None, refl, sym, ap, ◌∙◌, arith}
use Rattle.std.specs.Prelude.{set, nat_lt, filter_map, if◌then◌else◌}
use Rattle.std.specs.List.{cons_option}
use Rattle.std.proofs.lemmas.Bool.{and_right, eq-eqb, ne_eqb, le-ltb}
use Rattle.reorder_buffer.specs.Growing.{IsGrowing as IsRising, below}
use Rattle.rv64_decode.specs.declared.insn.Insn.{Insn}
use Rattle.rv64_decode.specs.declared.insn.Insn.TheVariants.{Store}
use Rattle.core_view.specs.declared.operation.Operation.{Operation}
use Rattle.core_view.specs.declared.operation.Operation.TheVariants as operation
use Rattle.core_view.specs.declared.span.Bytes.{Bytes}
use Rattle.core_view.specs.declared.span.Span.{Span}
use Rattle.core_view.specs.declared.entry.Execution.{Execution}
use Rattle.core_view.specs.declared.entry.Stage.TheVariants.{Queued, Issued}
use Rattle.core_view.specs.declared.entry.Entry.{Entry}
use Rattle.core_view.specs.Operations.{is_load, is_load_insn, is_store, is_store_insn}
use Rattle.core_view.specs.Flight.{IsGrowing, span_in, span_read, bytes_in, bytes_done}
use Rattle.core_view.specs.Queues.{is_renamed, LoadSlot, StoreSlot, load_slot, store_slot, loads_of, stores_of}
use Rattle.core_view.specs.Events.{with_stage, renamed_stage, completed_entry}
use Rattle.core_view.specs.View.{no_entry}
use Rattle.core_view.proofs.Growing.{growing_whole}
use Rattle.load_store_queue.specs.Queues.{load_stamp, store_stamp, with_span, slot_with_bytes, without_oldest}

-- ---- stamps that grow

stamp_from : (low : ℕ) (es : List Entry) (i : ℕ) (d : Entry) → i < length es → IsGrowing low es → low ≤ (get_or es i d).stamp
stamp_from low [] i d lt g = absurd (omega arith)
stamp_from low (e ∷ es) zero d lt g = g.0
stamp_from low (e ∷ es) (suc i) d lt g = let from = g.0 in omega (arith, from, stamp_from (e.stamp + 1) es i d (omega arith) g.1)

-- ---- the slots of a flight: some entries have one, with their stamp

module _ {Q : Type 0} (slot : Entry → Option Q) (stamp : Q → ℕ) (own : (e : Entry) (q : Q) → slot e ≡ Some q → stamp q ≡ e.stamp) where
  -- an entry with the same slot
  set_same : (es : List Entry) (i : ℕ) (d e : Entry) → slot e ≡ slot (get_or es i d) → filter_map slot (set es i e) ≡ filter_map slot es
  set_same [] i d e same = refl
  set_same (f ∷ es) zero d e same = rw same refl
  set_same (f ∷ es) (suc i) d e same = ap (cons_option (slot f)) (set_same es i d e same)

  map_past : (change : Q → Q) (k low : ℕ) (es : List Entry) → k < low → IsGrowing low es → ((p : Q) → stamp p ≢ k → change p ≡ p) → map change (filter_map slot es) ≡ filter_map slot es
  map_past change k low [] lt g others = refl
  map_past change k low (e ∷ es) lt g others = let from = g.0 in go (slot e) refl (map_past change k (e.stamp + 1) es (omega (arith, from)) g.1 others)
    where
      go : (o : Option Q) → slot e ≡ o → map change (filter_map slot es) ≡ filter_map slot es → map change (cons_option o (filter_map slot es)) ≡ cons_option o (filter_map slot es)
      go None is ih = ih
      go (Some q) is ih =
          let from = g.0 in
          let differ : stamp q ≢ k = λ same. omega (arith, from, own e q is, same) in
          rw (others q differ, ih) refl

  -- an entry with another slot
  set_slot : (change : Q → Q) (low : ℕ) (es : List Entry) (i : ℕ) (d e : Entry) (old new : Q) → i < length es → IsGrowing low es → slot (get_or es i d) ≡ Some old → slot e ≡ Some new → change old ≡ new
      → ((p : Q) → stamp p ≢ (get_or es i d).stamp → change p ≡ p) → filter_map slot (set es i e) ≡ map change (filter_map slot es)
  set_slot change low [] i d e old new lt g was is becomes others = absurd (omega arith)
  set_slot change low (f ∷ es) zero d e old new lt g was is becomes others = rw (was, is, becomes, map_past change f.stamp (f.stamp + 1) es (omega arith) g.1 others) refl
  set_slot change low (f ∷ es) (suc i) d e old new lt g was is becomes others = go (slot f) refl (set_slot change (f.stamp + 1) es i d e old new (omega arith) g.1 was is becomes others)
    where
      go : (o : Option Q) → slot f ≡ o → filter_map slot (set es i e) ≡ map change (filter_map slot es) → cons_option o (filter_map slot (set es i e)) ≡ map change (cons_option o (filter_map slot es))
      go None here ih = ih
      go (Some q) here ih =
          let differ : stamp q ≢ (get_or es i d).stamp = λ same. omega (arith, own f q here, same, stamp_from (f.stamp + 1) es i d (omega arith) g.1) in
          rw (others q differ, ih) refl

  -- all from a stamp on leave
  below_slots : (k : ℕ) (es : List Entry) → below stamp k (filter_map slot es) ≡ filter_map slot (below (λ (e : Entry). e.stamp) k es)
  below_slots k [] = refl
  below_slots k (e ∷ es) = go (slot e) (nat_lt e.stamp k) refl refl (below_slots k es)
    where
      go : (o : Option Q) (t : Bool) → slot e ≡ o → nat_lt e.stamp k ≡ t → below stamp k (filter_map slot es) ≡ filter_map slot (below (λ (f : Entry). f.stamp) k es)
          → below stamp k (cons_option o (filter_map slot es)) ≡ filter_map slot (cond t (e ∷ below (λ (f : Entry). f.stamp) k es) (below (λ (f : Entry). f.stamp) k es))
      go None true is at ih = rw is ih
      go None false is at ih = ih
      go (Some q) true is at ih = let kept : nat_lt (stamp q) k ≡ true = ap (λ n. nat_lt n k) (own e q is) ∙ at in rw (kept, is, ih) refl
      go (Some q) false is at ih = let cut : nat_lt (stamp q) k ≡ false = ap (λ n. nat_lt n k) (own e q is) ∙ at in rw cut ih

  -- the oldest of these is younger than a stamp, so that it stays
  younger_stay : (k low : ℕ) (es : List Entry) → k < low → IsGrowing low es → without_oldest stamp k (filter_map slot es) ≡ filter_map slot es
  younger_stay k low [] lt g = refl
  younger_stay k low (e ∷ es) lt g = let from = g.0 in go (slot e) refl (younger_stay k (e.stamp + 1) es (omega (arith, from)) g.1)
    where
      go : (o : Option Q) → slot e ≡ o → without_oldest stamp k (filter_map slot es) ≡ filter_map slot es → without_oldest stamp k (cons_option o (filter_map slot es)) ≡ cons_option o (filter_map slot es)
      go None is ih = ih
      go (Some q) is ih =
          let from = g.0 in
          let differ : stamp q ≢ k = λ same. omega (arith, from, own e q is, same) in
          rw (ne_eqb (stamp q) k differ) refl

  -- the oldest entry leaves, and its slot with it
  oldest_leaves : (low : ℕ) (es : List Entry) (d : Entry) → IsGrowing low es → filter_map slot (drop 1 es) ≡ without_oldest stamp (get_or es 0 d).stamp (filter_map slot es)
  oldest_leaves low [] d g = refl
  oldest_leaves low (e ∷ es) d g = go (slot e) refl
    where
      go : (o : Option Q) → slot e ≡ o → filter_map slot es ≡ without_oldest stamp e.stamp (cons_option o (filter_map slot es))
      go None is = sym (younger_stay e.stamp (e.stamp + 1) es (omega arith) g.1)
      go (Some q) is = rw (eq-eqb (stamp q) e.stamp (own e q is)) refl

  none_of : (es : List Entry) → ((j : ℕ) → slot (get_or es j no_entry) ≡ None) → filter_map slot es ≡ []
  none_of [] none = refl
  none_of (e ∷ es) none = rw (none 0, none_of es (λ j. none (suc j))) refl

  -- the first entry of the end in which none has a slot gets one
  set_last : (es : List Entry) (i : ℕ) (e : Entry) (q : Q) → i < length es → ((j : ℕ) → i ≤ j → slot (get_or es j no_entry) ≡ None) → slot e ≡ Some q → filter_map slot (set es i e) ≡ filter_map slot es ++ q ∷ []
  set_last [] i e q lt none is = absurd (omega arith)
  set_last (f ∷ es) zero e q lt none is = rw (is, none 0 (omega arith), none_of es (λ j. none (suc j) (omega arith))) refl
  set_last (f ∷ es) (suc i) e q lt none is = go (slot f) (set_last es i e q (omega arith) (λ j le. none (suc j) (omega arith)) is)
    where
      go : (o : Option Q) → filter_map slot (set es i e) ≡ filter_map slot es ++ q ∷ [] → cons_option o (filter_map slot (set es i e)) ≡ cons_option o (filter_map slot es) ++ q ∷ []
      go None ih = ih
      go (Some p) ih = ap (λ (qs : List Q). p ∷ qs) ih

-- ---- the loads and the stores

load_own : (e : Entry) (q : LoadSlot) → load_slot e ≡ Some q → q.stamp ≡ e.stamp
load_own e q is = go (is_load e.operation && is_renamed e.stage) is
  where
    placed : LoadSlot
    placed = record { stamp = e.stamp; span = span_read e.stage }

    go : (t : Bool) → (if t then Some placed else None) ≡ Some q → q.stamp ≡ e.stamp
    go true h = let same : placed ≡ q = cc in sym (ap load_stamp same)
    go false h = absurd cc

store_own : (e : Entry) (q : StoreSlot) → store_slot e ≡ Some q → q.stamp ≡ e.stamp
store_own e q is = go (is_store e.operation && is_renamed e.stage) is
  where
    placed : StoreSlot
    placed = record { stamp = e.stamp; bytes = bytes_done e.stage }

    go : (t : Bool) → (if t then Some placed else None) ≡ Some q → q.stamp ≡ e.stamp
    go true h = let same : placed ≡ q = cc in sym (ap store_stamp same)
    go false h = absurd cc

with_span-own : (k : ℕ) (span : Option Span) (q : LoadSlot) → q.stamp ≡ k → with_span k span q ≡ record { stamp = k; span = span }
with_span-own k span q same = rw (eq-eqb q.stamp k same) refl

with_span-other : (k : ℕ) (span : Option Span) (q : LoadSlot) → q.stamp ≢ k → with_span k span q ≡ q
with_span-other k span q differ = rw (ne_eqb q.stamp k differ) refl

slot_with_bytes-own : (k : ℕ) (bytes : Option Bytes) (q : StoreSlot) → q.stamp ≡ k → slot_with_bytes k bytes q ≡ record { stamp = k; bytes = bytes }
slot_with_bytes-own k bytes q same = rw (eq-eqb q.stamp k same) refl

slot_with_bytes-other : (k : ℕ) (bytes : Option Bytes) (q : StoreSlot) → q.stamp ≢ k → slot_with_bytes k bytes q ≡ q
slot_with_bytes-other k bytes q differ = rw (ne_eqb q.stamp k differ) refl

-- what an entry has
load_where : (e : Entry) → is_load e.operation ≡ true → is_renamed e.stage ≡ true → load_slot e ≡ Some (record { stamp = e.stamp; span = span_read e.stage })
load_where e load renamed = rw (load, renamed) refl

store_where : (e : Entry) → is_store e.operation ≡ true → is_renamed e.stage ≡ true → store_slot e ≡ Some (record { stamp = e.stamp; bytes = bytes_done e.stage })
store_where e store renamed = rw (store, renamed) refl

no_load : (e : Entry) → is_load e.operation ≡ false → load_slot e ≡ None
no_load e other = rw other refl

no_store : (e : Entry) → is_store e.operation ≡ false → store_slot e ≡ None
no_store e other = rw other refl

load_ahead : (e : Entry) → is_renamed e.stage ≡ false → load_slot e ≡ None
load_ahead e ahead = rw (and_right (is_load e.operation) (is_renamed e.stage) ahead) refl

store_ahead : (e : Entry) → is_renamed e.stage ≡ false → store_slot e ≡ None
store_ahead e ahead = rw (and_right (is_store e.operation) (is_renamed e.stage) ahead) refl

-- neither stops at fetch, so that it waits for issue once it is renamed
load_waits : (cycle : ℕ) (o : Operation) → is_load o ≡ true → renamed_stage cycle o ≡ Queued
load_waits cycle (operation.Performs insn) load = refl
load_waits cycle (operation.Stops why) load = absurd cc

store_waits : (cycle : ℕ) (o : Operation) → is_store o ≡ true → renamed_stage cycle o ≡ Queued
store_waits cycle (operation.Performs insn) store = refl
store_waits cycle (operation.Stops why) store = absurd cc

-- and as it is renamed, issues and completes
load_placed : (cycle : ℕ) (e : Entry) → is_load e.operation ≡ true → load_slot (with_stage e (renamed_stage cycle e.operation)) ≡ Some (record { stamp = e.stamp; span = None })
load_placed cycle e load = rw (load_waits cycle e.operation load, load) refl

store_placed : (cycle : ℕ) (e : Entry) → is_store e.operation ≡ true → store_slot (with_stage e (renamed_stage cycle e.operation)) ≡ Some (record { stamp = e.stamp; bytes = None })
store_placed cycle e store = rw (store_waits cycle e.operation store, store) refl

load_queued : (e : Entry) → e.stage ≡ Queued → is_load e.operation ≡ true → load_slot e ≡ Some (record { stamp = e.stamp; span = None })
load_queued e queued load = rw (queued, load) refl

store_issued : (e : Entry) (x : Execution) → e.stage ≡ Issued x → is_store e.operation ≡ true → store_slot e ≡ Some (record { stamp = e.stamp; bytes = None })
store_issued e x issued store = rw (issued, store) refl

store_kept_at_issue : (e : Entry) (x : Execution) → e.stage ≡ Queued → store_slot (with_stage e (Issued x)) ≡ store_slot e
store_kept_at_issue e x queued = rw queued refl

load_kept_at_completion : (e : Entry) (x : Execution) → e.stage ≡ Issued x → load_slot (completed_entry e x) ≡ load_slot e
load_kept_at_completion e x issued = rw issued refl

-- no load is a store
pub load_only : (o : Operation) → is_load o ≡ true → is_store o ≡ false
load_only (operation.Performs insn) h = by_insn insn h
  where
    by_insn : (insn : Insn) → is_load_insn insn ≡ true → is_store_insn insn ≡ false
    by_insn (Store width rs1 rs2 immediate) h = absurd cc
    by_insn insn h = refl
load_only (operation.Stops why) h = refl

-- and no store is a load
pub store_only : (o : Operation) → is_store o ≡ true → is_load o ≡ false
store_only o h = by_load (is_load o) refl
  where
    by_load : (b : Bool) → is_load o ≡ b → is_load o ≡ false
    by_load true is = let clash : true ≡ false = sym h ∙ load_only o is in absurd cc
    by_load false is = is

-- ---- events

-- all from a stamp on leave
pub loads_below : (k : ℕ) (es : List Entry) → loads_of (below (λ (e : Entry). e.stamp) k es) ≡ below load_stamp k (loads_of es)
loads_below k es = sym (below_slots load_slot load_stamp load_own k es)

pub stores_below : (k : ℕ) (es : List Entry) → stores_of (below (λ (e : Entry). e.stamp) k es) ≡ below store_stamp k (stores_of es)
stores_below k es = sym (below_slots store_slot store_stamp store_own k es)

module _ (es : List Entry) (rising : IsRising (λ (e : Entry). e.stamp) es) where
  -- the oldest entry leaves
  pub loads_retired : loads_of (drop 1 es) ≡ without_oldest load_stamp (get_or es 0 no_entry).stamp (loads_of es)
  loads_retired = oldest_leaves load_slot load_stamp load_own 0 es no_entry (growing_whole es rising)

  pub stores_retired : stores_of (drop 1 es) ≡ without_oldest store_stamp (get_or es 0 no_entry).stamp (stores_of es)
  stores_retired = oldest_leaves store_slot store_stamp store_own 0 es no_entry (growing_whole es rising)

  -- the load at a place issues
  pub loads_issued : (i : ℕ) (x : Execution) → i < length es → (get_or es i no_entry).stage ≡ Queued → is_load (get_or es i no_entry).operation ≡ true
      → loads_of (set es i (with_stage (get_or es i no_entry) (Issued x))) ≡ map (with_span (get_or es i no_entry).stamp (span_in x.outcome)) (loads_of es)
  loads_issued i x within queued load =
      let e : Entry = get_or es i no_entry in
      let old : LoadSlot = record { stamp = e.stamp; span = None } in
      let new : LoadSlot = record { stamp = e.stamp; span = span_in x.outcome } in
      let was : load_slot e ≡ Some old = load_queued e queued load in
      set_slot load_slot load_stamp load_own (with_span e.stamp (span_in x.outcome)) 0 es i no_entry (with_stage e (Issued x)) old new within (growing_whole es rising) was (load_where (with_stage e (Issued x)) load refl)
      (with_span-own e.stamp (span_in x.outcome) old refl) (with_span-other e.stamp (span_in x.outcome))

  -- the store at a place completes
  pub stores_completed : (i : ℕ) (x : Execution) → i < length es → (get_or es i no_entry).stage ≡ Issued x → is_store (get_or es i no_entry).operation ≡ true
      → stores_of (set es i (completed_entry (get_or es i no_entry) x)) ≡ map (slot_with_bytes (get_or es i no_entry).stamp (bytes_in x.outcome)) (stores_of es)
  stores_completed i x within issued store =
      let e : Entry = get_or es i no_entry in
      let old : StoreSlot = record { stamp = e.stamp; bytes = None } in
      let new : StoreSlot = record { stamp = e.stamp; bytes = bytes_in x.outcome } in
      let was : store_slot e ≡ Some old = store_issued e x issued store in
      set_slot store_slot store_stamp store_own (slot_with_bytes e.stamp (bytes_in x.outcome)) 0 es i no_entry (completed_entry e x) old new within (growing_whole es rising) was (store_where (completed_entry e x) store refl)
      (slot_with_bytes-own e.stamp (bytes_in x.outcome) old refl) (slot_with_bytes-other e.stamp (bytes_in x.outcome))

module _ (es : List Entry) (i : ℕ) where
  pub stores_kept_at_issue : (x : Execution) → (get_or es i no_entry).stage ≡ Queued → stores_of (set es i (with_stage (get_or es i no_entry) (Issued x))) ≡ stores_of es
  stores_kept_at_issue x queued = set_same store_slot store_stamp store_own es i no_entry (with_stage (get_or es i no_entry) (Issued x)) (store_kept_at_issue (get_or es i no_entry) x queued)

  pub loads_kept_at_completion : (x : Execution) → (get_or es i no_entry).stage ≡ Issued x → loads_of (set es i (completed_entry (get_or es i no_entry) x)) ≡ loads_of es
  loads_kept_at_completion x issued = set_same load_slot load_stamp load_own es i no_entry (completed_entry (get_or es i no_entry) x) (load_kept_at_completion (get_or es i no_entry) x issued)

  module _ (cycle : ℕ) where
    -- the oldest fetched entry is renamed, a load
    pub loads_renamed : i < length es → ((j : ℕ) → is_renamed (get_or es j no_entry).stage ≡ nat_lt j i) → is_load (get_or es i no_entry).operation ≡ true
        → loads_of (set es i (with_stage (get_or es i no_entry) (renamed_stage cycle (get_or es i no_entry).operation))) ≡ loads_of es ++ record { stamp = (get_or es i no_entry).stamp; span = None } ∷ []
    loads_renamed within oldest load =
        let e : Entry = get_or es i no_entry in
        set_last load_slot load_stamp load_own es i (with_stage e (renamed_stage cycle e.operation)) (record { stamp = e.stamp; span = None }) within (λ j le. load_ahead (get_or es j no_entry) (oldest j ∙ le-ltb j i le)) (load_placed cycle e load)

    -- a store
    pub stores_renamed : i < length es → ((j : ℕ) → is_renamed (get_or es j no_entry).stage ≡ nat_lt j i) → is_store (get_or es i no_entry).operation ≡ true
        → stores_of (set es i (with_stage (get_or es i no_entry) (renamed_stage cycle (get_or es i no_entry).operation))) ≡ stores_of es ++ record { stamp = (get_or es i no_entry).stamp; bytes = None } ∷ []
    stores_renamed within oldest store =
        let e : Entry = get_or es i no_entry in
        set_last store_slot store_stamp store_own es i (with_stage e (renamed_stage cycle e.operation)) (record { stamp = e.stamp; bytes = None }) within (λ j le. store_ahead (get_or es j no_entry) (oldest j ∙ le-ltb j i le)) (store_placed cycle e store)

    -- no load
    pub loads_kept_at_rename : is_load (get_or es i no_entry).operation ≡ false → loads_of (set es i (with_stage (get_or es i no_entry) (renamed_stage cycle (get_or es i no_entry).operation))) ≡ loads_of es
    loads_kept_at_rename other =
        let e : Entry = get_or es i no_entry in
        let n : Entry = with_stage e (renamed_stage cycle e.operation) in
        set_same load_slot load_stamp load_own es i no_entry n (no_load n other ∙ sym (no_load e other))

    -- no store
    pub stores_kept_at_rename : is_store (get_or es i no_entry).operation ≡ false → stores_of (set es i (with_stage (get_or es i no_entry) (renamed_stage cycle (get_or es i no_entry).operation))) ≡ stores_of es
    stores_kept_at_rename other =
        let e : Entry = get_or es i no_entry in
        let n : Entry = with_stage e (renamed_stage cycle e.operation) in
        set_same store_slot store_stamp store_own es i no_entry n (no_store n other ∙ sym (no_store e other))

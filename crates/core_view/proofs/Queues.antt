-- The queues say by stamps what the flight says by places.
use Rattle.std.proofs.Common.{◌≡◌, ℕ, zero, suc, ◌+◌, ◌<◌, ◌≤◌, Bool, true, false, ◌&&◌, cond, List, [], ◌∷◌, length, get_or, take, drop, Option, Some, None, refl, sym, ap, ◌∙◌, arith}
use Rattle.std.specs.Prelude.{nat_lt, if◌then◌else◌, option_map, find}
use Rattle.std.specs.List.{cons_option}
use Rattle.std.specs.Option.{option_or}
use Rattle.std.proofs.Math.Path.{fun_ext}
use Rattle.std.proofs.lemmas.Bool.{lt-ltb, le-ltb}
use Rattle.std.proofs.lemmas.Bool.Decides.{nat_tests}
use Rattle.core_view.specs.declared.span.Span.{Span}
use Rattle.core_view.specs.declared.span.Bytes.{Bytes}
use Rattle.core_view.specs.declared.operation.Operation.{Operation}
use Rattle.core_view.specs.declared.entry.Stage.{Stage}
use Rattle.core_view.specs.declared.entry.Stage.TheVariants.{Fetched, Queued, Issued, Done}
use Rattle.core_view.specs.declared.entry.Entry.{Entry}
use Rattle.core_view.specs.Operations.{is_load, is_store}
use Rattle.core_view.specs.Outcomes.{Image}
use Rattle.core_view.specs.Flight.{Seen, seen_after, span_read, bytes_done, touches, before_touch, HasOutcome, IsSound, IsGrowing}
use Rattle.core_view.specs.Spans.{contains, shares, number_in}
use Rattle.core_view.specs.Loads.{newest, byte_from, is_clear_of, is_clear, seen_value}
use Rattle.core_view.specs.Queues.{is_renamed, StoreSlot, LoadSlot, stores_of, loads_of, newest_in, is_clear_in, value_seen_in, conflict_in, conflict_of, older, younger, cut_from}
use Rattle.core_view.proofs.Accesses.{stage_span, stage_bytes, none_touched}

-- ---- stamps and places

older_none : (k low : ℕ) (es : List Entry) → k ≤ low → IsGrowing low es → older k es ≡ []
older_none k low [] le g = refl
older_none k low (e ∷ es) le g =
    let from = g.0 in
    let past : nat_lt e.stamp k ≡ false = le-ltb e.stamp k (omega (arith, from)) in
    rw past (older_none k (e.stamp + 1) es (omega (arith, from)) g.1)

younger_all : (k low : ℕ) (es : List Entry) → k < low → IsGrowing low es → younger k es ≡ es
younger_all k low [] lt g = refl
younger_all k low (e ∷ es) lt g =
    let from = g.0 in
    let past : nat_lt k e.stamp ≡ true = lt-ltb k e.stamp (omega (arith, from)) in
    rw past (ap (λ fs. e ∷ fs) (younger_all k (e.stamp + 1) es (omega (arith, from)) g.1))

stamp_from : (low : ℕ) (es : List Entry) (i : ℕ) (d : Entry) → i < length es → IsGrowing low es → low ≤ (get_or es i d).stamp
stamp_from low [] i d lt g = absurd (omega arith)
stamp_from low (e ∷ es) zero d lt g = g.0
stamp_from low (e ∷ es) (suc i) d lt g = let from = g.0 in omega (arith, from, stamp_from (e.stamp + 1) es i d (omega arith) g.1)

-- the entries older than the one at a place are those before it
pub older_take : (low : ℕ) (es : List Entry) (i : ℕ) (d : Entry) → i < length es → IsGrowing low es → older (get_or es i d).stamp es ≡ take i es
older_take low [] i d lt g = absurd (omega arith)
older_take low (e ∷ es) zero d lt g = rw (le-ltb e.stamp e.stamp (omega arith)) (older_none e.stamp (e.stamp + 1) es (omega arith) g.1)
older_take low (e ∷ es) (suc i) d lt g =
    let below : nat_lt e.stamp (get_or es i d).stamp ≡ true = lt-ltb e.stamp (get_or es i d).stamp (omega (arith, stamp_from (e.stamp + 1) es i d (omega arith) g.1)) in
    rw below (ap (λ fs. e ∷ fs) (older_take (e.stamp + 1) es i d (omega arith) g.1))

-- and the younger ones those after it
pub younger_drop : (low : ℕ) (es : List Entry) (i : ℕ) (d : Entry) → i < length es → IsGrowing low es → younger (get_or es i d).stamp es ≡ drop (suc i) es
younger_drop low [] i d lt g = absurd (omega arith)
younger_drop low (e ∷ es) zero d lt g = rw (le-ltb e.stamp e.stamp (omega arith)) (younger_all e.stamp (e.stamp + 1) es (omega arith) g.1)
younger_drop low (e ∷ es) (suc i) d lt g =
    let from = stamp_from (e.stamp + 1) es i d (omega arith) g.1 in
    let past : nat_lt (get_or es i d).stamp e.stamp ≡ false = le-ltb (get_or es i d).stamp e.stamp (omega (arith, from)) in
    rw past (younger_drop (e.stamp + 1) es i d (omega arith) g.1)

-- ---- the stores that a load sees

none_last : (n : Option Bytes) → option_or n None ≡ n
none_last None = refl
none_last (Some b) = refl

-- without a place among the stores there are no bytes
unplaced_bytes : (image : Image) (seen : Seen) (o : Operation) (pc : ℕ) (stage : Stage) → (is_store o && is_renamed stage) ≡ false → HasOutcome image seen o pc stage → bytes_done stage ≡ None
unplaced_bytes image seen o pc Fetched h out = refl
unplaced_bytes image seen o pc Queued h out = refl
unplaced_bytes image seen o pc (Issued execution) h out = refl
unplaced_bytes image seen o pc (Done execution) h out = stage_bytes image seen o pc (Done execution) (grind (arith, nat_tests, h)) out

newest_older : (test : Bytes → Bool) (image : Image) (seen : Seen) (pc : ℕ) (es : List Entry) (k : ℕ) → IsSound image seen pc es → newest_in test (stores_of es) k ≡ newest test (older k es)
newest_older test image seen pc [] k h = refl
newest_older test image seen pc (e ∷ es) k h = go (is_store e.operation && is_renamed e.stage) (nat_lt e.stamp k) refl refl (newest_older test image (seen_after seen e) e.followed es k h.2)
  where
    slot : StoreSlot
    slot = record { stamp = e.stamp; bytes = bytes_done e.stage }

    go : (t u : Bool) → (is_store e.operation && is_renamed e.stage) ≡ t → nat_lt e.stamp k ≡ u → newest_in test (stores_of es) k ≡ newest test (older k es)
        → newest_in test (cons_option (if t then Some slot else None) (stores_of es)) k ≡ newest test (cond u (e ∷ older k es) (older k es))
    go true true p q ih = rw (q, ih) refl
    go true false p q ih = rw (q, ih) (none_last (newest test (older k es)))
    go false true p q ih =
        let none : bytes_done e.stage ≡ None = unplaced_bytes image seen e.operation e.pc e.stage p h.0.outcome in
        rw (none, ih) (sym (none_last (newest test (older k es))))
    go false false p q ih = ih

-- the newest store of the queue that passes a test, asked at the stamp of the entry at a place, is the flight's before it
pub queue_newest : (test : Bytes → Bool) (image : Image) (seen : Seen) (pc low : ℕ) (es : List Entry) (i : ℕ) (d : Entry) → i < length es → IsGrowing low es → IsSound image seen pc es
    → newest_in test (stores_of es) (get_or es i d).stamp ≡ newest test (take i es)
queue_newest test image seen pc low es i d lt g h = newest_older test image seen pc es (get_or es i d).stamp h ∙ ap (λ fs. newest test fs) (older_take low es i d lt g)

-- so a load is clear in the queue where it is in the flight
pub queue_clear : (image : Image) (seen : Seen) (pc low : ℕ) (es : List Entry) (i : ℕ) (d : Entry) (s : Span) → i < length es → IsGrowing low es → IsSound image seen pc es
    → is_clear_in (stores_of es) (get_or es i d).stamp s ≡ is_clear (take i es) s
queue_clear image seen pc low es i d s lt g h = ap (λ (n : Option Bytes). is_clear_of n s) (queue_newest (λ b. shares b.span s) image seen pc low es i d lt g h)

-- and the number that is seen is the same
pub queue_value : (image : Image) (seen : Seen) (pc low : ℕ) (memory : ℕ → ℕ) (es : List Entry) (i : ℕ) (d : Entry) (s : Span) → i < length es → IsGrowing low es → IsSound image seen pc es
    → value_seen_in memory (stores_of es) (get_or es i d).stamp s ≡ seen_value memory (take i es) s
queue_value image seen pc low memory es i d s lt g h =
    ap (λ (bytes : ℕ → ℕ). number_in bytes s) (fun_ext (λ x. ap (λ (n : Option Bytes). byte_from memory n x) (queue_newest (λ b. contains b.span x) image seen pc low es i d lt g h)))

-- ---- the oldest conflict

-- without a place among the loads nothing was read
unplaced_span : (image : Image) (seen : Seen) (o : Operation) (pc : ℕ) (stage : Stage) → (is_load o && is_renamed stage) ≡ false → HasOutcome image seen o pc stage → span_read stage ≡ None
unplaced_span image seen o pc Fetched h out = refl
unplaced_span image seen o pc Queued h out = refl
unplaced_span image seen o pc (Issued execution) h out = stage_span image seen o pc (Issued execution) (grind (arith, nat_tests, h)) out
unplaced_span image seen o pc (Done execution) h out = stage_span image seen o pc (Done execution) (grind (arith, nat_tests, h)) out

conflict_younger : (image : Image) (seen : Seen) (pc : ℕ) (es : List Entry) (k : ℕ) (b : Option Bytes) → IsSound image seen pc es → conflict_in (loads_of es) k b ≡ conflict_of (younger k es) b
conflict_younger image seen pc [] k b h = refl
conflict_younger image seen pc (e ∷ es) k b h = go (is_load e.operation && is_renamed e.stage) (nat_lt k e.stamp) refl refl (conflict_younger image (seen_after seen e) e.followed es k b h.2)
  where
    slot : LoadSlot
    slot = record { stamp = e.stamp; span = span_read e.stage }

    by_touch : (t : Bool) → conflict_in (loads_of es) k b ≡ conflict_of (younger k es) b
        → option_map (λ q. q.stamp) (cond t (Some slot) (find (λ q. nat_lt k q.stamp && touches b q.span) (loads_of es))) ≡ option_map (λ f. f.stamp) (cond t (Some e) (find (λ f. touches b (span_read f.stage)) (younger k es)))
    by_touch true ih = refl
    by_touch false ih = ih

    go : (t u : Bool) → (is_load e.operation && is_renamed e.stage) ≡ t → nat_lt k e.stamp ≡ u → conflict_in (loads_of es) k b ≡ conflict_of (younger k es) b
        → conflict_in (cons_option (if t then Some slot else None) (loads_of es)) k b ≡ conflict_of (cond u (e ∷ younger k es) (younger k es)) b
    go true true p q ih = rw q (by_touch (touches b (span_read e.stage)) ih)
    go true false p q ih = rw q ih
    go false true p q ih =
        let none : touches b (span_read e.stage) ≡ false = ap (touches b) (unplaced_span image seen e.operation e.pc e.stage p h.0.outcome) ∙ none_touched b in
        rw none ih
    go false false p q ih = ih

-- the load queue's oldest conflict, asked at the stamp of the entry at a place, is the flight's after it
pub queue_conflict : (image : Image) (seen : Seen) (pc low : ℕ) (es : List Entry) (i : ℕ) (d : Entry) (b : Option Bytes) → i < length es → IsGrowing low es → IsSound image seen pc es
    → conflict_in (loads_of es) (get_or es i d).stamp b ≡ conflict_of (drop (suc i) es) b
queue_conflict image seen pc low es i d b lt g h = conflict_younger image seen pc es (get_or es i d).stamp b h ∙ ap (λ fs. conflict_of fs b) (younger_drop low es i d lt g)

conflict_step : (e : Entry) (es : List Entry) (b : Option Bytes) (t : Bool) → touches b (span_read e.stage) ≡ t → conflict_of (e ∷ es) b ≡ (if t then Some e.stamp else conflict_of es b)
conflict_step e es b true h = rw h refl
conflict_step e es b false h = rw h refl

conflict_from : (low : ℕ) (b : Option Bytes) (es : List Entry) (k : ℕ) → IsGrowing low es → conflict_of es b ≡ Some k → low ≤ k
conflict_from low b [] k g h = absurd cc
conflict_from low b (e ∷ es) k g h = go (touches b (span_read e.stage)) (sym (conflict_step e es b (touches b (span_read e.stage)) refl) ∙ h) (λ i. conflict_from (e.stamp + 1) b es k g.1 i)
  where
    go : (t : Bool) → (if t then Some e.stamp else conflict_of es b) ≡ Some k → (conflict_of es b ≡ Some k → e.stamp + 1 ≤ k) → low ≤ k
    go true i rest = let same : e.stamp ≡ k = cc in let from = g.0 in omega (arith, from, same)
    go false i rest = let from = g.0 in let past = rest i in omega (arith, from, past)

-- a squash at the stamp of the oldest conflict leaves what stands before it
pub cut_conflict : (low : ℕ) (b : Option Bytes) (es : List Entry) → IsGrowing low es → cut_from (conflict_of es b) es ≡ before_touch b es
cut_conflict low b [] g = refl
cut_conflict low b (e ∷ es) g = ap (λ c. cut_from c (e ∷ es)) (conflict_step e es b (touches b (span_read e.stage)) refl) ∙ go (touches b (span_read e.stage)) (cut_conflict (e.stamp + 1) b es g.1)
  where
    by_stamp : (c : Option ℕ) → conflict_of es b ≡ c → cut_from c es ≡ before_touch b es → cut_from c (e ∷ es) ≡ e ∷ before_touch b es
    by_stamp None p ih = ap (λ fs. e ∷ fs) ih
    by_stamp (Some k) p ih =
        let from = conflict_from (e.stamp + 1) b es k g.1 p in
        let below : nat_lt e.stamp k ≡ true = lt-ltb e.stamp k (omega (arith, from)) in
        rw below (ap (λ fs. e ∷ fs) ih)

    go : (t : Bool) → cut_from (conflict_of es b) es ≡ before_touch b es → cut_from (if t then Some e.stamp else conflict_of es b) (e ∷ es) ≡ (if t then [] else e ∷ before_touch b es)
    go true ih = rw (le-ltb e.stamp e.stamp (omega arith)) (older_none e.stamp (e.stamp + 1) es (omega arith) g.1)
    go false ih = by_stamp (conflict_of es b) refl ih

-- The queued entries of a flight, by stamp.
use Rattle.std.proofs.Common.{◌≡◌, ℕ, zero, suc, ◌+◌, ◌<◌, ◌≤◌, Bool, true, false, not, ◌&&◌, ◌||◌, cond, List, [], ◌∷◌, length, get_or, take, map, refl, sym, ap, ◌∙◌, arith}
use Rattle.std.specs.Prelude.{set, ◌==◌, nat_lt, filter}
use Rattle.std.proofs.lemmas.Bool.{lt-ltb, le-ltb, eqb-true, ne_eqb, and_parts}
use Rattle.std.proofs.lemmas.Bool.Decides.{nat_tests}
use Rattle.core_view.specs.declared.entry.Stage.{Stage}
use Rattle.core_view.specs.declared.entry.Stage.TheVariants.{Fetched, Queued, Issued, Done}
use Rattle.core_view.specs.declared.entry.Entry.{Entry}
use Rattle.core_view.specs.Flight.{IsGrowing, is_queued}
use Rattle.core_view.specs.View.{no_entry}
use Rattle.data_flow.specs.Flow.{Node}
use Rattle.core_context.specs.Queued.{queued_at}
use Rattle.core_context.specs.Cores.{node_of_entry}

-- ---- tests

pub eqb-flip : (a b : ℕ) → (a == b) ≡ (b == a)
eqb-flip a b = grind (arith, nat_tests)

pub or_none : (b : Bool) → (b || false) ≡ b
or_none true = refl
or_none false = refl

pub and_none : (b : Bool) → (b && false) ≡ false
and_none true = refl
and_none false = refl

pub and_all : (b : Bool) → (b && true) ≡ b
and_all true = refl
and_all false = refl

-- ---- stamps that grow

pub growing_at : (low : ℕ) (es : List Entry) (i : ℕ) → IsGrowing low es → i < length es → low ≤ (get_or es i no_entry).stamp
growing_at low [] i g lt = absurd (omega arith)
growing_at low (e ∷ es) zero g lt = g.0
growing_at low (e ∷ es) (suc i) g lt = let a = g.0 in let b = growing_at (e.stamp + 1) es i g.1 (omega arith) in omega (arith, a, b)

pub growing_set : (low : ℕ) (es : List Entry) (i : ℕ) (e : Entry) → i < length es → e.stamp ≡ (get_or es i no_entry).stamp → IsGrowing low es → IsGrowing low (set es i e)
growing_set low [] i e lt same g = tt
growing_set low (x ∷ es) zero e lt same g = rw same g
growing_set low (x ∷ es) (suc i) e lt same g = (g.0, growing_set (x.stamp + 1) es i e (omega arith) same g.1)

-- ---- queued entries

-- no stamp below what they grow from is queued
pub queued_past : (k low : ℕ) (es : List Entry) → IsGrowing low es → k < low → queued_at k es ≡ false
queued_past k low [] g lt = refl
queued_past k low (e ∷ es) g lt =
    let a = g.0 in
    let other : (e.stamp == k) ≡ false = ne_eqb e.stamp k (λ same. omega (arith, a, same)) in
    rw other (queued_past k (e.stamp + 1) es g.1 (omega (arith, a)))

leaves_here : (a t r : Bool) → t ≡ a → (a ≡ true → r ≡ false) → r ≡ (((a && true) || r) && not t)
leaves_here true t r h none = rw h (none refl)
leaves_here false t r h none = rw h (sym (and_all r))

leaves_there : (p r r' t : Bool) → (p ≡ true → t ≡ false) → r' ≡ (r && not t) → (p || r') ≡ ((p || r) && not t)
leaves_there true r r' t h ih = rw (h refl) refl
leaves_there false r r' t h ih = ih

-- a queued entry goes on, and isn't queued any more
pub queued-leaves : (k low : ℕ) (es : List Entry) (i : ℕ) (e : Entry) → IsGrowing low es → i < length es → is_queued (get_or es i no_entry).stage ≡ true → e.stamp ≡ (get_or es i no_entry).stamp → is_queued e.stage ≡ false
    → queued_at k (set es i e) ≡ (queued_at k es && not (k == (get_or es i no_entry).stamp))
queued-leaves k low [] i e g lt old same new = absurd (omega arith)
queued-leaves k low (x ∷ es) zero e g lt old same new =
    let gone : (((e.stamp == k) && is_queued e.stage) || queued_at k es) ≡ queued_at k es = ap (λ b. ((e.stamp == k) && b) || queued_at k es) new ∙ ap (λ b. b || queued_at k es) (and_none (e.stamp == k)) in
    gone ∙ leaves_here (x.stamp == k) (k == x.stamp) (queued_at k es) (eqb-flip k x.stamp) (λ is. queued_past k (x.stamp + 1) es g.1 (omega (arith, eqb-true x.stamp k is)))
    ∙ ap (λ b. (((x.stamp == k) && b) || queued_at k es) && not (k == x.stamp)) (sym old)
queued-leaves k low (x ∷ es) (suc i) e g lt old same new =
    leaves_there ((x.stamp == k) && is_queued x.stage) (queued_at k es) (queued_at k (set es i e)) (k == (get_or es i no_entry).stamp)
    (λ is. ne_eqb k (get_or es i no_entry).stamp (λ eq. omega (arith, eq, eqb-true x.stamp k (and_parts (x.stamp == k) (is_queued x.stage) is).0, growing_at (x.stamp + 1) es i g.1 (omega arith))))
    (queued-leaves k (x.stamp + 1) es i e g.1 (omega arith) old same new)

-- ---- what stands before a place

-- none is below what the stamps grow from
pub none_below : (s low : ℕ) (es : List Entry) → IsGrowing low es → s ≤ low → filter (λ e. nat_lt e.stamp s) es ≡ []
none_below s low [] g le = refl
none_below s low (e ∷ es) g le =
    let a = g.0 in
    let past : nat_lt e.stamp s ≡ false = le-ltb e.stamp s (omega (arith, a)) in
    rw past (none_below s (e.stamp + 1) es g.1 (omega (arith, a)))

-- the entries below the stamp at a place are those before it
pub below-take : (low : ℕ) (es : List Entry) (n : ℕ) → IsGrowing low es → n < length es → filter (λ e. nat_lt e.stamp (get_or es n no_entry).stamp) es ≡ take n es
below-take low [] n g lt = absurd (omega arith)
below-take low (e ∷ es) zero g lt =
    let here : nat_lt e.stamp e.stamp ≡ false = le-ltb e.stamp e.stamp (omega arith) in
    rw here (none_below e.stamp (e.stamp + 1) es g.1 (omega arith))
below-take low (e ∷ es) (suc n) g lt =
    let later = growing_at (e.stamp + 1) es n g.1 (omega arith) in
    let before : nat_lt e.stamp (get_or es n no_entry).stamp ≡ true = lt-ltb e.stamp (get_or es n no_entry).stamp (omega (arith, later)) in
    rw before (ap (λ fs. e ∷ fs) (below-take (e.stamp + 1) es n g.1 (omega arith)))

-- so of the instructions of the data flow
pub below-nodes : (s : ℕ) (es : List Entry) → filter (λ n. nat_lt n.operands.stamp s) (map node_of_entry es) ≡ map node_of_entry (filter (λ e. nat_lt e.stamp s) es)
below-nodes s [] = refl
below-nodes s (e ∷ es) = go (nat_lt e.stamp s) (below-nodes s es)
  where
    go : (b : Bool) → filter (λ (n : Node). nat_lt n.operands.stamp s) (map node_of_entry es) ≡ map node_of_entry (filter (λ e. nat_lt e.stamp s) es)
        → cond b (node_of_entry e ∷ filter (λ (n : Node). nat_lt n.operands.stamp s) (map node_of_entry es)) (filter (λ (n : Node). nat_lt n.operands.stamp s) (map node_of_entry es))
        ≡ map node_of_entry (cond b (e ∷ filter (λ e. nat_lt e.stamp s) es) (filter (λ e. nat_lt e.stamp s) es))
    go true ih = ap (λ ns. node_of_entry e ∷ ns) ih
    go false ih = ih

-- ---- the place of a queued entry

-- the entry at a place is queued, and has a stamp
pub record IsQueuedPlace (k : ℕ) (es : List Entry) (i : ℕ) : Type 0 where
  pub within : i < length es
  pub stamp : (get_or es i no_entry).stamp ≡ k
  pub stage : (get_or es i no_entry).stage ≡ Queued

pub queued_stage : (s : Stage) → is_queued s ≡ true → s ≡ Queued
queued_stage Fetched h = absurd cc
queued_stage Queued h = refl
queued_stage (Issued x) h = absurd cc
queued_stage (Done x) h = absurd cc

pub queued_place : (k : ℕ) (es : List Entry) → queued_at k es ≡ true → (i : ℕ) × IsQueuedPlace k es i
queued_place k [] h = absurd cc
queued_place k (e ∷ es) h = go ((e.stamp == k) && is_queued e.stage) refl (λ later. queued_place k es later) h
  where
    there : (i : ℕ) × IsQueuedPlace k es i → (i : ℕ) × IsQueuedPlace k (e ∷ es) i
    there p = let q = p.1 in let lt = q.within in (suc p.0, record { within = omega (arith, lt); stamp = q.stamp; stage = q.stage })

    go : (b : Bool) → ((e.stamp == k) && is_queued e.stage) ≡ b → (queued_at k es ≡ true → (i : ℕ) × IsQueuedPlace k es i) → (b || queued_at k es) ≡ true → (i : ℕ) × IsQueuedPlace k (e ∷ es) i
    go true is later h = let parts = and_parts (e.stamp == k) (is_queued e.stage) is in (0, record { within = omega arith; stamp = eqb-true e.stamp k parts.0; stage = queued_stage e.stage parts.1 })
    go false is later h = there (later h)

-- there is one entry of a stamp
pub same_place : (low : ℕ) (es : List Entry) (i j : ℕ) → IsGrowing low es → i < length es → j < length es → (get_or es i no_entry).stamp ≡ (get_or es j no_entry).stamp → i ≡ j
same_place low [] i j g lt lu same = absurd (omega arith)
same_place low (e ∷ es) zero zero g lt lu same = refl
same_place low (e ∷ es) zero (suc j) g lt lu same = let later = growing_at (e.stamp + 1) es j g.1 (omega arith) in absurd (omega (arith, later, same))
same_place low (e ∷ es) (suc i) zero g lt lu same = let later = growing_at (e.stamp + 1) es i g.1 (omega arith) in absurd (omega (arith, later, same))
same_place low (e ∷ es) (suc i) (suc j) g lt lu same = ap suc (same_place (e.stamp + 1) es i j g.1 (omega arith) (omega arith) same)

-- What each call does to the entries that wait.
use Rattle.std.proofs.Common.{◌≡◌, ◌≢◌, ℕ, zero, suc, ◌-◌, ◌<◌, ◌≤◌, Bool, true, false, not, ◌||◌, List, [], ◌∷◌, ◌++◌, length, get_or, take, drop, map, Option, Some, None, refl, sym, ap, ap₂, subst, ◌∙◌, arith, inl, inr, length-append}
use Rattle.std.specs.Prelude.{set, All, is_some, IsSome, ◌==◌, if◌then◌else◌, filter}
use Rattle.std.specs.List.{list_any}
use Rattle.std.proofs.lemmas.Bool.{cases_eq, eq-eqb, ne_eqb, and_from, or_parts}
use Rattle.std.proofs.lemmas.List.{get_or-set_same, get_or-set_other, get_or_append_left}
use Rattle.std.proofs.lemmas.List.Elements.{All-weaker, All-map, All-filter, filter-append}
use Rattle.circular_buffer.specs.Buffer.{Buffer, buffer}
use Rattle.issue_queue.specs.Entry.{Entry, is_named}
use Rattle.issue_queue.specs.IssueQueue.{awake}
use Rattle.data_flow.specs.declared.operands.Renamed.{Renamed}
use Rattle.data_flow.specs.Flow.{is_waiter}
use Rattle.data_flow.specs.Wired.{cell_of, no_buffer, no_renamed, unready, waiter_of, IsWaiting}

-- ---- an entry and the buffer of its context

-- the entry waits for the sources of an instruction of this buffer
pub record IsPlaced (cells : List (Option ℕ)) (e : Entry) (b : Buffer Renamed) : Type 0 where
  pub place : ℕ
  pub within : place < length b.items
  pub stamp : (get_or b.items place no_renamed).operands.stamp ≡ e.stamp
  pub waits : e.waits ≡ unready cells (get_or b.items place no_renamed).first ++ unready cells (get_or b.items place no_renamed).second

abbrev pub placed : (cells : List (Option ℕ)) (buffers : List (Buffer Renamed)) (e : Entry) → IsWaiting cells buffers e → IsPlaced cells e (get_or buffers e.context no_buffer)
placed cells buffers e h = record { place = h.place; within = h.within; stamp = h.stamp; waits = h.waits }

waits_there : (cells : List (Option ℕ)) (buffers : List (Buffer Renamed)) (e : Entry) → e.context < 8 → IsPlaced cells e (get_or buffers e.context no_buffer) → IsWaiting cells buffers e
waits_there cells buffers e lt h = record { context = lt; place = h.place; within = h.within; stamp = h.stamp; waits = h.waits }

-- what is true of the new buffer at its place, and of the old one elsewhere, is true after a write
at_set : (P : Buffer Renamed → Type 0) (buffers : List (Buffer Renamed)) (c d : ℕ) (b : Buffer Renamed) → c < length buffers → (d ≡ c → P b) → (d ≢ c → P (get_or buffers d no_buffer)) → P (get_or (set buffers c b) d no_buffer)
at_set P buffers c d b lt here there = elim (cases_eq d c) [
  | inl same ↦ subst P (sym (get_or-set_same buffers c b no_buffer lt) ∙ ap (λ k. get_or (set buffers c b) k no_buffer) (sym same)) (here same)
  | inr differ ↦ subst P (sym (get_or-set_other buffers c d b no_buffer differ)) (there differ)
]

-- the entries of one context are placed in another buffer
moved : (cells : List (Option ℕ)) (buffers : List (Buffer Renamed)) (c : ℕ) (b : Buffer Renamed) (e : Entry) → c < length buffers
    → (e.context ≡ c → IsPlaced cells e (get_or buffers c no_buffer) → IsPlaced cells e b) → IsWaiting cells buffers e → IsWaiting cells (set buffers c b) e
moved cells buffers c b e lt move h =
    waits_there cells (set buffers c b) e h.context
    (at_set (IsPlaced cells e) buffers c e.context b lt
    (λ same. move same (subst (λ k. IsPlaced cells e (get_or buffers k no_buffer)) same (placed cells buffers e h)))
    (λ differ. placed cells buffers e h))

-- ---- a result

-- a register that has a value now is waited for no more
woken_same : (o : Option ℕ) (p : ℕ) → filter (λ r. not (r == p)) (if is_some o then [] else p ∷ []) ≡ []
woken_same None p = let same : (p == p) ≡ true = eq-eqb p p refl in rw same refl
woken_same (Some x) p = refl

woken_other : (o : Option ℕ) (p q : ℕ) → q ≢ p → filter (λ r. not (r == p)) (if is_some o then [] else q ∷ []) ≡ (if is_some o then [] else q ∷ [])
woken_other None p q differ = let other : (q == p) ≡ false = ne_eqb q p differ in rw other refl
woken_other (Some x) p q differ = refl

woken : (cells : List (Option ℕ)) (p v q : ℕ) → p < length cells → filter (λ r. not (r == p)) (unready cells q) ≡ unready (set cells p (Some v)) q
woken cells p v q lt = elim (cases_eq q p) [
  | inl same ↦ subst (λ k. filter (λ r. not (r == p)) (unready cells k) ≡ unready (set cells p (Some v)) k) (sym same)
      (woken_same (cell_of cells p) p ∙ ap (λ (o : Option ℕ). if is_some o then [] else p ∷ []) (sym (get_or-set_same cells p (Some v) None lt)))
  | inr differ ↦ woken_other (cell_of cells q) p q differ ∙ ap (λ (o : Option ℕ). if is_some o then [] else q ∷ []) (sym (get_or-set_other cells p q (Some v) None differ))
]

finish_one : (cells : List (Option ℕ)) (buffers : List (Buffer Renamed)) (p v : ℕ) (e : Entry) → p < length cells → IsWaiting cells buffers e → IsWaiting (set cells p (Some v)) buffers (awake p e)
finish_one cells buffers p v e lt h =
    let n : Renamed = get_or (get_or buffers e.context no_buffer).items h.place no_renamed in
    record {
      context = h.context;
      place = h.place;
      within = h.within;
      stamp = h.stamp;
      waits = ap (filter (λ r. not (r == p))) h.waits ∙ filter-append (λ r. not (r == p)) (unready cells n.first) (unready cells n.second)
          ∙ ap₂ (λ (xs ys : List ℕ). xs ++ ys) (woken cells p v n.first lt) (woken cells p v n.second lt);
    }

pub waiting_finish : (cells : List (Option ℕ)) (buffers : List (Buffer Renamed)) (p v : ℕ) (es : List Entry) → p < length cells → All (IsWaiting cells buffers) es
    → All (IsWaiting (set cells p (Some v)) buffers) (map (awake p) es)
waiting_finish cells buffers p v es lt h =
    All-map (IsWaiting (set cells p (Some v)) buffers) (awake p) es
    (All-weaker (IsWaiting cells buffers) (λ e. IsWaiting (set cells p (Some v)) buffers (awake p e)) (λ e. finish_one cells buffers p v e lt) es h)

-- ---- a register that has its value

-- none waits for it
unwaited : (cells : List (Option ℕ)) (p q : ℕ) → IsSome (cell_of cells p) → filter (λ r. not (r == p)) (unready cells q) ≡ unready cells q
unwaited cells p q valued = elim (cases_eq q p) [
  | inl same ↦ subst (λ k. filter (λ r. not (r == p)) (unready cells k) ≡ unready cells k) (sym same) (let has : is_some (cell_of cells p) ≡ true = valued in rw has refl)
  | inr differ ↦ woken_other (cell_of cells q) p q differ
]

awake_same : (cells : List (Option ℕ)) (buffers : List (Buffer Renamed)) (p : ℕ) (e : Entry) → IsSome (cell_of cells p) → IsWaiting cells buffers e → awake p e ≡ e
awake_same cells buffers p e valued h =
    let n : Renamed = get_or (get_or buffers e.context no_buffer).items h.place no_renamed in
    let waits : filter (λ r. not (r == p)) e.waits ≡ e.waits =
    ap (filter (λ r. not (r == p))) h.waits ∙ filter-append (λ r. not (r == p)) (unready cells n.first) (unready cells n.second)
    ∙ ap₂ (λ (xs ys : List ℕ). xs ++ ys) (unwaited cells p n.first valued) (unwaited cells p n.second valued) ∙ sym h.waits in
    ap (λ (ws : List ℕ). let x : Entry = record e { waits = ws } in x) waits

pub all_awake : (cells : List (Option ℕ)) (buffers : List (Buffer Renamed)) (p : ℕ) (es : List Entry) → IsSome (cell_of cells p) → All (IsWaiting cells buffers) es → map (awake p) es ≡ es
all_awake cells buffers p [] valued h = refl
all_awake cells buffers p (e ∷ es) valued h = rw (awake_same cells buffers p e valued (h 0 e (omega arith)), all_awake cells buffers p es valued (λ k d lt. h (suc k) d (omega (arith, lt)))) refl

-- ---- another value

-- two registers' cells that are both there or both not
like : (o x : Option ℕ) (q : ℕ) → is_some o ≡ is_some x → (if is_some o then [] else q ∷ []) ≡ (if is_some x then [] else q ∷ [])
like o x q same = ap (λ (b : Bool). if b then [] else q ∷ []) same

some_is_true : (o : Option ℕ) → IsSome o → is_some o ≡ true
some_is_true None h = absurd cc
some_is_true (Some x) h = refl

unready-set : (cells : List (Option ℕ)) (p : ℕ) (x : Option ℕ) (q : ℕ) → (q ≡ p → is_some (cell_of (set cells p x) p) ≡ is_some (cell_of cells p)) → unready (set cells p x) q ≡ unready cells q
unready-set cells p x q here = elim (cases_eq q p) [
  | inl same ↦ subst (λ k. unready (set cells p x) k ≡ unready cells k) (sym same) (like (cell_of (set cells p x) p) (cell_of cells p) p (here same))
  | inr differ ↦ ap (λ (o : Option ℕ). if is_some o then [] else q ∷ []) (get_or-set_other cells p q x None differ)
]

-- the same registers are unready, of the sources of the instruction where the entry is placed
same_waits : (cells : List (Option ℕ)) (p : ℕ) (x : Option ℕ) (e : Entry) (b : Buffer Renamed) (h : IsPlaced cells e b)
    → unready (set cells p x) (get_or b.items h.place no_renamed).first ≡ unready cells (get_or b.items h.place no_renamed).first
    → unready (set cells p x) (get_or b.items h.place no_renamed).second ≡ unready cells (get_or b.items h.place no_renamed).second → IsPlaced (set cells p x) e b
same_waits cells p x e b h first second = record {
  place = h.place;
  within = h.within;
  stamp = h.stamp;
  waits = h.waits ∙ ap₂ (λ (xs ys : List ℕ). xs ++ ys) (sym first) (sym second);
}

set_one : (cells : List (Option ℕ)) (buffers : List (Buffer Renamed)) (p v : ℕ) (e : Entry) → p < length cells → IsSome (cell_of cells p) → IsWaiting cells buffers e → IsWaiting (set cells p (Some v)) buffers e
set_one cells buffers p v e lt some h =
    let b : Buffer Renamed = get_or buffers e.context no_buffer in
    let n : Renamed = get_or b.items h.place no_renamed in
    let same : is_some (cell_of (set cells p (Some v)) p) ≡ is_some (cell_of cells p) = ap is_some (get_or-set_same cells p (Some v) None lt) ∙ sym (some_is_true (cell_of cells p) some) in
    waits_there (set cells p (Some v)) buffers e h.context
    (same_waits cells p (Some v) e b (placed cells buffers e h) (unready-set cells p (Some v) n.first (λ here. same)) (unready-set cells p (Some v) n.second (λ here. same)))

some_within : (cells : List (Option ℕ)) (p : ℕ) → IsSome (cell_of cells p) → p < length cells
some_within [] p h = absurd cc
some_within (x ∷ xs) zero h = omega arith
some_within (x ∷ xs) (suc p) h = omega (arith, some_within xs p h)

pub waiting_set : (cells : List (Option ℕ)) (buffers : List (Buffer Renamed)) (p v : ℕ) (es : List Entry) → IsSome (cell_of cells p) → All (IsWaiting cells buffers) es
    → All (IsWaiting (set cells p (Some v)) buffers) es
waiting_set cells buffers p v es some h =
    All-weaker (IsWaiting cells buffers) (IsWaiting (set cells p (Some v)) buffers) (λ e. set_one cells buffers p v e (some_within cells p some) some) es h

-- ---- one more instruction

pushed : (cells : List (Option ℕ)) (e : Entry) (b : Buffer Renamed) (n : Renamed) → IsPlaced cells e b → IsPlaced cells e (buffer (b.items ++ n ∷ []) b.capacity)
pushed cells e b n h =
    let same : get_or (b.items ++ n ∷ []) h.place no_renamed ≡ get_or b.items h.place no_renamed = get_or_append_left b.items (n ∷ []) no_renamed h.place h.within in
    record {
      place = h.place;
      within = omega (arith, h.within, length-append b.items (n ∷ []));
      stamp = ap (λ (m : Renamed). m.operands.stamp) same ∙ h.stamp;
      waits = h.waits ∙ ap (λ (m : Renamed). unready cells m.first ++ unready cells m.second) (sym same);
    }

pub waiting_push : (cells : List (Option ℕ)) (buffers : List (Buffer Renamed)) (c : ℕ) (n : Renamed) (es : List Entry) → c < length buffers → All (IsWaiting cells buffers) es
    → All (IsWaiting cells (set buffers c (buffer ((get_or buffers c no_buffer).items ++ n ∷ []) (get_or buffers c no_buffer).capacity))) es
waiting_push cells buffers c n es lt h =
    let b : Buffer Renamed = get_or buffers c no_buffer in
    All-weaker (IsWaiting cells buffers) (IsWaiting cells (set buffers c (buffer (b.items ++ n ∷ []) b.capacity)))
    (λ e. moved cells buffers c (buffer (b.items ++ n ∷ []) b.capacity) e lt (λ same. pushed cells e b n)) es h

-- no instruction has the register as a source
abbrev pub IsUnread : List (Buffer Renamed) → ℕ → Type 0
IsUnread buffers p = (d i : ℕ) → d < 8 → i < length (get_or buffers d no_buffer).items
    → ((get_or (get_or buffers d no_buffer).items i no_renamed).first ≢ p) × ((get_or (get_or buffers d no_buffer).items i no_renamed).second ≢ p)

emptied_one : (cells : List (Option ℕ)) (buffers : List (Buffer Renamed)) (p : ℕ) (x : Option ℕ) (e : Entry) → IsUnread buffers p → IsWaiting cells buffers e → IsWaiting (set cells p x) buffers e
emptied_one cells buffers p x e unread h =
    let b : Buffer Renamed = get_or buffers e.context no_buffer in
    let n : Renamed = get_or b.items h.place no_renamed in
    let differ = unread e.context h.place h.context h.within in
    waits_there (set cells p x) buffers e h.context
    (same_waits cells p x e b (placed cells buffers e h) (unready-set cells p x n.first (λ here. absurd (differ.0 here))) (unready-set cells p x n.second (λ here. absurd (differ.1 here))))

pub waiting_rename : (cells : List (Option ℕ)) (buffers : List (Buffer Renamed)) (c p : ℕ) (n : Renamed) (es : List Entry) → c < length buffers → IsUnread buffers p → All (IsWaiting cells buffers) es
    → All (IsWaiting (set cells p None) (set buffers c (buffer ((get_or buffers c no_buffer).items ++ n ∷ []) (get_or buffers c no_buffer).capacity))) es
waiting_rename cells buffers c p n es lt unread h =
    waiting_push (set cells p None) buffers c n es lt
    (All-weaker (IsWaiting cells buffers) (IsWaiting (set cells p None) buffers) (λ e. emptied_one cells buffers p None e unread) es h)

-- ---- one instruction less

-- the entry is not of this context and stamp
unnamed : (c k : ℕ) (e : Entry) → is_named c k e ≡ false → e.context ≡ c → e.stamp ≢ k
unnamed c k e h same stamped = absurd (true_not_false (sym (and_from (e.context == c) (e.stamp == k) (eq-eqb e.context c same) (eq-eqb e.stamp k stamped)) ∙ h))
  where
    true_not_false : true ≡ false → ⊥
    true_not_false q = absurd cc

none_named : (c k : ℕ) (es : List Entry) → list_any (is_named c k) es ≡ false → All (λ e. is_named c k e ≡ false) es
none_named c k [] h = λ i d lt. absurd (omega arith)
none_named c k (e ∷ es) h =
    let parts = or_parts (is_named c k e) (list_any (is_named c k) es) h in
    at_each parts.0 (none_named c k es parts.1)
  where
    at_each : is_named c k e ≡ false → All (λ f. is_named c k f ≡ false) es → All (λ f. is_named c k f ≡ false) (e ∷ es)
    at_each here rest zero d lt = here
    at_each here rest (suc i) d lt = rest i d (omega arith)

-- two facts of each element
both_all : (P Q : Entry → Type 0) (es : List Entry) → All P es → All Q es → All (λ e. P e × Q e) es
both_all P Q es p q i d lt = (p i d lt, q i d lt)

-- the entry is placed at another place of another buffer
placed_at : (cells : List (Option ℕ)) (e : Entry) (b : Buffer Renamed) (h : IsPlaced cells e b) (items : List Renamed) (capacity i : ℕ) → i < length items
    → get_or items i no_renamed ≡ get_or b.items h.place no_renamed → IsPlaced cells e (buffer items capacity)
placed_at cells e b h items capacity i lt same = record {
  place = i;
  within = lt;
  stamp = ap (λ (m : Renamed). m.operands.stamp) same ∙ h.stamp;
  waits = h.waits ∙ ap (λ (m : Renamed). unready cells m.first ++ unready cells m.second) (sym same);
}

dropped_within : (xs : List Renamed) (i : ℕ) → 0 < i → i < length xs → i - 1 < length (drop 1 xs)
dropped_within [] i some lt = absurd (omega arith)
dropped_within (x ∷ xs) i some lt = omega arith

get_or-dropped : (xs : List Renamed) (i : ℕ) → 0 < i → get_or (drop 1 xs) (i - 1) no_renamed ≡ get_or xs i no_renamed
get_or-dropped [] i some = refl
get_or-dropped (x ∷ xs) zero some = absurd (omega arith)
get_or-dropped (x ∷ xs) (suc i) some = let less : suc i - 1 ≡ i = omega arith in rw less refl

dropped : (cells : List (Option ℕ)) (e : Entry) (b : Buffer Renamed) → e.stamp ≢ (get_or b.items 0 no_renamed).operands.stamp → IsPlaced cells e b → IsPlaced cells e (buffer (drop 1 b.items) b.capacity)
dropped cells e b differ h = elim (cases_eq h.place 0) [
  | inl first ↦ absurd (differ (sym h.stamp ∙ ap (λ i. (get_or b.items i no_renamed).operands.stamp) first))
  | inr later ↦
      let some : 0 < h.place = omega (arith, later) in
      placed_at cells e b h (drop 1 b.items) b.capacity (h.place - 1) (dropped_within b.items h.place some h.within) (get_or-dropped b.items h.place some)
]

pub waiting_drop : (cells : List (Option ℕ)) (buffers : List (Buffer Renamed)) (c : ℕ) (es : List Entry) → c < length buffers
    → list_any (is_named c (get_or (get_or buffers c no_buffer).items 0 no_renamed).operands.stamp) es ≡ false → All (IsWaiting cells buffers) es
    → All (IsWaiting cells (set buffers c (buffer (drop 1 (get_or buffers c no_buffer).items) (get_or buffers c no_buffer).capacity))) es
waiting_drop cells buffers c es lt idle h =
    let b : Buffer Renamed = get_or buffers c no_buffer in
    let k : ℕ = (get_or b.items 0 no_renamed).operands.stamp in
    All-weaker (λ e. IsWaiting cells buffers e × (is_named c k e ≡ false)) (IsWaiting cells (set buffers c (buffer (drop 1 b.items) b.capacity)))
    (λ e t. moved cells buffers c (buffer (drop 1 b.items) b.capacity) e lt (λ same. dropped cells e b (unnamed c k e t.1 same)) t.0) es
    (both_all (IsWaiting cells buffers) (λ e. is_named c k e ≡ false) es h (none_named c k es idle))

taken_within : (xs : List Renamed) (n i : ℕ) → i < n → n ≤ length xs → i < length (take n xs)
taken_within [] n i lt le = absurd (omega arith)
taken_within (x ∷ xs) zero i lt le = absurd (omega arith)
taken_within (x ∷ xs) (suc n) zero lt le = omega arith
taken_within (x ∷ xs) (suc n) (suc i) lt le = omega (arith, taken_within xs n i (omega arith) (omega arith))

get_or-taken : (xs : List Renamed) (n i : ℕ) → i < n → get_or (take n xs) i no_renamed ≡ get_or xs i no_renamed
get_or-taken [] zero i lt = refl
get_or-taken [] (suc n) i lt = refl
get_or-taken (x ∷ xs) zero i lt = absurd (omega arith)
get_or-taken (x ∷ xs) (suc n) zero lt = refl
get_or-taken (x ∷ xs) (suc n) (suc i) lt = get_or-taken xs n i (omega arith)

taken : (cells : List (Option ℕ)) (e : Entry) (b : Buffer Renamed) → e.stamp ≢ (get_or b.items (length b.items - 1) no_renamed).operands.stamp → IsPlaced cells e b
    → IsPlaced cells e (buffer (take (length b.items - 1) b.items) b.capacity)
taken cells e b differ h = elim (cases_eq h.place (length b.items - 1)) [
  | inl last ↦ absurd (differ (sym h.stamp ∙ ap (λ i. (get_or b.items i no_renamed).operands.stamp) last))
  | inr before ↦
      let lt : h.place < length b.items - 1 = omega (arith, before, h.within) in
      placed_at cells e b h (take (length b.items - 1) b.items) b.capacity h.place (taken_within b.items (length b.items - 1) h.place lt (omega arith)) (get_or-taken b.items (length b.items - 1) h.place lt)
]

pub waiting_take : (cells : List (Option ℕ)) (buffers : List (Buffer Renamed)) (c : ℕ) (es : List Entry) → c < length buffers
    → list_any (is_named c (get_or (get_or buffers c no_buffer).items (length (get_or buffers c no_buffer).items - 1) no_renamed).operands.stamp) es ≡ false → All (IsWaiting cells buffers) es
    → All (IsWaiting cells (set buffers c (buffer (take (length (get_or buffers c no_buffer).items - 1) (get_or buffers c no_buffer).items) (get_or buffers c no_buffer).capacity))) es
waiting_take cells buffers c es lt idle h =
    let b : Buffer Renamed = get_or buffers c no_buffer in
    let k : ℕ = (get_or b.items (length b.items - 1) no_renamed).operands.stamp in
    All-weaker (λ e. IsWaiting cells buffers e × (is_named c k e ≡ false)) (IsWaiting cells (set buffers c (buffer (take (length b.items - 1) b.items) b.capacity)))
    (λ e t. moved cells buffers c (buffer (take (length b.items - 1) b.items) b.capacity) e lt (λ same. taken cells e b (unnamed c k e t.1 same)) t.0) es
    (both_all (IsWaiting cells buffers) (λ e. is_named c k e ≡ false) es h (none_named c k es idle))

-- ---- fewer entries

pub waiting_filter : (cells : List (Option ℕ)) (buffers : List (Buffer Renamed)) (test : Entry → Bool) (es : List Entry) → All (IsWaiting cells buffers) es → All (IsWaiting cells buffers) (filter test es)
waiting_filter cells buffers test es h = All-filter test (IsWaiting cells buffers) es h

-- an instruction waits where the queue has its name
pub waits_named : (c k : ℕ) (es : List Entry) → list_any (is_named c k) es ≡ list_any (is_waiter c k) (map waiter_of es)
waits_named c k [] = refl
waits_named c k (e ∷ es) = ap (λ (b : Bool). is_named c k e || b) (waits_named c k es)

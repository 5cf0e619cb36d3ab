-- A context's turn to fetch, entry by entry.
use Rattle.std.proofs.Common.{◌≡◌, ℕ, ◌+◌, ◌-◌, ◌<◌, ◌≤◌, Bool, List, [], ◌∷◌, ◌++◌, length, refl, sym, ap, ◌∙◌, subst, arith, append-nil, append_assoc}
use Rattle.std.specs.Prelude.{min, drop}
use Rattle.std.specs.List.{range_with_len}
use Rattle.std.proofs.lemmas.List.{length-append, length-map, get_or-set_same, drop_all, drop-append-le}
use Rattle.std.proofs.lemmas.List.FromFn.{length-range_with_len, map-range_with_len_more}
use Rattle.rv64_decode.specs.declared.insn.Insn.{Insn}
use Rattle.hart_step.specs.State.{State}
use Rattle.core_view.specs.declared.entry.Entry.{Entry}
use Rattle.core_view.specs.declared.note.EntryId.{EntryId}
use Rattle.core_view.specs.Operations.{operation_at}
use Rattle.core_view.specs.Flight.{pc_past}
use Rattle.core_view.specs.Events.{fetch_event, fetched_entry}
use Rattle.core_view.specs.View.{Context, entry_at}
use Rattle.lawful_cycle.specs.Fetch.{front_room, ends_block, IsBlock, IsEnded, TakesInTurn}
use Rattle.data_flow.specs.Flow.{Flow}
use Rattle.core_context.specs.Track.{Track}
use Rattle.core_context.specs.Cores.{IsCore}
use Rattle.core_context.specs.Left.{KeepsCores}
use Rattle.core_context.specs.NextEntry.{IsFetchedBy}
use Rattle.core_back.specs.Machine.{Machine, context_at, no_context}
use Rattle.core_back.specs.Fetched.{ids_of, with_block, IsBlockBy, IsPickTurn}
use Rattle.lawful_cycle.specs.Queries.{followed_by, when_shown}
use Rattle.lawful_cycle.specs.Steps.{GoesBy, IsFollowedAt}
use Rattle.lawful_cycle.proofs.Laws.{goes_once}
use Rattle.core_back.proofs.Blocks.{IsBlockSoFar, GoesOn, block_none, block_next, last_of_next, block_made, pc_push}

-- ---- the entries so far

-- a context fetched so many entries, they are listed, and its track stands for what it stood for
pub record HasFetched (guesses : ℕ → Insn → ℕ → Bool) (cycle stamp c k : ℕ) (t u : Track) (before ids : List EntryId) : Type 0 where
  pub block : IsBlockSoFar guesses cycle stamp k t.context u.context
  pub kept : (start : State) (reorder : ℕ) (f : Flow) → IsCore start stamp reorder f [] c t → IsCore start (stamp + k) reorder f [] c u
  pub loads : u.load_places ≡ t.load_places
  pub stores : u.store_places ≡ t.store_places
  pub listed : ids ≡ before ++ ids_of c (range_with_len stamp k)

pub fetched_none : (guesses : ℕ → Insn → ℕ → Bool) (cycle stamp c : ℕ) (t : Track) (ids : List EntryId) → HasFetched guesses cycle stamp c 0 t t ids ids
fetched_none guesses cycle stamp c t ids = record {
  block = block_none guesses cycle stamp t.context;
  kept = λ start reorder f core. subst (λ s. IsCore start s reorder f [] c t) same core;
  loads = refl;
  stores = refl;
  listed = sym (append-nil ids);
}
  where
    same : stamp ≡ stamp + 0
    same = omega arith

pub ids_length : (before ids : List EntryId) (stamp c k : ℕ) → ids ≡ before ++ ids_of c (range_with_len stamp k) → length ids ≡ length before + k
ids_length before ids stamp c k listed =
    let all = ap (λ (ns : List EntryId). length ns) listed in
    let split = length-append before (ids_of c (range_with_len stamp k)) in
    let names : length (ids_of c (range_with_len stamp k)) ≡ length (range_with_len stamp k) = length-map (range_with_len stamp k) (λ s. record { context = c; stamp = s }) in
    let stamps = length-range_with_len stamp k in
    omega (arith, all, split, names, stamps)

-- ---- one more

module _ (guesses : ℕ → Insn → ℕ → Bool) (cycle stamp c k : ℕ) (t u v : Track) (before ids more : List EntryId) (h : HasFetched guesses cycle stamp c k t u before ids) (goes : GoesOn k u.context)
    (next pc : ℕ) (ends : Bool) (at : next ≡ stamp + k) (one : IsFetchedBy guesses next cycle u v pc ends) where
  abbrev here_pc : ℕ
  here_pc = pc_past u.context.state.pc u.context.flight

  here : v.context ≡ fetch_event (stamp + k) cycle one.followed u.context
  here = ap (λ (w : Track). w.context) one.after ∙ ap (λ s. fetch_event s cycle one.followed u.context) at

  pub fetched_next : KeepsCores next c u v → more ≡ ids ++ record { context = c; stamp = next } ∷ [] → HasFetched guesses cycle stamp c (k + 1) t v before more
  fetched_next keeps pushed = record {
    block = subst (IsBlockSoFar guesses cycle stamp (k + 1) t.context) (sym here) (block_next guesses cycle stamp k one.followed t.context u.context h.block goes one.eligible one.follows);
    kept = λ start reorder f core. subst (λ s. IsCore start s reorder f [] c v) after (keeps.kept start reorder f (subst (λ s. IsCore start s reorder f [] c u) (sym at) (h.kept start reorder f core)));
    loads = keeps.loads ∙ h.loads;
    stores = keeps.stores ∙ h.stores;
    listed = listed;
  }
    where
      after : next + 1 ≡ stamp + (k + 1)
      after = omega (arith, at)

      listed : more ≡ before ++ ids_of c (range_with_len stamp (k + 1))
      listed =
          pushed ∙ ap (λ (ns : List EntryId). ns ++ record { context = c; stamp = next } ∷ []) h.listed
          ∙ append_assoc before (ids_of c (range_with_len stamp k)) (record { context = c; stamp = next } ∷ [])
          ∙ ap (λ ns. before ++ ns) (ap (λ s. ids_of c (range_with_len stamp k) ++ record { context = c; stamp = s } ∷ []) at ∙ sym (map-range_with_len_more (λ s. record { context = c; stamp = s }) stamp k (stamp + k) refl))

  -- whether it ends the block is what the fetch says
  pub ends_so : ends_block (entry_at v.context (length v.context.flight - 1)) ≡ ends
  ends_so =
      ap (λ (x : Context). ends_block (entry_at x (length x.flight - 1))) here
      ∙ ap (λ (e : Entry). ends_block e) (last_of_next guesses cycle stamp k one.followed t.context u.context h.block goes one.eligible)
      ∙ ap (λ s. ends_block (fetched_entry s cycle here_pc (operation_at u.context.state.memory here_pc) one.followed)) (sym at) ∙ sym one.ends_is

  -- fetch goes on where it says
  pub next_pc : pc ≡ pc_past v.context.state.pc v.context.flight
  next_pc = one.next_is ∙ sym (ap (λ (x : Context). pc_past x.state.pc x.flight) here ∙ pc_push u.context.state.pc u.context.flight (fetched_entry (stamp + k) cycle here_pc (operation_at u.context.state.memory here_pc) one.followed))

-- ---- the guess

module _ {S : Type 0} (answer : S → ℕ → ℕ → Insn → ℕ) (queried : S → ℕ → ℕ → Insn → S) (c : ℕ) where
  -- one more entry is fetched, and the guess is queried of it
  pub queried_next : (guesses : ℕ → Insn → ℕ → Bool) (stamp cycle n pc next : ℕ) (ends : Bool) (u v : Track) (s r q : S) → IsFetchedBy guesses stamp cycle u v next ends → pc ≡ pc_past u.context.state.pc u.context.flight → n ≤ length u.context.flight
      → next ≡ followed_by (answer r c pc) (operation_at u.context.state.memory pc) pc → q ≡ when_shown (operation_at u.context.state.memory pc) (queried r c pc) r
      → GoesBy (IsFollowedAt answer queried c) (drop n u.context.flight) s r → GoesBy (IsFollowedAt answer queried c) (drop n v.context.flight) s q
  queried_next guesses stamp cycle n pc next ends u v s r q one here le value state before =
      let p : ℕ = pc_past u.context.state.pc u.context.flight in
      let e : Entry = fetched_entry stamp cycle p (operation_at u.context.state.memory p) one.followed in
      let flight : v.context.flight ≡ u.context.flight ++ e ∷ [] = ap (λ (w : Track). w.context.flight) one.after in
      let is : IsFollowedAt answer queried c e r q = record {
        followed = sym one.next_is ∙ subst (λ k. next ≡ followed_by (answer r c k) (operation_at u.context.state.memory k) k) here value;
        after = subst (λ k. q ≡ when_shown (operation_at u.context.state.memory k) (queried r c k) r) here state;
      } in
      subst (λ es. GoesBy (IsFollowedAt answer queried c) es s q) (sym (ap (drop n) flight ∙ drop-append-le n u.context.flight (e ∷ []) le)) (goes_once (IsFollowedAt answer queried c) (drop n u.context.flight) e s r q before is)

  pub queried_none : (es : List Entry) (s : S) → GoesBy (IsFollowedAt answer queried c) (drop (length es) es) s s
  queried_none es s = subst (λ fs. GoesBy (IsFollowedAt answer queried c) fs s s) (sym (drop_all (length es) es (omega arith))) refl

  -- the same of a context's turn in the machine
  pub queried_in_turn : (m n : Machine) (number room : ℕ) (x y : Context) (s t : S) → n ≡ with_block m c y number room → c < length m.view.contexts → x ≡ context_at m c
      → GoesBy (IsFollowedAt answer queried c) (drop (length x.flight) y.flight) s t → GoesBy (IsFollowedAt answer queried c) (drop (length (context_at m c).flight) (context_at n c).flight) s t
  queried_in_turn m n number room x y s t is lt was h =
      subst (λ (z : Context). GoesBy (IsFollowedAt answer queried c) (drop (length (context_at m c).flight) z.flight) s t) (sym here)
      (subst (λ (w : Context). GoesBy (IsFollowedAt answer queried c) (drop (length w.flight) y.flight) s t) was h)
    where
      here : context_at n c ≡ y
      here = ap (λ (q : Machine). context_at q c) is ∙ get_or-set_same m.view.contexts c y no_context lt

-- ---- the turn

pub block_by : (guesses : ℕ → Insn → ℕ → Bool) (cycle stamp c k : ℕ) (t u : Track) (before ids : List EntryId) → HasFetched guesses cycle stamp c k t u before ids → IsBlockBy guesses cycle stamp c k t u
block_by guesses cycle stamp c k t u before ids h = record { block = block_made guesses cycle stamp k t.context u.context h.block; kept = h.kept; loads = h.loads; stores = h.stores }

-- it takes all that it may, or its block ends
pub takes_turn : (x y : Context) (num2 room left before most k : ℕ) → left ≡ front_room x → room + before ≡ 8 → most ≡ min (min num2 room) left → k ≤ most → (k < most → IsEnded k y) → TakesInTurn num2 x y before k
takes_turn x y num2 room left before most k front sum is le ended = record {
  most = omega (arith, front, sum, is, le);
  fewer = λ less. ended (omega (arith, front, sum, is, less));
}

-- a track's block is its context's turn in the machine
pub pick_turn : (guesses : ℕ → ℕ → Insn → ℕ → Bool) (m n : Machine) (c num2 number cycle stamp : ℕ) (x y : Context) (before after : List EntryId) → n ≡ with_block m c y number n.fetch_room → c < length m.view.contexts
    → x ≡ context_at m c → cycle ≡ m.view.cycle → stamp ≡ m.view.stamp → IsBlock (guesses c) cycle (range_with_len stamp number) x y → TakesInTurn num2 x y (length before) number
    → after ≡ before ++ ids_of c (range_with_len stamp number) → IsPickTurn guesses m n c num2 before after
pick_turn guesses m n c num2 number cycle stamp x y before after is lt was cycles stamps block takes listed = record {
  number = number;
  is = is ∙ ap (λ z. with_block m c z number n.fetch_room) (sym here);
  block = subst (λ z. IsBlock (guesses c) m.view.cycle (range_with_len m.view.stamp number) (context_at m c) z) (sym here)
      (subst (λ w. IsBlock (guesses c) m.view.cycle (range_with_len m.view.stamp number) w y) was
      (subst (λ s. IsBlock (guesses c) m.view.cycle (range_with_len s number) x y) stamps
      (subst (λ t. IsBlock (guesses c) t (range_with_len stamp number) x y) cycles block)));
  takes = subst (λ z. TakesInTurn num2 (context_at m c) z (length before) number) (sym here) (subst (λ w. TakesInTurn num2 w y (length before) number) was takes);
  listed = subst (λ s. after ≡ before ++ ids_of c (range_with_len s number)) stamps listed;
}
  where
    here : context_at n c ≡ y
    here = ap (λ (q : Machine). context_at q c) is ∙ get_or-set_same m.view.contexts c y no_context lt

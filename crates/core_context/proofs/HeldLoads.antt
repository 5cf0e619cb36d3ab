-- Loads that are held in the issue queue until they are clear.
use Rattle.std.proofs.Common.{◌≡◌, ◌≢◌, ℕ, zero, suc, ◌+◌, ◌<◌, ◌≤◌, Bool, true, false, not, List, [], ◌∷◌, length, get_or, take, map, Option, Some, None, refl, sym, ap, subst, ◌∙◌, arith, inl, inr}
use Rattle.std.specs.Prelude.{◌&&◌, ◌==◌, set, if◌then◌else◌}
use Rattle.std.proofs.lemmas.Bool.{and_parts, eqb-true, cases_lt}
use Rattle.std.proofs.lemmas.List.Elements.{All-map}
use Rattle.hart_step.specs.declared.effect.Effect.{Effect}
use Rattle.hart_step.specs.declared.effect.Effect.TheVariants as effect
use Rattle.hart_step.specs.Effects.{effect_of}
use Rattle.core_view.specs.declared.span.Span.{Span}
use Rattle.core_view.specs.declared.span.Bytes.{Bytes}
use Rattle.core_view.specs.declared.operation.Operation.{Operation}
use Rattle.core_view.specs.declared.operation.Operation.TheVariants.{Performs, Stops}
use Rattle.core_view.specs.declared.entry.Execution.{Execution}
use Rattle.core_view.specs.declared.entry.Stage.TheVariants.{Fetched, Queued, Issued}
use Rattle.core_view.specs.declared.entry.Entry.{Entry}
use Rattle.core_view.specs.Operations.{is_load}
use Rattle.flight.specs.Marked.{is_waiting_load}
use Rattle.core_view.specs.Outcomes.{image_of}
use Rattle.core_view.specs.Flight.{seen_of, IsGrowing, is_queued as is_waiting_stage}
use Rattle.core_view.specs.Events.{with_stage}
use Rattle.core_view.specs.Loads.{newest, is_clear, is_clear_of, may_issue}
use Rattle.core_view.specs.Spans.{shares}
use Rattle.core_view.specs.Queues.{stores_of, is_clear_in}
use Rattle.core_view.specs.View.{Context, entry_at, no_entry}
use Rattle.core_view.proofs.Accesses.{is_load_effect, effect_loads}
use Rattle.core_view.proofs.Queues.{queue_newest}
use Rattle.data_flow.specs.Flow.{Flow, Waiter, lane, sources_at, is_waiter, with_held, released}
use Rattle.lawful_cycle.specs.Issue.{is_clear_on}
use Rattle.core_context.specs.Issuable.{IsAnswered, may_issue_at, IsMarked, AreLetGo, must_wait, AreHeld, IsClear}
use Rattle.core_context.specs.Queued.{unheld}
use Rattle.core_context.specs.Steps.{IsRemarked}
use Rattle.core_context.specs.Track.{Track, issued}
use Rattle.core_context.proofs.Queue.{unheld-map}
use Rattle.core_context.proofs.WaiterMarks.{remark_none}
use Rattle.core_context.proofs.Waiting.{same_place}

-- ---- marks

same_waiter : (c k d j : ℕ) (flag : Bool) (w : Waiter) → is_waiter d j (with_held c k flag w) ≡ is_waiter d j w
same_waiter c k d j flag w = by_test (is_waiter c k w)
  where
    by_test : (b : Bool) → is_waiter d j (if b then record w { held = flag } else w) ≡ is_waiter d j w
    by_test true = refl
    by_test false = refl

same_unheld : (c k : ℕ) (flag : Bool) (w : Waiter) → unheld (with_held c k flag w) ≡ unheld w
same_unheld c k flag w = by_test (is_waiter c k w)
  where
    by_test : (b : Bool) → unheld (if b then record w { held = flag } else w) ≡ unheld w
    by_test true = refl
    by_test false = refl

-- an entry is held, or let go, and nothing else has changed
pub held_remarked : (f g : Flow) (c k : ℕ) (flag : Bool) → g ≡ record f { waiters = map (with_held c k flag) f.waiters } → IsRemarked f g
held_remarked f g c k flag is =
    let marked : List Waiter = map (with_held c k flag) f.waiters in
    record {
      flow = is ∙ ap (λ (ws : List Waiter). let r : Flow = record f { waiters = ws } in r) (sym (ap (λ (q : Flow). q.waiters) is));
      waits = ap (λ (q : Flow). map unheld q.waiters) is ∙ unheld-map (with_held c k flag) (same_unheld c k flag) f.waiters;
    }

pub remarked_twice : (f g h : Flow) → IsRemarked f g → IsRemarked g h → IsRemarked f h
remarked_twice f g h one two = record {
  flow = two.flow ∙ ap (λ (q : Flow). let r : Flow = record q { waiters = h.waiters } in r) one.flow;
  waits = two.waits ∙ one.waits;
}

-- marks are none of a context's lane
pub remarked_lane : (f g : Flow) (c : ℕ) → IsRemarked f g → lane g c ≡ lane f c
remarked_lane f g c marks = ap (λ (q : Flow). lane q c) marks.flow

-- the entry is held
held_here : (f g : Flow) (c k : ℕ) → g ≡ record f { waiters = map (with_held c k true) f.waiters } → IsMarked g c k true
held_here f g c k is = rw is (All-map (λ (w : Waiter). is_waiter c k w ≡ true → w.held ≡ true) (with_held c k true) f.waiters (λ i d lt. one (get_or f.waiters i d)))
  where
    one : (w : Waiter) → is_waiter c k (with_held c k true w) ≡ true → (with_held c k true w).held ≡ true
    one w named = let same : is_waiter c k w ≡ true = sym (same_waiter c k c k true w) ∙ named in rw same refl

-- the entry at a place is held, which has to wait on the values that its sources have
pub held_waiting : (f g : Flow) (c : ℕ) (t : Track) (i first second : ℕ) (wait : Bool) (e : Entry) (sources : Option (ℕ × ℕ)) → e ≡ entry_at t.context i → sources ≡ sources_at (lane f c) i → sources ≡ Some (first, second) → wait ≡ not (may_issue_at t.context i first second)
    → wait ≡ true → g ≡ record f { waiters = map (with_held c e.stamp true) f.waiters } → IsMarked g c (entry_at t.context i).stamp (must_wait t.context i (sources_at (lane f c) i))
held_waiting f g c t i first second wait e sources entry read some told holds is =
    let asked : must_wait t.context i (sources_at (lane f c) i) ≡ true = ap (must_wait t.context i) (sym read ∙ some) ∙ sym told ∙ holds in
    subst (IsMarked g c (entry_at t.context i).stamp) (sym asked) (held_here f g c (entry_at t.context i).stamp (is ∙ ap (λ (n : Entry). let r : Flow = record f { waiters = map (with_held c n.stamp true) f.waiters } in r) entry))

-- and it stays let go where it has not
pub free_waiting : (f : Flow) (c : ℕ) (t : Track) (i : ℕ) → must_wait t.context i (sources_at (lane f c) i) ≡ false → IsMarked f c (entry_at t.context i).stamp false → IsMarked f c (entry_at t.context i).stamp (must_wait t.context i (sources_at (lane f c) i))
free_waiting f c t i asked let_go = subst (IsMarked f c (entry_at t.context i).stamp) (sym asked) let_go

-- an entry of another context or stamp is marked as it was
pub held_other : (f g : Flow) (c k : ℕ) (e : Entry) (d j : ℕ) (b : Bool) → e.stamp ≡ k → g ≡ record f { waiters = map (with_held c e.stamp true) f.waiters } → (j ≡ k → d ≢ c) → IsMarked f d j b → IsMarked g d j b
held_other f g c k entry d j b stamp is other before = rw (is, stamp) (All-map (λ (w : Waiter). is_waiter d j w ≡ true → w.held ≡ b) (with_held c k true) f.waiters (λ i e lt. one (get_or f.waiters i e) (before i e lt)))
  where
    one : (w : Waiter) → (is_waiter d j w ≡ true → w.held ≡ b) → is_waiter d j (with_held c k true w) ≡ true → (with_held c k true w).held ≡ b
    one w was named = by_test (is_waiter c k w) refl
      where
        of : is_waiter d j w ≡ true
        of = sym (same_waiter c k d j true w) ∙ named

        by_test : (t : Bool) → is_waiter c k w ≡ t → (let v : Waiter = if t then record w { held = true } else w in v.held) ≡ b
        by_test true h =
            let here = and_parts (w.context == c) (w.stamp == k) h in
            let there = and_parts (w.context == d) (w.stamp == j) of in
            absurd (other (sym (eqb-true w.stamp j there.1) ∙ eqb-true w.stamp k here.1) (sym (eqb-true w.context d there.0) ∙ eqb-true w.context c here.0))
        by_test false h = was of

-- ---- all are let go

pub released_remarked : (f g : Flow) → g ≡ record f { waiters = map released f.waiters } → IsRemarked f g
released_remarked f g is = record {
  flow = is ∙ ap (λ (ws : List Waiter). let r : Flow = record f { waiters = ws } in r) (sym (ap (λ (q : Flow). q.waiters) is));
  waits = ap (λ (q : Flow). map unheld q.waiters) is ∙ unheld-map released (λ w. refl) f.waiters;
}

pub released_all : (f g : Flow) → g ≡ record f { waiters = map released f.waiters } → AreLetGo g
released_all f g is = rw is (All-map (λ (w : Waiter). w.held ≡ false) released f.waiters (λ i d lt. refl))

pub let_go_marked : (f : Flow) → AreLetGo f → (c k : ℕ) → IsMarked f c k false
let_go_marked f all c k i d lt named = all i d lt

-- ---- entries that may issue

effect_may : (es : List Entry) (e : Effect) → is_load_effect e ≡ false → may_issue es e ≡ true
effect_may es (effect.Loads kind address) h = absurd cc
effect_may es e h = refl

-- what isn't a load may issue
pub plain_may : (es : List Entry) (o : Operation) (pc a b : ℕ) → is_load o ≡ false → is_clear_on es o pc a b ≡ true
plain_may es (Performs insn) pc a b h = effect_may es (effect_of insn pc a b) (effect_loads insn pc a b ∙ h)
plain_may es (Stops why) pc a b h = refl

clear_may : (es : List Entry) (o : Operation) (pc a b : ℕ) → ((s : Span) → is_clear es s ≡ true) → is_clear_on es o pc a b ≡ true
clear_may es (Performs insn) pc a b clear = by_effect (effect_of insn pc a b)
  where
    by_effect : (e : Effect) → may_issue es e ≡ true
    by_effect (effect.Loads kind address) = clear _
    by_effect e = refl
clear_may es (Stops why) pc a b clear = refl

-- where the queue has no store that a load has to wait for each entry may
pub none_completed_may : (x : Context) (i a b : ℕ) → i < length x.flight → IsAnswered x i → ((s : Span) → is_clear_in (stores_of x.flight) (entry_at x i).stamp s ≡ true) → may_issue_at x i a b ≡ true
none_completed_may x i a b lt h none = clear_may (take i x.flight) (entry_at x i).operation (entry_at x i).pc a b clear
  where
    clear : (s : Span) → is_clear (take i x.flight) s ≡ true
    clear s = ap (λ o. is_clear_of o s) (sym (queue_newest (λ b. shares b.span s) (image_of x.state) (seen_of x.state) x.state.pc 0 x.flight i no_entry lt h.growing h.sound)) ∙ none s

-- a queued entry is in the flight
pub queued_within : (es : List Entry) (i : ℕ) → (get_or es i no_entry).stage ≡ Queued → i < length es
queued_within [] i h = absurd (let bad : Fetched ≡ Queued = h in cc)
queued_within (e ∷ es) zero h = omega arith
queued_within (e ∷ es) (suc i) h = let ih = queued_within es i h in omega (arith, ih)

-- what isn't a load has not to wait
pub plain_wait : (x : Context) (i : ℕ) → is_load (entry_at x i).operation ≡ false → (sources : Option (ℕ × ℕ)) → must_wait x i sources ≡ false
plain_wait x i h None = refl
plain_wait x i h (Some values) = ap not (plain_may (take i x.flight) (entry_at x i).operation (entry_at x i).pc values.0 values.1 h)

none_completed_wait : (x : Context) (i : ℕ) → i < length x.flight → IsAnswered x i → ((s : Span) → is_clear_in (stores_of x.flight) (entry_at x i).stamp s ≡ true) → (sources : Option (ℕ × ℕ)) → must_wait x i sources ≡ false
none_completed_wait x i lt h none None = refl
none_completed_wait x i lt h none (Some values) = ap not (none_completed_may x i values.0 values.1 lt h none)

-- so none has to where no store has completed
pub none_completed_held : (f : Flow) (c : ℕ) (t : Track) → ((i : ℕ) → i < t.renamed → IsAnswered t.context i) → ((k : ℕ) → IsMarked f c k false)
    → ((i : ℕ) (s : Span) → i < t.renamed → is_clear_in (stores_of t.context.flight) (entry_at t.context i).stamp s ≡ true) → AreHeld f c t
none_completed_held f c t answered let_go none i lt stage =
    free_waiting f c t i (none_completed_wait t.context i (queued_within t.context.flight i stage) (answered i lt) (λ s. none i s lt) (sources_at (lane f c) i)) (let_go (entry_at t.context i).stamp)

-- ---- the loads of a context, one after another

-- the first entries of a context were asked of, and the loads of them that have to wait are held
pub record AreHeldBelow (old f : Flow) (c : ℕ) (t : Track) (n : ℕ) : Type 0 where
  pub flow : IsRemarked old f
  pub held : (i : ℕ) → i < n → (entry_at t.context i).stage ≡ Queued → IsMarked f c (entry_at t.context i).stamp (must_wait t.context i (sources_at (lane old c) i))
  pub rest : (i : ℕ) → n ≤ i → i < length t.context.flight → IsMarked f c (entry_at t.context i).stamp false
  pub others : (d k : ℕ) (b : Bool) → d ≢ c → IsMarked old d k b → IsMarked f d k b

pub held_first : (f : Flow) (c : ℕ) (t : Track) → ((k : ℕ) → IsMarked f c k false) → AreHeldBelow f f c t 0
held_first f c t let_go = record { flow = remark_none f; held = λ i lt. absurd (omega (arith, lt)); rest = λ i le lt. let_go (entry_at t.context i).stamp; others = λ d k b other h. h }

-- one more
pub held_next : (old f g : Flow) (c : ℕ) (t : Track) (n : ℕ) → AreHeldBelow old f c t n → n < length t.context.flight → IsGrowing 0 t.context.flight → IsRemarked f g
    → ((entry_at t.context n).stage ≡ Queued → IsMarked g c (entry_at t.context n).stamp (must_wait t.context n (sources_at (lane f c) n)))
    → ((d k : ℕ) (b : Bool) → (k ≡ (entry_at t.context n).stamp → d ≢ c) → IsMarked f d k b → IsMarked g d k b) → AreHeldBelow old g c t (n + 1)
held_next old f g c t n h lt growing marks here others = record {
  flow = remarked_twice old f g h.flow marks;
  held = λ i below stage. elim (cases_lt i n) [
    | inl before ↦ others c (entry_at t.context i).stamp (must_wait t.context i (sources_at (lane old c) i)) (λ same. apart i (queued_within t.context.flight i stage) same (omega (arith, before))) (h.held i before stage)
    | inr from ↦ let last : i ≡ n = omega (arith, from, below) in at_place i last stage
  ];
  rest = λ i le within. others c (entry_at t.context i).stamp false (λ same. apart i within same (omega (arith, le))) (h.rest i (omega (arith, le)) within);
  others = λ d k b other was. others d k b (λ same. other) (h.others d k b other was);
}
  where
    apart : (i : ℕ) → i < length t.context.flight → (entry_at t.context i).stamp ≡ (entry_at t.context n).stamp → i ≢ n → c ≢ c
    apart i within same other = absurd (other (same_place 0 t.context.flight i n growing within lt same))

    at_place : (i : ℕ) → i ≡ n → (entry_at t.context i).stage ≡ Queued → IsMarked g c (entry_at t.context i).stamp (must_wait t.context i (sources_at (lane old c) i))
    at_place i last stage =
        let lanes : lane f c ≡ lane old c = remarked_lane old f c h.flow in
        rw last (rw lanes at here (rw last at stage))

-- places where no load waits are passed over
pub held_skip : (old f : Flow) (c : ℕ) (t : Track) (n m : ℕ) → AreHeldBelow old f c t n → n ≤ m → ((i : ℕ) → n ≤ i → i < m → is_waiting_load (entry_at t.context i) ≡ false) → AreHeldBelow old f c t m
held_skip old f c t n m h le none = record {
  flow = h.flow;
  held = λ i lt stage. elim (cases_lt i n) [
    | inl before ↦ h.held i before stage
    | inr from ↦ subst (IsMarked f c (entry_at t.context i).stamp) (sym (plain_wait t.context i (other i (none i (omega (arith, from)) lt) stage) (sources_at (lane old c) i))) (h.rest i (omega (arith, from)) (queued_within t.context.flight i stage))
  ];
  rest = λ i from within. h.rest i (omega (arith, le, from)) within;
  others = h.others;
}
  where
    other : (i : ℕ) → is_waiting_load (entry_at t.context i) ≡ false → (entry_at t.context i).stage ≡ Queued → is_load (entry_at t.context i).operation ≡ false
    other i idle stage = sym (ap (λ s. is_waiting_stage s && is_load (entry_at t.context i).operation) stage) ∙ idle

-- all of them
pub held_all : (old f : Flow) (c : ℕ) (t : Track) (n : ℕ) → AreHeldBelow old f c t n → t.renamed ≤ n → AreHeld f c t
held_all old f c t n h le i lt stage =
    let lanes : lane f c ≡ lane old c = remarked_lane old f c h.flow in
    rw lanes (h.held i (omega (arith, le, lt)) stage)

-- of another context they are held still
pub held_kept : (f g : Flow) (c : ℕ) (t : Track) → IsRemarked f g → ((k : ℕ) (b : Bool) → IsMarked f c k b → IsMarked g c k b) → AreHeld f c t → AreHeld g c t
held_kept f g c t marks keeps held i lt stage =
    let lanes : lane g c ≡ lane f c = remarked_lane f g c marks in
    rw lanes (keeps (entry_at t.context i).stamp (must_wait t.context i (sources_at (lane f c) i)) (held i lt stage))

-- ---- an entry that issues

issued_newest : (test : Bytes → Bool) (j : ℕ) (es : List Entry) (i : ℕ) (x : Execution) → (get_or es i no_entry).stage ≡ Queued → newest test (take j (set es i (with_stage (get_or es i no_entry) (Issued x)))) ≡ newest test (take j es)
issued_newest test zero es i x stage = refl
issued_newest test (suc j) [] i x stage = refl
issued_newest test (suc j) (e ∷ es) zero x stage = rw stage refl
issued_newest test (suc j) (e ∷ es) (suc i) x stage = rw (issued_newest test j es i x stage) refl

-- but for its stage it is what it was
issued_entry : (es : List Entry) (i j : ℕ) (x : Execution) → with_stage (get_or (set es i (with_stage (get_or es i no_entry) (Issued x))) j no_entry) Queued ≡ with_stage (get_or es j no_entry) Queued
issued_entry [] i j x = refl
issued_entry (e ∷ es) zero zero x = refl
issued_entry (e ∷ es) zero (suc j) x = refl
issued_entry (e ∷ es) (suc i) zero x = refl
issued_entry (e ∷ es) (suc i) (suc j) x = issued_entry es i j x

same_may : (es fs : List Entry) (o : Operation) (pc a b : ℕ) → ((s : Span) → is_clear es s ≡ is_clear fs s) → is_clear_on es o pc a b ≡ is_clear_on fs o pc a b
same_may es fs (Performs insn) pc a b same = by_effect (effect_of insn pc a b)
  where
    by_effect : (e : Effect) → may_issue es e ≡ may_issue fs e
    by_effect (effect.Loads kind address) = same _
    by_effect e = refl
same_may es fs (Stops why) pc a b same = refl

-- a queued entry that issues leaves what the others wait for
pub issued_may : (t : Track) (i j : ℕ) (x : Execution) (a b : ℕ) → (entry_at t.context i).stage ≡ Queued → may_issue_at (issued t i x).context j a b ≡ may_issue_at t.context j a b
issued_may t i j x a b stage =
    let same = issued_entry t.context.flight i j x in
    let e = entry_at (issued t i x).context j in
    same_may (take j (issued t i x).context.flight) (take j t.context.flight) e.operation e.pc a b clear
    ∙ ap (λ (n : Entry). is_clear_on (take j t.context.flight) n.operation n.pc a b) same
  where
    clear : (s : Span) → is_clear (take j (issued t i x).context.flight) s ≡ is_clear (take j t.context.flight) s
    clear s = rw (issued_newest _ j t.context.flight i x stage) refl

-- so the names of the others are clear still
pub issued_clear : (f : Flow) (c k : ℕ) (t : Track) (i : ℕ) (x : Execution) → (entry_at t.context i).stage ≡ Queued → IsClear f c t k → IsClear f c (issued t i x) k
issued_clear f c k t i x stage clear j a b lt stamp sources =
    issued_may t i j x a b stage ∙ clear j a b lt (sym (ap (λ (n : Entry). n.stamp) (issued_entry t.context.flight i j x)) ∙ stamp) sources

-- How many entries complete, and that the part is lawful.
use Rattle.std.proofs.Common.{◌≡◌, ℕ, zero, suc, ◌+◌, ◌<◌, ◌≤◌, cond, List, [], ◌∷◌, length, take, get_or, map, Option, Some, None, refl, sym, ap, ◌∙◌, arith, add-one}
use Rattle.std.specs.Prelude.{count_by, sum_by, is_some}
use Rattle.std.proofs.lemmas.List.{length-map, take-map}
use Rattle.std.proofs.lemmas.List.Sums.{sum_by-cons}
use Rattle.core_view.specs.declared.entry.Execution.{Execution}
use Rattle.core_view.specs.declared.entry.Entry.{Entry}
use Rattle.core_view.specs.View.{Context, no_entry}
use Rattle.core_view.specs.Events.{with_flight, due_at, kept_after, kept_length, completed_by, completed_at, completed_one, complete_in, complete_event}
use Rattle.core_view.proofs.Completed.{from_step}
use Rattle.core_view.proofs.Cut.{front_take, front_length, completed_front, cut_at}
use Rattle.core_view.proofs.RingForm.{kept_take}
use Rattle.lawful_cycle.specs.Views.{eight}
use Rattle.lawful_cycle.specs.Complete.{IsCompletedTo, completed_in, IsComplete}
use Rattle.core_back.specs.Machine.{Machine, context_at, with_context, with_contexts, completed_context, due_in, no_context}
use Rattle.core_back.specs.Coming.{to_come, number_of}
use Rattle.core_back.proofs.ContextByContext.{mapped}
use Rattle.core_back.proofs.CompletedByPlace.{due_some, set_here}

-- ---- one context

count_cons : (cycle : ℕ) (e : Entry) (es : List Entry) (d : Option Execution) → due_at cycle e.stage ≡ d → count_by (λ f. is_some (due_at cycle f.stage)) (e ∷ es) ≡ cond (is_some d) 1 0 + count_by (λ f. is_some (due_at cycle f.stage)) es
count_cons cycle e es d h = sum_by-cons (λ f. cond (is_some (due_at cycle f.stage)) 1 0) e es ∙ ap (λ o. cond (is_some o) 1 0 + count_by (λ f. is_some (due_at cycle f.stage)) es) h

take_front : (l k : ℕ) (es : List Entry) → l ≤ length (take k es) → take l (take k es) ≡ take l es
take_front zero k es le = refl
take_front (suc l) zero es le = absurd (omega arith)
take_front (suc l) (suc k) [] le = refl
take_front (suc l) (suc k) (e ∷ es) le = ap (λ fs. e ∷ fs) (take_front l k es (omega (arith, le)))

pub come_none : (cycle : ℕ) (es : List Entry) (i : ℕ) → due_in cycle es i ≡ None → to_come cycle (suc i) es ≡ to_come cycle i es
come_none cycle [] zero h = refl
come_none cycle [] (suc i) h = refl
come_none cycle (e ∷ es) zero h =
    let d : due_at cycle e.stage ≡ None = h in
    let long : length (completed_at cycle (e ∷ es)) ≡ suc (length (completed_at cycle es)) = ap (λ o. length (completed_by o e (completed_at cycle es))) d in
    let counted = count_cons cycle e (take (length (completed_at cycle es)) es) None d in
    let whole : to_come cycle zero (e ∷ es) ≡ count_by (λ f. is_some (due_at cycle f.stage)) (e ∷ take (length (completed_at cycle es)) es) = ap (λ k. count_by (λ f. is_some (due_at cycle f.stage)) (take k (e ∷ es))) long in
    omega (arith, whole, counted)
come_none cycle (e ∷ es) (suc i) h = come_none cycle es i h

pub come_some : (cycle : ℕ) (es : List Entry) (i : ℕ) (x : Execution) → due_in cycle es i ≡ Some x → 1 + to_come cycle (suc i) (complete_in es i x) ≡ to_come cycle i es
come_some cycle [] i x h = absurd cc
come_some cycle (e ∷ es) zero x h =
    let d : due_at cycle e.stage ≡ Some x = h in
    let kept = kept_after e x.outcome es in
    let long : suc (length (completed_at cycle kept)) ≡ length (completed_at cycle (e ∷ es)) = ap (λ fs. length fs) (from_step cycle zero (e ∷ es) no_entry x (omega arith) d) in
    let counted = count_cons cycle e (take (length (completed_at cycle kept)) es) (Some x) d in
    let whole : to_come cycle zero (e ∷ es) ≡ count_by (λ f. is_some (due_at cycle f.stage)) (e ∷ take (length (completed_at cycle kept)) es) = ap (λ k. count_by (λ f. is_some (due_at cycle f.stage)) (take k (e ∷ es))) (sym long) in
    let short : length (completed_at cycle kept) ≤ length (take (kept_length e x.outcome es) es) =
    omega (arith, front_length (completed_at cycle kept) (map (completed_one cycle) kept) (completed_front cycle kept), length-map kept (completed_one cycle), ap (λ fs. length fs) (kept_take e x.outcome es)) in
    let same : take (length (completed_at cycle kept)) kept ≡ take (length (completed_at cycle kept)) es =
    ap (take (length (completed_at cycle kept))) (kept_take e x.outcome es) ∙ take_front (length (completed_at cycle kept)) (kept_length e x.outcome es) es short in
    let rest : to_come cycle zero kept ≡ count_by (λ f. is_some (due_at cycle f.stage)) (take (length (completed_at cycle kept)) es) = ap (λ fs. count_by (λ f. is_some (due_at cycle f.stage)) fs) same in
    omega (arith, whole, counted, rest)
come_some cycle (e ∷ es) (suc i) x h = come_some cycle es i x h

pub come_end : (cycle i : ℕ) (es : List Entry) → length es ≤ i → to_come cycle i es ≡ 0
come_end cycle zero [] le = refl
come_end cycle zero (e ∷ es) le = absurd (omega arith)
come_end cycle (suc i) [] le = refl
come_end cycle (suc i) (e ∷ es) le = come_end cycle i es (omega (arith, le))

pub context_lawful : (cycle : ℕ) (x : Context) → IsCompletedTo cycle (length (completed_at cycle x.flight)) x (completed_context cycle x)
context_lawful cycle x = record {
  cut = cut_at cycle x.flight;
  is = ap (with_flight x) (front_take (completed_at cycle x.flight) (map (completed_one cycle) x.flight) (completed_front cycle x.flight) ∙ take-map (completed_one cycle) (length (completed_at cycle x.flight)) x.flight);
}

-- one that is due completes
pub come_step : (m n : Machine) (c i : ℕ) (x : Execution) → n ≡ with_context m c (complete_event (context_at m c) i x) → due_in m.view.cycle (context_at m c).flight i ≡ Some x
    → 1 + to_come m.view.cycle (i + 1) (context_at n c).flight ≡ to_come m.view.cycle i (context_at m c).flight
come_step m n c i x e due =
    let here = due_some m.view.cycle (context_at m c).flight i x due in
    let now : (context_at n c).flight ≡ complete_in (context_at m c).flight i x =
    ap (λ (k : Machine). (context_at k c).flight) e ∙ ap (λ (y : Context). y.flight) (set_here m.view.contexts c (complete_event (context_at m c) i x) i here.0) in
    rw (add-one i, now) (come_some m.view.cycle (context_at m c).flight i x due)

-- ---- all contexts

unfoldable pub sum_to : (ℕ → ℕ) → ℕ → ℕ
sum_to f zero = 0
sum_to f (suc k) = sum_to f k + f k

mapped_now : (f : Context → Context) (k : ℕ) (xs : List Context) → get_or (mapped f k xs) k no_context ≡ get_or xs k no_context
mapped_now f zero xs = refl
mapped_now f (suc k) [] = refl
mapped_now f (suc k) (x ∷ xs) = mapped_now f k xs

pub map_at : (f : Context → Context) (xs : List Context) (c : ℕ) → c < length xs → get_or (map f xs) c no_context ≡ f (get_or xs c no_context)
map_at f [] c lt = absurd (omega arith)
map_at f (x ∷ xs) zero lt = refl
map_at f (x ∷ xs) (suc c) lt = map_at f xs c (omega (arith, lt))

pub sum_first : (f : ℕ → ℕ) → 0 ≡ sum_to f 0
unfolding sum_to
sum_first f = refl

pub sum_next : (f : ℕ → ℕ) (k n more : ℕ) → n ≡ sum_to f k → more ≡ f k → n + more ≡ sum_to f (k + 1)
unfolding sum_to
sum_next f k n more h m = rw (add-one k) (omega (arith, h, m))

-- a context that hasn't had its part is as it was
pub number_now : (m n : Machine) (k : ℕ) → n ≡ with_contexts m (mapped (completed_context m.view.cycle) k m.view.contexts) → number_of n.view.cycle (context_at n k) ≡ number_of m.view.cycle (context_at m k)
number_now m n k e =
    ap (λ (q : Machine). number_of q.view.cycle (context_at q k)) e ∙ ap (number_of m.view.cycle) (mapped_now (completed_context m.view.cycle) k m.view.contexts)

pub complete_lawful : (m n : Machine) (completed : ℕ) → length m.view.contexts ≡ 8 → n ≡ with_contexts m (map (completed_context m.view.cycle) m.view.contexts) → completed ≡ sum_to (λ c. number_of m.view.cycle (context_at m c)) 8 → IsComplete m.view n.view completed
unfolding sum_to
complete_lawful m n completed count is number = record {
  contexts = record {
    contexts = record {
      count_before = count;
      count_after = ap (λ (q : Machine). length q.view.contexts) is ∙ length-map m.view.contexts (completed_context m.view.cycle) ∙ count;
      each = λ c lc. rw (now c lc) (context_lawful m.view.cycle (context_at m c));
    };
    profile = ap (λ (q : Machine). q.view.profile) is;
    cycle = ap (λ (q : Machine). q.view.cycle) is;
    stamp = ap (λ (q : Machine). q.view.stamp) is;
  };
  number = number ∙ all;
}
  where
    now : (c : ℕ) → c < 8 → context_at n c ≡ completed_context m.view.cycle (context_at m c)
    now c lc = ap (λ (q : Machine). context_at q c) is ∙ map_at (completed_context m.view.cycle) m.view.contexts c (omega (arith, lc, count))

    all : sum_to (λ c. number_of m.view.cycle (context_at m c)) 8 ≡ sum_by (λ c. completed_in m.view.cycle (length (context_at n c).flight) (context_at m c)) eight
    all = rw (now 0 (omega arith), now 1 (omega arith), now 2 (omega arith), now 3 (omega arith), now 4 (omega arith), now 5 (omega arith), now 6 (omega arith), now 7 (omega arith)) refl

-- Seats that stand for passes, and what their locks leave.
use Rattle.std.specs.Prelude.{All, Any}
use Rattle.std.proofs.Common.{◌≡◌, ℕ, zero, suc, ◌<◌, List, [], ◌∷◌, ◌++◌, length, refl, sym, ap, ◌∙◌, subst, ⊎_elim, inl, inr, arith, append_assoc, append-nil}
use Rattle.std.proofs.lemmas.List.{map-append, length-map}
use Rattle.std.proofs.lemmas.List.Elements.{All-nil, All-cons}
use Rattle.join_law.proofs.Laws.{each_place}
use Rattle.join_law.specs.declared.places.Eight.{Eight}
use Rattle.join_law.specs.Eight.{place_of}
use Rattle.checkpoint.specs.MarkValue.{MarkValue}
use Rattle.checkpoint_book.specs.declared.call.Call.{Call}
use Rattle.checkpoint_book.specs.declared.lock.Lock.{Lock}
use Rattle.checkpoint_book.specs.declared.lock.Seat.{Seat}
use Rattle.checkpoint_book.specs.declared.book.Book.{Book}
use Rattle.checkpoint_book.specs.declared.book.Pass.{Pass}
use Rattle.checkpoint_book.specs.declared.book.Closed.{Closed}
use Rattle.checkpoint_book.specs.Among.{In}
use Rattle.checkpoint_book.specs.History.{by}
use Rattle.checkpoint_book.specs.Views.{PassCalls}
use Rattle.checkpoint_book.specs.Steps.{SeatState}
use Rattle.checkpoint_book.specs.LockSeats.{StandsFor, StandsForAll, lock_passes, seat_passes}
use Rattle.checkpoint_book.specs.Passes.{AtEachLock, calls_at, opening_at, IsPassOf, IsNewPass, AreNewPasses}
use Rattle.checkpoint_book.specs.Closing.{pass_calls_at, StandForPasses, StandForAll, IsClosedLock, AreClosedLocks, IsClosedAt, IsClosed}

-- a fact of each lock, by its context
at_each : (P : ℕ → Lock → Seat → Type 0) (b : Book) (s : Eight Seat) → AtEachLock P b s → (i : ℕ) → i < 8 → P i (place_of b.locks i) (place_of s i)
at_each P b s h = each_place (λ i. P i (place_of b.locks i) (place_of s i)) h.at_0 h.at_1 h.at_2 h.at_3 h.at_4 h.at_5 h.at_6 h.at_7

from_each : (P : ℕ → Lock → Seat → Type 0) (b : Book) (s : Eight Seat) → ((i : ℕ) → i < 8 → P i (place_of b.locks i) (place_of s i)) → AtEachLock P b s
from_each P b s h = record { at_0 = h 0 (omega arith); at_1 = h 1 (omega arith); at_2 = h 2 (omega arith); at_3 = h 3 (omega arith); at_4 = h 4 (omega arith); at_5 = h 5 (omega arith); at_6 = h 6 (omega arith); at_7 = h 7 (omega arith) }

seat_passes_are : (l : Lock) (passes : List PassCalls) (s : Seat) → StandsFor l passes s → seat_passes s ≡ passes
seat_passes_are l passes s h = ap (λ (m : SeatState). m.0.passes) h.state

-- at a context, a seat stands for one pass more
pub stands_for_more : (l : Lock) (i : ℕ) (ps : List Pass) (p : Pass) (s s' : Seat) → StandsFor l (pass_calls_at i ps) s → StandsFor l (seat_passes s ++ (p.number, calls_at i p) ∷ []) s' → StandsFor l (pass_calls_at i (ps ++ p ∷ [])) s'
stands_for_more l i ps p s s' h more = subst (λ xs. StandsFor l xs s')
    (ap (λ xs. xs ++ (p.number, calls_at i p) ∷ []) (seat_passes_are l (pass_calls_at i ps) s h) ∙ sym (map-append (λ (q : Pass). (q.number, calls_at i q)) ps (p ∷ [])))
    more

-- a seat that stands for as many passes as its lock is for stands for all
stands_for_all : (l : Lock) (i n : ℕ) (ps : List Pass) (s : Seat) → length ps ≡ n → lock_passes l ≡ n → StandsFor l (pass_calls_at i ps) s → StandsForAll l s
stands_for_all l i n ps s many all h =
    let are = seat_passes_are l (pass_calls_at i ps) s h in record {
      own = subst (λ xs. StandsFor l xs s) (sym are) h;
      all = ap length are ∙ (length-map ps (λ (q : Pass). (q.number, calls_at i q)) ∙ (many ∙ sym all));
    }

pub stand_for_all : (b : Book) (ps : List Pass) (s : Eight Seat) → StandForPasses b ps s → length ps ≡ b.passes → StandForAll b s
stand_for_all b ps s h many = from_each (λ i l s. StandsForAll l s) b s
    (λ i inside. stands_for_all (place_of b.locks i) i b.passes ps (place_of s i) many (b.counted i inside) (at_each (λ i l s. StandsFor l (pass_calls_at i ps) s) b s h i inside))

all_in : {X : Type 0} (P : X → Type 0) (xs : List X) → ((x : X) → In xs x → P x) → All P xs
all_in P [] h = All-nil P
all_in P (x ∷ xs) h = All-cons P x xs (h x (inl refl)) (all_in P xs (λ y k. h y (inr k)))

pass_calls_in : (i : ℕ) (ps : List Pass) (p : Pass) → In ps p → In (pass_calls_at i ps) (p.number, calls_at i p)
pass_calls_in i [] p h = absurd h
pass_calls_in i (q ∷ ps) p h = ⊎_elim (λ (e : q ≡ p). inl (ap (λ (r : Pass). (r.number, calls_at i r)) e)) (λ t. inr (pass_calls_in i ps p t)) h

pass_of : (i : ℕ) (ps : List Pass) (x : PassCalls) → In (pass_calls_at i ps) x → Any (λ p. x.0 ≡ p.number) ps
pass_of i [] x h = absurd h
pass_of i (p ∷ ps) x h = ⊎_elim
    (λ (e : (p.number, calls_at i p) ≡ x). (0, p, omega arith, refl, sym (ap (λ (y : PassCalls). y.0) e)))
    (λ t. let r = pass_of i ps x t in (suc r.0, r.1, (let inside = r.2 in omega arith), r.3, r.4))
    h

-- what is left at a context, in the words of passes; the mark is aligned, since it is kin to the opening mark
closed_at : (b : Book) (i : ℕ) (ps : List Pass) (s : Seat) (mark : MarkValue) (history : List Call) → i < 8 → StandsFor (place_of b.locks i) (pass_calls_at i ps) s → IsClosedLock (opening_at i b) (seat_passes s) mark history → IsClosedAt b i ps mark history
closed_at b i ps s mark history inside h e =
    let are = seat_passes_are (place_of b.locks i) (pass_calls_at i ps) s h in
    let opening = b.aligned i inside in record {
      legal = e.legal;
      own = all_in _ ps (λ p k. sym (e.own (p.number, calls_at i p) (subst (λ xs. In xs (p.number, calls_at i p)) (sym are) (pass_calls_in i ps p k))));
      no_others = all_in _ history (λ c k. let o = e.no_others c k in pass_of i ps (by c, o.0) (subst (λ xs. In xs (by c, o.0)) are o.1));
      best = e.best;
      aligned = record { of_origin = sym e.kin.origin ∙ opening.of_origin; of_context = sym e.kin.context ∙ opening.of_context };
    }

pub closed : (b : Book) (ps : List Pass) (s : Eight Seat) (c : Closed) → StandForPasses b ps s → AreClosedLocks b s c → IsClosed b ps c
closed b ps s c h left = λ i inside. closed_at b i ps (place_of s i) (place_of c.marks i) (place_of c.histories i).items inside (at_each (λ i l s. StandsFor l (pass_calls_at i ps) s) b s h i inside) (left i inside)

-- what is left at each context, from what each lock leaves
pub each_closed : (b : Book) (s : Eight Seat) (c : Closed)
    → IsClosedLock (opening_at 0 b) (seat_passes s.c0) c.marks.c0 c.histories.c0.items → IsClosedLock (opening_at 1 b) (seat_passes s.c1) c.marks.c1 c.histories.c1.items
    → IsClosedLock (opening_at 2 b) (seat_passes s.c2) c.marks.c2 c.histories.c2.items → IsClosedLock (opening_at 3 b) (seat_passes s.c3) c.marks.c3 c.histories.c3.items
    → IsClosedLock (opening_at 4 b) (seat_passes s.c4) c.marks.c4 c.histories.c4.items → IsClosedLock (opening_at 5 b) (seat_passes s.c5) c.marks.c5 c.histories.c5.items
    → IsClosedLock (opening_at 6 b) (seat_passes s.c6) c.marks.c6 c.histories.c6.items → IsClosedLock (opening_at 7 b) (seat_passes s.c7) c.marks.c7 c.histories.c7.items
    → AreClosedLocks b s c
each_closed b s c = each_place (λ i. IsClosedLock (opening_at i b) (seat_passes (place_of s i)) (place_of c.marks i) (place_of c.histories i).items)

-- one pass more got its own seats
pub one_more : (b : Book) (n m : ℕ) (ps : List Pass) (p : Pass) → AreNewPasses b n (suc m) ps → IsNewPass b m p → AreNewPasses b n m (ps ++ p ∷ [])
one_more b n m [] p h new = (m, h, new, refl)
one_more b n m (q ∷ ps) p h new = (h.0, h.1, h.2, one_more b h.0 m ps p h.3 new)

-- each of the new passes is one of the book's
pub all_own : (b : Book) (n m : ℕ) (ps : List Pass) → AreNewPasses b n m ps → All (IsPassOf b) ps
all_own b n m [] h = All-nil (IsPassOf b)
all_own b n m (p ∷ ps) h = All-cons (IsPassOf b) p ps h.2.own (all_own b h.0 m ps h.3)

pub none_left : (xs : List Pass) → length xs ≡ 0 → xs ≡ []
none_left [] e = refl
none_left (x ∷ xs) e = absurd (omega arith)

-- the pass that comes is the next of all
pub goes_on : (b : Book) (s s' : Eight Seat) (rest rest' all : List Pass) (x : Pass) → rest ≡ x ∷ rest' → ((ps : List Pass) × StandForPasses b ps s × (ps ++ rest ≡ all)) → ((ps : List Pass) → StandForPasses b ps s → StandForPasses b (ps ++ x ∷ []) s')
    → ((ps : List Pass) × StandForPasses b ps s' × (ps ++ rest' ≡ all))
goes_on b s s' rest rest' all x e h f = (h.0 ++ x ∷ [], f h.0 h.1, append_assoc h.0 (x ∷ []) rest' ∙ (ap (λ l. h.0 ++ l) (sym e) ∙ h.2))

pub all_done : (b : Book) (s : Eight Seat) (rest all : List Pass) → rest ≡ [] → ((ps : List Pass) × StandForPasses b ps s × (ps ++ rest ≡ all)) → StandForPasses b all s
all_done b s rest all e h = subst (λ ps. StandForPasses b ps s) (sym (append-nil h.0) ∙ (ap (λ l. h.0 ++ l) (sym e) ∙ h.2)) h.1

-- The end of a flight, as it is kept beside it, event by event.
use Rattle.std.proofs.Common.{◌≡◌, ℕ, zero, suc, ◌+◌, ◌-◌, ◌<◌, Bool, true, false, List, [], ◌∷◌, ◌++◌, length, get_or, drop, Some, None, refl, sym, ap, ◌∙◌, arith, inl, inr, ◌⊎◌}
use Rattle.std.specs.Prelude.{set, not}
use Rattle.std.proofs.lemmas.List.{length-set}
use Rattle.circular_buffer.specs.Buffer.{last_item}
use Rattle.core_view.specs.declared.entry.Entry.{Entry}
use Rattle.core_view.specs.declared.outcome.Step.{Step}
use Rattle.core_view.specs.declared.outcome.Outcome.{Outcome}
use Rattle.core_view.specs.declared.outcome.Outcome.TheVariants.{Goes, Stops}
use Rattle.core_view.specs.Operations.{stops_at_fetch}
use Rattle.core_view.specs.Events.{followed_by}
use Rattle.core_view.specs.Flight.{pc_past, is_open}
use Rattle.core_view.specs.View.{no_entry}
use Rattle.core_context.specs.Ends.{IsEnd}
use Rattle.core_context.proofs.Tracks.{pc_last, pc_some, open_some, none_last}

-- ---- another entry at a place

pc_set : (pc : ℕ) (es : List Entry) (i : ℕ) (e : Entry) → e.followed ≡ (get_or es i no_entry).followed → pc_past pc (set es i e) ≡ pc_past pc es
pc_set pc [] i e same = refl
pc_set pc (f ∷ es) zero e same = ap (λ q. pc_past q es) same
pc_set pc (f ∷ es) (suc i) e same = pc_set f.followed es i e same

-- what entry stands at a place is nothing to fetch, but for its operation
pub open_set : (es : List Entry) (i : ℕ) (e : Entry) → e.operation ≡ (get_or es i no_entry).operation → is_open (set es i e) ≡ is_open es
open_set [] i e same = refl
open_set (f ∷ []) zero e same = ap (λ o. not (stops_at_fetch o)) same
open_set (f ∷ []) (suc i) e same = refl
open_set (f ∷ g ∷ es) zero e same = refl
open_set (f ∷ g ∷ es) (suc zero) e same = open_set (g ∷ es) zero e same
open_set (f ∷ g ∷ es) (suc (suc i)) e same = open_set (g ∷ es) (suc i) e same

-- an entry comes further, followed as it was
pub end_set : (pc q : ℕ) (b : Bool) (es fs : List Entry) (i : ℕ) (e : Entry) → IsEnd pc q b es → fs ≡ set es i e → e.followed ≡ (get_or es i no_entry).followed → e.operation ≡ (get_or es i no_entry).operation → IsEnd pc q b fs
end_set pc q b es fs i e end is followed operation = rw is (record { pc_is = end.pc_is ∙ sym (pc_set pc es i e followed); open_is = end.open_is ∙ sym (open_set es i e operation) })

at_end : (i n : ℕ) → i < n → (i + 1 ≡ n) ⊎ (i + 1 < n)
at_end i n lt = grind arith

-- the entry before the last one leaves the end as it is, whatever it is followed at
pc_before : (pc : ℕ) (es : List Entry) (i : ℕ) (e : Entry) → i + 1 < length es → pc_past pc (set es i e) ≡ pc_past pc es
pc_before pc [] i e lt = refl
pc_before pc (f ∷ []) i e lt = absurd (omega arith)
pc_before pc (f ∷ g ∷ es) zero e lt = refl
pc_before pc (f ∷ g ∷ es) (suc i) e lt = pc_before f.followed (g ∷ es) i e (omega arith)

-- an entry completes: where it is the last one, fetch goes on where it is followed then
pub end_finished : (pc q r : ℕ) (b : Bool) (es fs : List Entry) (i : ℕ) (e : Entry) → IsEnd pc q b es → i < length es → fs ≡ set es i e → e.operation ≡ (get_or es i no_entry).operation
    → (i + 1 ≡ length fs → r ≡ (get_or fs i no_entry).followed) → (i + 1 < length fs → r ≡ q) → IsEnd pc r b fs
end_finished pc q r b es fs i e end lt is operation last before = record { pc_is = by_place (at_end i (length fs) within); open_is = end.open_is ∙ sym (ap is_open is ∙ open_set es i e operation) }
  where
    size : length fs ≡ length es
    size = ap (λ gs. length gs) is ∙ length-set es i e

    within : i < length fs
    within = omega (arith, size, lt)

    by_place : (i + 1 ≡ length fs) ⊎ (i + 1 < length fs) → r ≡ pc_past pc fs
    by_place (inl here) = let at : i ≡ length fs - 1 = omega (arith, here) in last here ∙ ap (λ k. (get_or fs k no_entry).followed) at ∙ sym (pc_last pc fs no_entry (omega (arith, within)))
    by_place (inr more) = before more ∙ end.pc_is ∙ sym (ap (λ gs. pc_past pc gs) is ∙ pc_before pc es i e (omega (arith, more, size)))

-- fetch went on where it goes: it is followed there still
pub followed_still : (followed : ℕ) (o : Outcome) → ((step : Step) → o ≡ Goes step → followed ≡ step.next) → followed_by followed o ≡ followed
followed_still followed (Goes step) h = sym (h step refl)
followed_still followed (Stops why) h = refl

-- ---- one more entry, and one fewer

pc_push : (pc : ℕ) (es : List Entry) (e : Entry) → pc_past pc (es ++ e ∷ []) ≡ e.followed
pc_push pc [] e = refl
pc_push pc (f ∷ es) e = pc_push f.followed es e

open_push : (es : List Entry) (e : Entry) → is_open (es ++ e ∷ []) ≡ not (stops_at_fetch e.operation)
open_push [] e = refl
open_push (f ∷ []) e = refl
open_push (f ∷ g ∷ es) e = open_push (g ∷ es) e

pub end_push : (pc q : ℕ) (b : Bool) (es fs : List Entry) (e : Entry) → fs ≡ es ++ e ∷ [] → q ≡ e.followed → b ≡ not (stops_at_fetch e.operation) → IsEnd pc q b fs
end_push pc q b es fs e is followed goes = rw is (record { pc_is = followed ∙ sym (pc_push pc es e); open_is = goes ∙ sym (open_push es e) })

-- the oldest entry leaves, which goes on where it was followed
pub end_retired : (pc next q : ℕ) (b : Bool) (es fs : List Entry) → IsEnd pc q b es → 0 < length es → fs ≡ drop 1 es → (get_or es 0 no_entry).followed ≡ next → stops_at_fetch (get_or es 0 no_entry).operation ≡ false → IsEnd next q b fs
end_retired pc next q b es fs end some is followed goes = rw is (by_list es end some followed goes)
  where
    by_list : (es : List Entry) → IsEnd pc q b es → 0 < length es → (get_or es 0 no_entry).followed ≡ next → stops_at_fetch (get_or es 0 no_entry).operation ≡ false → IsEnd next q b (drop 1 es)
    by_list [] end some followed goes = absurd (omega arith)
    by_list (e ∷ []) end some followed goes = record { pc_is = end.pc_is ∙ followed; open_is = end.open_is ∙ ap not goes }
    by_list (e ∷ f ∷ es) end some followed goes = record { pc_is = end.pc_is; open_is = end.open_is }

-- ---- read anew

pub end_some : (pc q : ℕ) (b : Bool) (es : List Entry) (e : Entry) → last_item es ≡ Some e → q ≡ e.followed → b ≡ not (stops_at_fetch e.operation) → IsEnd pc q b es
end_some pc q b es e is followed goes = record { pc_is = followed ∙ pc_some pc es e is; open_is = goes ∙ open_some es e is }

pub end_none : (pc : ℕ) (es : List Entry) → last_item es ≡ None → IsEnd pc pc true es
end_none pc es is = let none : es ≡ [] = none_last es is in rw none (record { pc_is = refl; open_is = refl })

pub end_empty : (pc : ℕ) (es : List Entry) → es ≡ [] → IsEnd pc pc true es
end_empty pc es none = rw none (record { pc_is = refl; open_is = refl })

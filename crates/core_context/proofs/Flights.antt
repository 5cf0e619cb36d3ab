-- Flights of which the oldest entries are renamed.
use Rattle.std.proofs.Common.{◌≡◌, ℕ, zero, suc, ◌+◌, ◌<◌, ◌≤◌, true, List, [], ◌∷◌, ◌++◌, length, get_or, take, drop, subst, arith}
use Rattle.std.specs.Prelude.{set, All}
use Rattle.std.proofs.lemmas.List.Elements.{All-nil, All-cons}
use Rattle.core_view.specs.declared.entry.Stage.TheVariants.{Fetched}
use Rattle.core_view.specs.declared.entry.Entry.{Entry}
use Rattle.core_view.specs.Flight.{IsGrowing, IsStampedBelow}
use Rattle.core_view.specs.Queues.{is_renamed, AllRenamed}
use Rattle.core_view.specs.View.{no_entry}
use Rattle.core_context.specs.Cores.{AllFetched}

-- ---- renamed entries

pub renamed-set : (es : List Entry) (i : ℕ) (e : Entry) → is_renamed e.stage ≡ true → AllRenamed es → AllRenamed (set es i e)
renamed-set [] i e h a = tt
renamed-set (x ∷ es) zero e h a = (h, a.1)
renamed-set (x ∷ es) (suc i) e h a = (a.0, renamed-set es i e h a.1)

pub renamed-push : (es : List Entry) (e : Entry) → AllRenamed es → is_renamed e.stage ≡ true → AllRenamed (es ++ e ∷ [])
renamed-push [] e a h = (h, tt)
renamed-push (x ∷ es) e a h = (a.0, renamed-push es e a.1 h)

pub renamed-take : (n : ℕ) (es : List Entry) → AllRenamed es → AllRenamed (take n es)
renamed-take zero es a = tt
renamed-take (suc n) [] a = tt
renamed-take (suc n) (e ∷ es) a = (a.0, renamed-take n es a.1)

-- ---- fetched entries

pub fetched_at : (es : List Entry) (i : ℕ) → AllFetched es → i < length es → (get_or es i no_entry).stage ≡ Fetched
fetched_at [] i a lt = absurd (omega arith)
fetched_at (e ∷ es) zero a lt = a.0
fetched_at (e ∷ es) (suc i) a lt = fetched_at es i a.1 (omega arith)

-- those from a place on are
pub fetched_after : (n : ℕ) (es : List Entry) (i : ℕ) → AllFetched (drop n es) → n ≤ i → i < length es → (get_or es i no_entry).stage ≡ Fetched
fetched_after zero es i a from lt = fetched_at es i a lt
fetched_after (suc n) [] i a from lt = absurd (omega arith)
fetched_after (suc n) (e ∷ es) zero a from lt = absurd (omega arith)
fetched_after (suc n) (e ∷ es) (suc i) a from lt = fetched_after n es i a (omega arith) (omega arith)

pub fetched-rest : (e : Entry) (es fs : List Entry) → fs ≡ e ∷ es → AllFetched fs → AllFetched es
fetched-rest e es fs is a = let all : AllFetched (e ∷ es) = subst AllFetched is a in all.1

pub fetched-push : (es : List Entry) (e : Entry) → AllFetched es → e.stage ≡ Fetched → AllFetched (es ++ e ∷ [])
fetched-push [] e a h = (h, tt)
fetched-push (x ∷ es) e a h = (a.0, fetched-push es e a.1 h)

-- ---- stamps

pub growing_take : (low n : ℕ) (es : List Entry) → IsGrowing low es → IsGrowing low (take n es)
growing_take low zero es g = tt
growing_take low (suc n) [] g = tt
growing_take low (suc n) (e ∷ es) g = (g.0, growing_take (e.stamp + 1) n es g.1)

pub stamps_below : (next : ℕ) (es : List Entry) → IsStampedBelow next es → All (λ e. e.stamp < next) es
stamps_below next [] b = All-nil (λ e. e.stamp < next)
stamps_below next (e ∷ es) b = All-cons (λ e. e.stamp < next) e es b.0 (stamps_below next es b.1)

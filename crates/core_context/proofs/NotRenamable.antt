-- What keeps the oldest fetched entry from being renamed, one reason each.
use Rattle.std.proofs.Common.{◌≡◌, ℕ, zero, suc, ◌+◌, ◌<◌, ◌≤◌, Bool, true, false, sym, ap, subst, ◌∙◌, arith}
use Rattle.std.specs.Prelude.{◌==◌, not}
use Rattle.std.proofs.lemmas.Bool.{false≢true}
use Rattle.core_profile.specs.declared.profile.Profile.{Profile}
use Rattle.core_view.specs.declared.entry.Entry.{Entry}
use Rattle.core_view.specs.Operations.{destination_of}
use Rattle.core_view.specs.View.{entry_at}
use Rattle.data_flow.specs.Flow.{Flow, taken}
use Rattle.core_context.specs.Track.{Track}
use Rattle.core_context.specs.Renamable.{HasPlaces, IsRenamable}

-- its stamp is past a limit
pub past_limit : {f : Flow} {t : Track} {p : Profile} {cycle k : ℕ} (limit : ℕ) (e : Entry) → entry_at t.context t.renamed ≡ e → limit < e.stamp → k ≤ limit → IsRenamable f t p cycle k → ⊥
past_limit limit e here beyond within r = let stamp = ap (λ (x : Entry). x.stamp) here in omega (arith, beyond, within, stamp, r.stamp_is)

-- as many are renamed as may be
pub all_renamed : {f : Flow} {t : Track} {p : Profile} {cycle k : ℕ} (place most : ℕ) → place ≡ t.renamed → most ≡ p.reorder_buffer → most ≤ place → IsRenamable f t p cycle k → ⊥
all_renamed place most is most_is full r = omega (arith, is, most_is, full, r.fits)

-- fewer are renamed than may be
pub is_below : (place renamed most reorder : ℕ) → place ≡ renamed → most ≡ reorder → place < most → renamed < reorder
is_below place renamed most reorder is most_is lt = omega (arith, is, most_is, lt)

-- it was fetched too late
pub too_young : {f : Flow} {t : Track} {p : Profile} {cycle k : ℕ} (e : Entry) (b : Bool) → entry_at t.context t.renamed ≡ e → (e.fetched + p.front_delay ≤ cycle → b ≡ true) → b ≡ false → IsRenamable f t p cycle k → ⊥
too_young {p = p} {cycle = cycle} e b here test is r = false≢true (sym is ∙ test (subst (λ (x : Entry). x.fetched + p.front_delay ≤ cycle) here r.age))

positive : (n : ℕ) → not (n == 0) ≡ true → 0 < n
positive zero h = absurd cc
positive (suc n) h = omega arith

-- it has a destination, for which no register is free
pub no_register : {f : Flow} {t : Track} {p : Profile} {cycle k : ℕ} (e : Entry) (free : ℕ) (needs : Bool) → entry_at t.context t.renamed ≡ e → free + taken f ≡ f.extra → free ≡ 0 → needs ≡ not (destination_of e.operation == 0) → needs ≡ true
    → IsRenamable f t p cycle k → ⊥
no_register {f} {t} e free needs here count none is some r =
    let written : 0 < destination_of (entry_at t.context t.renamed).operation = subst (λ (x : Entry). 0 < destination_of x.operation) (sym here) (positive (destination_of e.operation) (sym is ∙ some)) in
    let room : taken f < f.extra = r.free written in
    omega (arith, count, none, room)

-- a queue has no place for it
pub no_places : {f : Flow} {t : Track} {p : Profile} {cycle k : ℕ} (e : Entry) (b : Bool) → entry_at t.context t.renamed ≡ e → (HasPlaces f t e.operation → b ≡ true) → b ≡ false → IsRenamable f t p cycle k → ⊥
no_places {f} {t} e b here test is r = false≢true (sym is ∙ test (subst (λ (x : Entry). HasPlaces f t x.operation) here (record { place = r.place; load = r.load; store = r.store })))

-- How many entries are in flight after an event of one context.
use Rattle.std.proofs.Common.{◌≡◌, ℕ, zero, suc, ◌+◌, ◌<◌, Bool, List, [], ◌∷◌, length, get_or, refl, sym, ap, subst, ◌∙◌, arith}
use Rattle.std.specs.Prelude.{set, sum_by}
use Rattle.std.proofs.lemmas.List.{length-map, length-set}
use Rattle.std.proofs.lemmas.List.Sums.{sum_by-cons, sum_by-set}
use Rattle.std.proofs.lemmas.List.FromFn.{length-range_with_len}
use Rattle.core_view.specs.Events.{issue_event}
use Rattle.core_view.specs.declared.note.Issue.{Issue}
use Rattle.core_view.specs.declared.note.EntryId.{EntryId}
use Rattle.rv64_decode.specs.declared.insn.Insn.{Insn}
use Rattle.core_view.specs.View.{Context}
use Rattle.core_back.specs.declared.machine.Machine.TheInside.{Inside}
use Rattle.core_back.specs.Machine.{Machine, context_at, in_flight, no_context, with_context}
use Rattle.core_back.specs.Shown.{machine_of}
use Rattle.core_context.specs.Track.{Track}
use Rattle.data_tags.specs.declared.delay.Kind.{Kind}
use Rattle.data_tags.specs.declared.delay.Lag.{Lag}
use Rattle.core_back.specs.Issued.{IsIssuedBy}
use Rattle.core_back.specs.Fetched.{IsPickTurn}
use Rattle.core_back.proofs.BlockTurns.{ids_length}
use Rattle.core_view.specs.declared.outcome.Outcome.{Outcome}

-- as many fewer are in flight as the flight of the context lost
pub in_flight-with_context : (m n : Machine) (c : ℕ) (x : Context) (lost : ℕ) → n ≡ with_context m c x → c < length m.view.contexts → lost + length x.flight ≡ length (context_at m c).flight → lost + in_flight n ≡ in_flight m
unfolding in_flight
in_flight-with_context m n c x lost e lt fewer =
    let total = sum_by-set (λ (y : Context). length y.flight) m.view.contexts c x no_context lt in
    subst (λ (q : Machine). lost + in_flight q ≡ in_flight m) (sym e) (omega (arith, total, fewer))

-- and the flight of the context lost as many as there are fewer in flight
pub flight-with_context : (m n : Machine) (c : ℕ) (x : Context) (lost : ℕ) → n ≡ with_context m c x → c < length m.view.contexts → lost + in_flight n ≡ in_flight m → lost + length x.flight ≡ length (context_at m c).flight
unfolding in_flight
flight-with_context m n c x lost e lt fewer =
    let total = sum_by-set (λ (y : Context). length y.flight) m.view.contexts c x no_context lt in
    let same = ap (λ (k : Machine). sum_by (λ (y : Context). length y.flight) k.view.contexts) e in
    omega (arith, total, same, fewer)

-- the same of the machine in memory
pub in_flight_after : {A : Type 0} (m : Inside A) (now v : Machine) (c : ℕ) (x : Context) (lost : ℕ) → machine_of m ≡ now → c < length m.tracks.items → v ≡ with_context now c x → lost + length x.flight ≡ length (context_at now c).flight → lost + in_flight v ≡ in_flight now
in_flight_after m now v c x lost shows lt e fewer =
    let contexts : length (machine_of m).view.contexts ≡ length now.view.contexts = ap (λ (u : Machine). length u.view.contexts) shows in
    in_flight-with_context now v c x lost e (omega (arith, lt, contexts, length-map m.tracks.items (λ (t : Track). t.context))) fewer

-- as many are in flight where the flight of the context is as long
pub in_flight_kept : {A : Type 0} (m : Inside A) (now v : Machine) (c : ℕ) (x : Context) → machine_of m ≡ now → c < length m.tracks.items → v ≡ with_context now c x → length x.flight ≡ length (context_at now c).flight → in_flight v ≡ in_flight now
in_flight_kept m now v c x shows lt e same = let all = in_flight_after m now v c x 0 shows lt e (omega (arith, same)) in omega (arith, all)

-- ---- issue, rename, fetch

pub in_flight_same : (m n : Machine) → n.view.contexts ≡ m.view.contexts → in_flight n ≡ in_flight m
unfolding in_flight
in_flight_same m n e = ap (λ (xs : List Context). sum_by (λ (y : Context). length y.flight) xs) e

set_same : (xs : List Context) (c : ℕ) (x : Context) → length x.flight ≡ length (get_or xs c no_context).flight → sum_by (λ (y : Context). length y.flight) (set xs c x) ≡ sum_by (λ (y : Context). length y.flight) xs
set_same [] c x e = refl
set_same (y ∷ ys) zero x e = let new = sum_by-cons (λ (z : Context). length z.flight) x ys in let old = sum_by-cons (λ (z : Context). length z.flight) y ys in omega (arith, new, old, e)
set_same (y ∷ ys) (suc c) x e =
    let new = sum_by-cons (λ (z : Context). length z.flight) y (set ys c x) in
    let old = sum_by-cons (λ (z : Context). length z.flight) y ys in
    omega (arith, new, old, set_same ys c x e)

-- one context is another, with as many entries in flight
in_flight-set_same : (m n : Machine) (c : ℕ) (x : Context) → n.view.contexts ≡ set m.view.contexts c x → length x.flight ≡ length (context_at m c).flight → in_flight n ≡ in_flight m
unfolding in_flight
in_flight-set_same m n c x e same = ap (λ (xs : List Context). sum_by (λ (y : Context). length y.flight) xs) e ∙ set_same m.view.contexts c x same

pub in_flight_issued : {says : ℕ → Kind → ℕ → Outcome → Lag → Type 0} (m n : Machine) (i : Issue) → IsIssuedBy says m n i → in_flight n ≡ in_flight m
in_flight_issued m n i is =
    in_flight-set_same m n i.entry.context (issue_event (context_at m i.entry.context) is.place is.execution) (ap (λ (k : Machine). k.view.contexts) is.after) (length-set (context_at m i.entry.context).flight is.place _)

pub in_flight_turn : {guesses : ℕ → ℕ → Insn → ℕ → Bool} (m n : Machine) (c num2 : ℕ) (before after : List EntryId) → IsPickTurn guesses m n c num2 before after → c < length m.view.contexts → in_flight n + length before ≡ in_flight m + length after
unfolding in_flight
in_flight_turn m n c num2 before after is lt =
    let total = sum_by-set (λ (y : Context). length y.flight) m.view.contexts c (context_at n c) no_context lt in
    let same = ap (λ (k : Machine). sum_by (λ (y : Context). length y.flight) k.view.contexts) is.is in
    let more = is.block.count in
    let stamps = length-range_with_len m.view.stamp is.number in
    let listed = ids_length before after m.view.stamp c is.number is.listed in
    omega (arith, total, same, more, stamps, listed)

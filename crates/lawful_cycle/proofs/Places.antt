-- What stands at a place of a flight after each part of a cycle.
use Rattle.std.proofs.Common.{◌≡◌, ℕ, zero, suc, ◌+◌, ◌<◌, Bool, List, [], ◌∷◌, length, map, take, drop, get_or, refl, sym, ap, ◌∙◌, subst, arith}
use Rattle.std.proofs.lemmas.List.{length-map, length-take, length-drop, get_or-map, get_or-take, get_or-drop}
use Rattle.rv64_decode.specs.declared.insn.Insn.{Insn}
use Rattle.core_view.specs.declared.entry.Entry.{Entry}
use Rattle.core_view.specs.declared.note.EntryId.{EntryId}
use Rattle.core_view.specs.declared.note.Issue.{Issue}
use Rattle.core_view.specs.declared.status.Status.{Status}
use Rattle.core_view.specs.declared.status.Status.TheVariants.{Running, Parked, Stopped}
use Rattle.core_view.specs.Events.{completed_one}
use Rattle.core_view.specs.View.{Context, entry_at, no_entry}
use Rattle.lawful_cycle.specs.Retire.{status_past, flight_if, RetiresBy}
use Rattle.lawful_cycle.specs.Complete.{IsCompletedTo}
use Rattle.lawful_cycle.specs.Issue.{issue_of, issued_if, issued_from}
use Rattle.lawful_cycle.specs.Rename.{renamed_if, renamed_context}
use Rattle.lawful_cycle.specs.Fetch.{IsBlock}

-- ---- retire: it stood so many places on

dropped : (n : ℕ) (es : List Entry) (s : Status) (i : ℕ) → i < length (flight_if s (drop n es)) → (n + i < length es) × (get_or (flight_if s (drop n es)) i no_entry ≡ get_or es (n + i) no_entry)
dropped n es Running i lt = let count = length-drop n es in (omega (arith, count, lt), get_or-drop n es i no_entry)
dropped n es Parked i lt = absurd (omega (arith, lt))
dropped n es (Stopped why) i lt = absurd (omega (arith, lt))

-- so many entries retired in front of it
abbrev pub StoodAt : ℕ → Context → Context → ℕ → Type 0
StoodAt n x y i = (n + i < length x.flight) × (entry_at y i ≡ entry_at x (n + i))

stays : (n : ℕ) (x y : Context) → n ≡ 0 → y ≡ x → (i : ℕ) → i < length y.flight → StoodAt n x y i
stays n x y none is i lt =
    let count : length y.flight ≡ length x.flight = ap (λ (u : Context). length u.flight) is in
    let at : i ≡ n + i = omega (arith, none) in
    (omega (arith, none, count, lt), ap (λ (u : Context). entry_at u i) is ∙ ap (entry_at x) at)

pub retired_at : (n : ℕ) (x y : Context) (s : Status) → RetiresBy n x y s → (i : ℕ) → i < length y.flight → StoodAt n x y i
retired_at n x y Running a i lt =
    let flight : y.flight ≡ flight_if (status_past x n) (drop n x.flight) = ap (λ (u : Context). u.flight) a.is in
    subst (λ es. i < length es → (n + i < length x.flight) × (get_or es i no_entry ≡ entry_at x (n + i))) (sym flight) (dropped n x.flight (status_past x n) i) lt
retired_at n x y Parked a i lt = stays n x y a.0 a.1 i lt
retired_at n x y (Stopped why) a i lt = stays n x y a.0 a.1 i lt

-- ---- complete

pub completed_at_place : (cycle k : ℕ) (x y : Context) → IsCompletedTo cycle k x y → (i : ℕ) → i < length y.flight → (i < length x.flight) × (entry_at y i ≡ completed_one cycle (entry_at x i))
completed_at_place cycle k x y h i lt =
    let flight : y.flight ≡ map (completed_one cycle) (take k x.flight) = ap (λ (u : Context). u.flight) h.is in
    let count : length y.flight ≡ length (take k x.flight) = ap (λ (es : List Entry). length es) flight ∙ length-map (take k x.flight) (completed_one cycle) in
    let front = length-take k x.flight in
    let lk : i < k = omega (arith, count, front, lt) in (
      omega (arith, count, front, lt),
      ap (λ (es : List Entry). get_or es i no_entry) flight
          ∙ get_or-map (completed_one cycle) (take k x.flight) i no_entry no_entry (omega (arith, count, lt))
          ∙ ap (completed_one cycle) (get_or-take k x.flight i no_entry lk),
    )

-- ---- issue

issued_at_from : (cycle c : ℕ) (ns : List Issue) (x : Context) (j : ℕ) (es : List Entry) (i : ℕ) → i < length (issued_from cycle c ns x j es)
    → (i < length es) × (get_or (issued_from cycle c ns x j es) i no_entry ≡ issued_if cycle x (j + i) (get_or es i no_entry) (issue_of c (get_or es i no_entry) ns))
issued_at_from cycle c ns x j [] i lt = absurd (omega (arith, lt))
issued_at_from cycle c ns x j (e ∷ es) zero lt = let at : j ≡ j + 0 = omega arith in (omega arith, ap (λ k. issued_if cycle x k e (issue_of c e ns)) at)
issued_at_from cycle c ns x j (e ∷ es) (suc i) lt =
    let rest = issued_at_from cycle c ns x (suc j) es i (omega (arith, lt)) in
    let within = rest.0 in
    let at : suc j + i ≡ j + suc i = omega arith in
    (omega (arith, within), rest.1 ∙ ap (λ k. issued_if cycle x k (get_or es i no_entry) (issue_of c (get_or es i no_entry) ns)) at)

pub issued_length : (cycle c : ℕ) (ns : List Issue) (x : Context) (j : ℕ) (es : List Entry) → length (issued_from cycle c ns x j es) ≡ length es
issued_length cycle c ns x j [] = refl
issued_length cycle c ns x j (e ∷ es) = let rest = issued_length cycle c ns x (suc j) es in omega (arith, rest)

pub issued_at_place : (cycle c : ℕ) (ns : List Issue) (x y : Context) → y ≡ record x { flight = issued_from cycle c ns x 0 x.flight } → (i : ℕ) → i < length y.flight
    → (i < length x.flight) × (entry_at y i ≡ issued_if cycle x i (entry_at x i) (issue_of c (entry_at x i) ns))
issued_at_place cycle c ns x y is i lt =
    let flight : y.flight ≡ issued_from cycle c ns x 0 x.flight = ap (λ (u : Context). u.flight) is in
    let here = issued_at_from cycle c ns x 0 x.flight i (subst (λ (es : List Entry). i < length es) flight lt) in
    let at : 0 + i ≡ i = omega arith in
    (here.0, ap (λ (es : List Entry). get_or es i no_entry) flight ∙ here.1 ∙ ap (λ k. issued_if cycle x k (entry_at x i) (issue_of c (entry_at x i) ns)) at)

-- ---- rename

pub renamed_at_place : (cycle c : ℕ) (ids : List EntryId) (x y : Context) → y ≡ renamed_context cycle ids c x → (i : ℕ) → i < length y.flight
    → (i < length x.flight) × (entry_at y i ≡ renamed_if cycle c ids (entry_at x i))
renamed_at_place cycle c ids x y is i lt =
    let flight : y.flight ≡ map (renamed_if cycle c ids) x.flight = ap (λ (u : Context). u.flight) is in
    let count : length y.flight ≡ length x.flight = ap (λ (es : List Entry). length es) flight ∙ length-map x.flight (renamed_if cycle c ids) in
    let below : i < length x.flight = omega (arith, count, lt) in
    (below, ap (λ (es : List Entry). get_or es i no_entry) flight ∙ get_or-map (renamed_if cycle c ids) x.flight i no_entry no_entry below)

-- ---- fetch: entries come behind

pub kept_at_place : (guesses : ℕ → Insn → ℕ → Bool) (cycle : ℕ) (stamps : List ℕ) (x y : Context) → IsBlock guesses cycle stamps x y → (i : ℕ) → i < length x.flight → entry_at y i ≡ entry_at x i
kept_at_place guesses cycle stamps x y block i lt = sym (get_or-take (length x.flight) y.flight i no_entry lt) ∙ ap (λ (es : List Entry). get_or es i no_entry) block.kept

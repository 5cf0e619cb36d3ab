-- What is true of a flight, event by event.
use Rattle.std.proofs.Common.{◌≡◌, ◌≢◌, ℕ, zero, suc, ◌+◌, ◌-◌, ◌%◌, ◌<◌, ◌≤◌, true, List, [], ◌∷◌, ◌++◌, length, take, drop, set, get_or, refl, sym, ◌∙◌, ap, arith, inl, inr, ◌⊎◌, length-set, length-drop}
use Rattle.std.specs.Int.{bit_at}
use Rattle.std.specs.Prelude.{min}
use Rattle.std.proofs.lemmas.List.{length-take-le, length_push, get_or-take, get_or-set_same, get_or-set_other}
use Rattle.std.proofs.lemmas.Grind.{get_or_after_one}
use Rattle.std.proofs.Math.Seq.{take-set-lt}
use Rattle.core_view.specs.declared.entry.Entry.{Entry}
use Rattle.core_view.specs.declared.entry.Execution.{Execution}
use Rattle.core_view.specs.declared.entry.Stage.{Stage}
use Rattle.core_view.specs.declared.entry.Stage.TheVariants.{Fetched, Queued, Issued, Done}
use Rattle.core_view.specs.View.{no_entry}
use Rattle.core_view.specs.Queues.{is_renamed}
use Rattle.core_view.specs.Events.{with_stage}
use Rattle.flight.specs.declared.marks.Marks.{Marks}
use Rattle.flight.specs.Marked.{marks_of}
use Rattle.flight.specs.Flights.{Flight, entry_in, IsFlight, IsAhead, AreRenamed, IsHinted}
use Rattle.flight.proofs.Looks.{lt-or, eq-or}

abbrev pub flight_of : List Entry → ℕ → ℕ → Flight
flight_of es renamed capacity = record { entries = es; renamed = renamed; capacity = capacity }

-- ---- lists

abbrev no_entries : List Entry
no_entries = []

take-none : (n : ℕ) → take n no_entries ≡ no_entries
take-none zero = refl
take-none (suc n) = refl

drop-take-one : (n : ℕ) (es : List Entry) → drop 1 (take n es) ≡ take (n - 1) (drop 1 es)
drop-take-one zero es = refl
drop-take-one (suc n) [] = sym (take-none (suc n - 1))
drop-take-one (suc n) (e ∷ es) = let same : n ≡ suc n - 1 = omega arith in ap (λ k. take k es) same

-- ---- stages

fetched-issued : (x : Execution) → Fetched ≡ Issued x → ⊥
fetched-issued x e = cc

queued-fetched : Queued ≡ Fetched → ⊥
queued-fetched e = cc

issued-fetched : (x : Execution) → Issued x ≡ Fetched → ⊥
issued-fetched x e = cc

done-issued : (x y : Execution) → Done x ≡ Issued y → ⊥
done-issued x y e = cc

-- what waits or is issued is renamed
pub queued-renamed : (es : List Entry) (r i : ℕ) → IsAhead r es → (entry_in es i).stage ≡ Queued → i < r
queued-renamed es r i ahead is = elim (lt-or i r) [ inl lt ↦ lt | inr ge ↦ absurd (queued-fetched (sym is ∙ ahead i ge)) ]

pub issued-renamed : (es : List Entry) (r i : ℕ) (x : Execution) → IsAhead r es → (entry_in es i).stage ≡ Issued x → i < r
issued-renamed es r i x ahead is = elim (lt-or i r) [ inl lt ↦ lt | inr ge ↦ absurd (issued-fetched x (sym is ∙ ahead i ge)) ]

abbrev due_in : Stage → ℕ
due_in Fetched = 0
due_in Queued = 0
due_in (Issued x) = x.due
due_in (Done x) = x.due

-- ---- hints

-- entries that were issued before keep their hints
hinted-still : (words : List ℕ) (base : ℕ) (es fs : List Entry) → IsHinted words base es →
    ((i : ℕ) (x : Execution) → (entry_in fs i).stage ≡ Issued x → (entry_in es i).stage ≡ Issued x) → IsHinted words base fs
hinted-still words base es fs h still i x is = h i x (still i x is)

slot-next : (base i : ℕ) → ((base + 1) % 256 + i) % 64 ≡ (base + (1 + i)) % 64
slot-next base i = omega arith

-- where the slot of the oldest comes first
pub slot-turned : (base slot i : ℕ) → slot ≡ (base + 0) % 64 → (slot + i) % 64 ≡ (base + i) % 64
slot-turned base slot i is = omega arith

hinted-retired : (words : List ℕ) (base : ℕ) (es : List Entry) → IsHinted words base es → IsHinted words ((base + 1) % 256) (drop 1 es)
hinted-retired words base es h i x is =
    let same : ((base + 1) % 256 + i) % 64 ≡ (base + (1 + i)) % 64 = slot-next base i in
    ap (λ s. bit_at (get_or words (x.due % 64) 0) s) same ∙ h (1 + i) x (ap (λ (e : Entry). e.stage) (sym (get_or_after_one es i no_entry)) ∙ is)

hinted-here : (words : List ℕ) (base place : ℕ) (es : List Entry) (e : Entry) (x : Execution) → place < length es → length words ≡ 64 →
    e.stage ≡ Issued x → (w : ℕ) → bit_at w ((base + place) % 64) ≡ 1 → (i : ℕ) (y : Execution) → (entry_in (set es place e) i).stage ≡ Issued y → i ≡ place →
    bit_at (get_or (set words (x.due % 64) w) (y.due % 64) 0) ((base + i) % 64) ≡ 1
hinted-here words base place es e x within size issued w bit i y is here =
    let at : (entry_in (set es place e) i) ≡ e = ap (λ k. entry_in (set es place e) k) here ∙ get_or-set_same es place e no_entry within in
    let due : y.due ≡ x.due = ap due_in (sym is ∙ ap (λ (e : Entry). e.stage) at ∙ issued) in
    let low : x.due % 64 < length words = omega arith in
    ap (λ d. bit_at (get_or (set words (x.due % 64) w) (d % 64) 0) ((base + i) % 64)) due ∙ ap (λ v. bit_at v ((base + i) % 64)) (get_or-set_same words (x.due % 64) w 0 low) ∙ ap (λ k. bit_at w ((base + k) % 64)) here ∙ bit

hinted-other : (words : List ℕ) (base : ℕ) (es : List Entry) (x : Execution) → IsHinted words base es → length words ≡ 64 →
    (w : ℕ) → ((j : ℕ) → bit_at (get_or words (x.due % 64) 0) j ≡ 1 → bit_at w j ≡ 1) → (i : ℕ) (y : Execution) → (entry_in es i).stage ≡ Issued y → ((y.due % 64) ≡ (x.due % 64)) ⊎ ((y.due % 64) ≢ (x.due % 64)) →
    bit_at (get_or (set words (x.due % 64) w) (y.due % 64) 0) ((base + i) % 64) ≡ 1
hinted-other words base es x h size w more i y is (inl same) =
    let low : x.due % 64 < length words = omega arith in
    ap (λ d. bit_at (get_or (set words (x.due % 64) w) d 0) ((base + i) % 64)) same ∙ ap (λ v. bit_at v ((base + i) % 64)) (get_or-set_same words (x.due % 64) w 0 low) ∙ more ((base + i) % 64) (ap (λ d. bit_at (get_or words d 0) ((base + i) % 64)) (sym same) ∙ h i y is)
hinted-other words base es x h size w more i y is (inr other) =
    ap (λ v. bit_at v ((base + i) % 64)) (get_or-set_other words (x.due % 64) (y.due % 64) w 0 other) ∙ h i y is

hinted-issued : (words : List ℕ) (base place : ℕ) (es : List Entry) (e : Entry) (x : Execution) → IsHinted words base es → place < length es → length words ≡ 64 →
    e.stage ≡ Issued x → (w : ℕ) → bit_at w ((base + place) % 64) ≡ 1 → ((j : ℕ) → bit_at (get_or words (x.due % 64) 0) j ≡ 1 → bit_at w j ≡ 1) → IsHinted (set words (x.due % 64) w) base (set es place e)
hinted-issued words base place es e x h within size issued w bit more i y is =
    elim (eq-or i place) [
      | inl here ↦ hinted-here words base place es e x within size issued w bit i y is here
      | inr other ↦ hinted-other words base es x h size w more i y (ap (λ (e : Entry). e.stage) (sym (get_or-set_other es place i e no_entry other)) ∙ is) (eq-or (y.due % 64) (x.due % 64))
    ]

slots-differ : (base i place : ℕ) → i < 64 → place < 64 → i ≢ place → (base + i) % 64 ≢ (base + place) % 64
slots-differ base i place a b other = omega arith

-- the bit of an entry that isn't due in any cycle of a word is cleared there
pub hinted-cleared : (words : List ℕ) (base place r cycle w : ℕ) (es : List Entry) → IsHinted words base es → IsAhead r es → r ≤ 64 → place < 64 → length words ≡ 64 →
    ((x : Execution) → (entry_in es place).stage ≡ Issued x → (x.due % 64) ≢ (cycle % 64)) →
    ((j : ℕ) → j < 64 → j ≢ (base + place) % 64 → bit_at w j ≡ bit_at (get_or words (cycle % 64) 0) j) → IsHinted (set words (cycle % 64) w) base es
hinted-cleared words base place r cycle w es h ahead few renamed size idle others i y is = by-word (eq-or (y.due % 64) (cycle % 64)) (eq-or i place)
  where
    room : cycle % 64 < length words
    room = omega arith

    here-idle : i ≡ place → (y.due % 64) ≢ (cycle % 64)
    here-idle here = idle y (ap (λ k. (entry_in es k).stage) (sym here) ∙ is)

    by-word : ((y.due % 64) ≡ (cycle % 64)) ⊎ ((y.due % 64) ≢ (cycle % 64)) → (i ≡ place) ⊎ (i ≢ place) → bit_at (get_or (set words (cycle % 64) w) (y.due % 64) 0) ((base + i) % 64) ≡ 1
    by-word (inr differs) _ = ap (λ v. bit_at v ((base + i) % 64)) (get_or-set_other words (cycle % 64) (y.due % 64) w 0 differs) ∙ h i y is
    by-word (inl same) (inl here) = absurd (here-idle here same)
    by-word (inl same) (inr other) =
        let low : i < r = issued-renamed es r i y ahead is in
        let slot : (base + i) % 64 < 64 = omega arith in
        ap (λ d. bit_at (get_or (set words (cycle % 64) w) d 0) ((base + i) % 64)) same ∙ ap (λ v. bit_at v ((base + i) % 64)) (get_or-set_same words (cycle % 64) w 0 room)
        ∙ others ((base + i) % 64) slot (slots-differ base i place (omega arith) (omega arith) other) ∙ ap (λ d. bit_at (get_or words d 0) ((base + i) % 64)) (sym same) ∙ h i y is

-- ---- events

pub flight-retired : (es fs : List Entry) (r base : ℕ) (m n : Marks) (words : List ℕ) → IsFlight es r base m words → 0 < r → fs ≡ drop 1 es →
    ((xs : List Entry) → m ≡ marks_of xs → n ≡ marks_of (drop 1 xs)) → IsFlight fs (r - 1) ((base + 1) % 256) n words
flight-retired es fs r base m n words f some is marks = rw is (record {
  within = omega (arith, f.within, some, length-drop 1 es);
  few = omega (arith, f.few);
  marked = marks (take r es) f.marked ∙ ap marks_of (drop-take-one r es);
  ahead = λ i h. ap (λ (e : Entry). e.stage) (get_or_after_one es i no_entry) ∙ f.ahead (1 + i) (omega arith);
  placed = λ i h. ap (λ (e : Entry). is_renamed e.stage) (get_or_after_one es i no_entry) ∙ f.placed (1 + i) (omega arith);
  hinted = hinted-retired words base es f.hinted;
})

-- what is put at a place is renamed, as the others are
placed-put : (es : List Entry) (e : Entry) (place r : ℕ) → AreRenamed r es → is_renamed e.stage ≡ true → place < length es → AreRenamed r (set es place e)
placed-put es e place r placed is within i low = elim (eq-or i place) [
  | inl here ↦ ap (λ k. is_renamed (entry_in (set es place e) k).stage) here ∙ ap (λ (d : Entry). is_renamed d.stage) (get_or-set_same es place e no_entry within) ∙ is
  | inr other ↦ ap (λ (d : Entry). is_renamed d.stage) (get_or-set_other es place i e no_entry other) ∙ placed i low
]

-- one more is renamed, the oldest that wasn't
placed-next : (es fs : List Entry) (e : Entry) (r : ℕ) → AreRenamed r es → is_renamed e.stage ≡ true → r < length es → fs ≡ set es r e → AreRenamed (r + 1) fs
placed-next es fs e r placed is within made = rw made (λ i low. elim (eq-or i r) [
  | inl here ↦ ap (λ k. is_renamed (entry_in (set es r e) k).stage) here ∙ ap (λ (d : Entry). is_renamed d.stage) (get_or-set_same es r e no_entry within) ∙ is
  | inr other ↦ ap (λ (d : Entry). is_renamed d.stage) (get_or-set_other es r i e no_entry other) ∙ placed i (omega (arith, low, other))
])

take-next : (es : List Entry) (r : ℕ) (e : Entry) → r < length es → take (r + 1) (set es r e) ≡ take r es ++ e ∷ []
take-next [] r e within = absurd (omega arith)
take-next (f ∷ es) zero e within = refl
take-next (f ∷ es) (suc r) e within = let one : suc r + 1 ≡ suc (r + 1) = omega arith in rw one (ap (λ (fs : List Entry). f ∷ fs) (take-next es r e (omega arith)))

-- the oldest entry that was fetched is renamed: it waits or is done
pub flight-renamed : (es fs : List Entry) (e : Entry) (r base : ℕ) (m n : Marks) (words : List ℕ) → IsFlight es r base m words → r < length es → r < 64 → is_renamed e.stage ≡ true → ((x : Execution) → e.stage ≡ Issued x → ⊥) → fs ≡ set es r e →
    ((xs : List Entry) → m ≡ marks_of xs → r ≡ length xs → length xs < 64 → n ≡ marks_of (xs ++ e ∷ [])) → IsFlight fs (r + 1) base n words
flight-renamed es fs e r base m n words f within few renamed idle made marks =
    let long : length (take r es) ≡ r = length-take-le r es f.within in rw made (record {
      within = omega (arith, within, length-set es r e);
      few = omega (arith, few);
      marked = marks (take r es) f.marked (sym long) (omega (arith, long, few)) ∙ ap marks_of (sym (take-next es r e within));
      ahead = λ i h. let other : i ≢ r = omega arith in ap (λ (d : Entry). d.stage) (get_or-set_other es r i e no_entry other) ∙ f.ahead i (omega (arith, h));
      placed = placed-next es (set es r e) e r f.placed renamed within refl;
      hinted = hinted-still words base es (set es r e) f.hinted still;
    })
  where
    still : (i : ℕ) (x : Execution) → (entry_in (set es r e) i).stage ≡ Issued x → (entry_in es i).stage ≡ Issued x
    still i x is = elim (eq-or i r) [
      | inl here ↦ absurd (idle x (ap (λ (d : Entry). d.stage) (sym (get_or-set_same es r e no_entry within) ∙ ap (λ k. entry_in (set es r e) k) (sym here)) ∙ is))
      | inr other ↦ ap (λ (d : Entry). d.stage) (sym (get_or-set_other es r i e no_entry other)) ∙ is
    ]

-- another entry at a renamed place
flight-put : (es : List Entry) (e : Entry) (place r base : ℕ) (m n : Marks) (words vs : List ℕ) → IsFlight es r base m words → place < r → is_renamed e.stage ≡ true →
    n ≡ marks_of (set (take r es) place e) → IsHinted vs base (set es place e) → IsFlight (set es place e) r base n vs
flight-put es e place r base m n words vs f within renamed marks hinted = record {
  within = omega (arith, f.within, length-set es place e);
  few = f.few;
  marked = marks ∙ ap marks_of (sym (take-set-lt r es place e within));
  ahead = λ i h. let other : i ≢ place = omega arith in ap (λ (e : Entry). e.stage) (get_or-set_other es place i e no_entry other) ∙ f.ahead i h;
  placed = placed-put es e place r f.placed renamed (omega (arith, within, f.within));
  hinted = hinted;
}

pub flight-issued : (es fs : List Entry) (e : Entry) (place r base : ℕ) (m n : Marks) (words : List ℕ) (x : Execution) (w : ℕ) → IsFlight es r base m words → place < r → length words ≡ 64 →
    (entry_in es place).stage ≡ Queued → e ≡ with_stage (entry_in es place) (Issued x) → fs ≡ set es place e →
    ((xs : List Entry) (y : Execution) → m ≡ marks_of xs → (entry_in xs place).stage ≡ Queued → (entry_in xs place).operation ≡ e.operation → e.stage ≡ Issued y → place < length xs → length xs ≤ 64 → n ≡ marks_of (set xs place e)) →
    bit_at w ((base + place) % 64) ≡ 1 → ((j : ℕ) → bit_at (get_or words (x.due % 64) 0) j ≡ 1 → bit_at w j ≡ 1) →
    IsFlight fs r base n (set words (x.due % 64) w)
flight-issued es fs e place r base m n words x w f within size queued is made marks bit more =
    let long : length (take r es) ≡ r = length-take-le r es f.within in
    let there : entry_in (take r es) place ≡ entry_in es place = get_or-take r es place no_entry within in
    let stage : e.stage ≡ Issued x = ap (λ (d : Entry). d.stage) is in
    let same : (entry_in (take r es) place).operation ≡ e.operation = ap (λ (d : Entry). d.operation) there ∙ sym (ap (λ (d : Entry). d.operation) is) in
    rw made (flight-put es e place r base m n words (set words (x.due % 64) w) f within (ap is_renamed stage)
    (marks (take r es) x f.marked (ap (λ (d : Entry). d.stage) there ∙ queued) same stage (omega arith) (omega (arith, f.few)))
    (hinted-issued words base place es e x f.hinted (omega (arith, f.within)) size stage w bit more))

-- the bit of an entry that isn't due in any cycle of a word is cleared there
pub flight-cleared : (es : List Entry) (place r base cycle w : ℕ) (m : Marks) (words : List ℕ) → IsFlight es r base m words → place < 64 → length words ≡ 64 →
    ((x : Execution) → (entry_in es place).stage ≡ Issued x → (x.due % 64) ≢ (cycle % 64)) →
    ((j : ℕ) → j < 64 → j ≢ (base + place) % 64 → bit_at w j ≡ bit_at (get_or words (cycle % 64) 0) j) → IsFlight es r base m (set words (cycle % 64) w)
flight-cleared es place r base cycle w m words f renamed size idle others = record {
  within = f.within;
  few = f.few;
  marked = f.marked;
  ahead = f.ahead;
  placed = f.placed;
  hinted = hinted-cleared words base place r cycle w es f.hinted f.ahead f.few renamed size idle others;
}

-- an issued entry is done
pub flight-finished : (es fs : List Entry) (e : Entry) (x : Execution) (place r base cycle w : ℕ) (m n : Marks) (words : List ℕ) → IsFlight es r base m words → (entry_in es place).stage ≡ Issued x → (entry_in es place).operation ≡ e.operation → e.stage ≡ Done x → fs ≡ set es place e →
    ((xs : List Entry) → m ≡ marks_of xs → place < length xs → length xs ≤ 64 → (entry_in xs place).stage ≡ Issued x → (entry_in xs place).operation ≡ e.operation → n ≡ marks_of (set xs place e)) → length words ≡ 64 →
    ((j : ℕ) → j < 64 → j ≢ (base + place) % 64 → bit_at w j ≡ bit_at (get_or words (cycle % 64) 0) j) → IsFlight fs r base n (set words (cycle % 64) w)
flight-finished es fs e x place r base cycle w m n words f issued same done made marks size others =
    let within : place < r = issued-renamed es r place x f.ahead issued in
    let long : length (take r es) ≡ r = length-take-le r es f.within in
    let word : n ≡ marks_of (set (take r es) place e) = marks (take r es) f.marked (omega arith) (omega (arith, f.few)) (ap (λ (e : Entry). e.stage) (get_or-take r es place no_entry within) ∙ issued) (ap (λ (e : Entry). e.operation) (get_or-take r es place no_entry within) ∙ same) in
    let put = flight-put es e place r base m n words words f within (ap is_renamed done) word (hinted-still words base es (set es place e) f.hinted (still within)) in
    rw made (flight-cleared (set es place e) place r base cycle w n words put (omega (arith, within, f.few)) size (λ z is. absurd (idle z (sym (ap (λ (e : Entry). e.stage) (get_or-set_same es place e no_entry (omega (arith, f.within)))) ∙ is))) others)
  where
    idle : (z : Execution) → e.stage ≡ Issued z → ⊥
    idle z is = done-issued x z (sym done ∙ is)

    still : place < r → (i : ℕ) (z : Execution) → (entry_in (set es place e) i).stage ≡ Issued z → (entry_in es i).stage ≡ Issued z
    still within i z is = elim (eq-or i place) [
      | inl here ↦ absurd (idle z (ap (λ (e : Entry). e.stage) (sym (get_or-set_same es place e no_entry (omega (arith, f.within))) ∙ ap (λ k. entry_in (set es place e) k) (sym here)) ∙ is))
      | inr other ↦ ap (λ (e : Entry). e.stage) (sym (get_or-set_other es place i e no_entry other)) ∙ is
    ]

-- ---- more and fewer entries

-- what is fetched is as what isn't there
stage-push : (es : List Entry) (e : Entry) (i : ℕ) → e.stage ≡ Fetched → (entry_in (es ++ e ∷ []) i).stage ≡ (entry_in es i).stage
stage-push [] e zero fetched = fetched
stage-push [] e (suc i) fetched = refl
stage-push (d ∷ es) e zero fetched = refl
stage-push (d ∷ es) e (suc i) fetched = stage-push es e i fetched

take-push : (r : ℕ) (es : List Entry) (e : Entry) → r ≤ length es → take r (es ++ e ∷ []) ≡ take r es
take-push zero es e within = refl
take-push (suc r) [] e within = absurd (omega arith)
take-push (suc r) (d ∷ es) e within = ap (λ (fs : List Entry). d ∷ fs) (take-push r es e (omega arith))

-- one is fetched
pub flight-pushed : (es fs : List Entry) (e : Entry) (r base : ℕ) (m : Marks) (words : List ℕ) → IsFlight es r base m words → e.stage ≡ Fetched → fs ≡ es ++ e ∷ [] → IsFlight fs r base m words
flight-pushed es fs e r base m words f fetched made = rw made (record {
  within = omega (arith, f.within, length_push es e);
  few = f.few;
  marked = f.marked ∙ ap marks_of (sym (take-push r es e f.within));
  ahead = λ i h. stage-push es e i fetched ∙ f.ahead i h;
  placed = λ i h. ap is_renamed (stage-push es e i fetched) ∙ f.placed i h;
  hinted = hinted-still words base es (es ++ e ∷ []) f.hinted (λ i x is. sym (stage-push es e i fetched) ∙ is);
})

take-take : (q r : ℕ) (es : List Entry) → q ≤ r → take q (take r es) ≡ take q es
take-take zero r es le = refl
take-take (suc q) zero es le = absurd (omega arith)
take-take (suc q) (suc r) [] le = refl
take-take (suc q) (suc r) (e ∷ es) le = ap (λ (fs : List Entry). e ∷ fs) (take-take q r es (omega arith))

past : (es : List Entry) (i : ℕ) → length es ≤ i → entry_in es i ≡ no_entry
past [] i ge = refl
past (e ∷ es) zero ge = absurd (omega arith)
past (e ∷ es) (suc i) ge = past es i (omega arith)

-- the youngest leave
pub flight-cut : (es fs : List Entry) (r q base : ℕ) (m n : Marks) (words : List ℕ) → IsFlight es r base m words → fs ≡ take (length fs) es → q ≡ min r (length fs) →
    ((xs : List Entry) → m ≡ marks_of xs → length xs ≤ 64 → n ≡ marks_of (take q xs)) → IsFlight fs q base n words
flight-cut es fs r q base m n words f front is marks =
    let long : length (take r es) ≡ r = length-take-le r es f.within in record {
      within = omega (arith, is);
      few = omega (arith, is, f.few);
      marked = marks (take r es) f.marked (omega (arith, long, f.few)) ∙ ap marks_of (take-take q r es (omega (arith, is)) ∙ sym (ap (take q) front ∙ take-take q (length fs) es (omega (arith, is))));
      ahead = λ i h. elim (lt-or i (length fs)) [ inl lt ↦ ap (λ (e : Entry). e.stage) (there i lt) ∙ f.ahead i (omega (arith, is, lt, h)) | inr ge ↦ ap (λ (e : Entry). e.stage) (past fs i ge) ];
      placed = λ i h. ap (λ (e : Entry). is_renamed e.stage) (there i (omega (arith, is, h))) ∙ f.placed i (omega (arith, is, h));
      hinted = hinted-still words base es fs f.hinted still;
    }
  where
    there : (i : ℕ) → i < length fs → entry_in fs i ≡ entry_in es i
    there i lt = ap (λ gs. entry_in gs i) front ∙ get_or-take (length fs) es i no_entry lt

    still : (i : ℕ) (x : Execution) → (entry_in fs i).stage ≡ Issued x → (entry_in es i).stage ≡ Issued x
    still i x is = elim (lt-or i (length fs)) [
      | inl lt ↦ ap (λ (e : Entry). e.stage) (sym (there i lt)) ∙ is
      | inr ge ↦ absurd (fetched-issued x (sym (ap (λ (e : Entry). e.stage) (past fs i ge)) ∙ is))
    ]

pub flight-none : (base : ℕ) (words : List ℕ) → IsFlight [] 0 base (marks_of []) words
flight-none base words = record {
  within = omega arith;
  few = omega arith;
  marked = refl;
  ahead = λ i h. refl;
  placed = λ i h. absurd (omega (arith, h));
  hinted = λ i x is. absurd (fetched-issued x is);
}

-- what was put at a place is found there
pub placed : (es fs : List Entry) (e d : Entry) (place : ℕ) → place < length es → fs ≡ set es place d → e ≡ entry_in fs place → e ≡ d
placed es fs e d place within is at = at ∙ ap (λ gs. entry_in gs place) is ∙ get_or-set_same es place d no_entry within

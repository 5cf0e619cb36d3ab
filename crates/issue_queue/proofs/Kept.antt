-- Lists of the places that are taken, where places are put, changed and freed.
use Rattle.std.proofs.Common.{◌≡◌, ℕ, zero, suc, ◌<◌, ◌≤◌, ◌^◌, inl, inr, Bool, true, false, cond, ◌&&◌, ◌||◌, eqb, List, [], ◌∷◌, ◌++◌, map, length, refl, ap, ap₂, sym, subst, ◌∙◌, arith, length-append}
use Rattle.std.specs.Prelude.{count_ones, Option, Some, None, IfSome, IfNone, is_some}
use Rattle.std.specs.List.{All, AllPairs, Contains, filter, list_any, count_by}
use Rattle.std.proofs.lemmas.Bool.{cases_lt, true≢false, and_parts, and_right, or_parts, or_left, or_right, or_cases, eqb-true, eq-eqb}
use Rattle.std.proofs.lemmas.Bool.Decides.{eqb_tells}
use Rattle.std.proofs.lemmas.List.{length-map, map-append}
use Rattle.std.proofs.lemmas.List.Elements.{All-head, All-tail, All-cons, All-nil, All-weaker, filter_passes}
use Rattle.std.proofs.lemmas.List.Folds.{list_any-append, list_any_none}
use Rattle.std.proofs.lemmas.List.Kept.{AllPairs-filter}
use Rattle.std.proofs.lemmas.List.Quantifiers.{all_pairs_push}
use Rattle.std.proofs.lemmas.List.Sums.{length-filter, count_by-le-length}
use Rattle.issue_queue.specs.declared.places.Places.{Places}
use Rattle.issue_queue.specs.declared.slots.Slots.{Slots}
use Rattle.word_mask.specs.Mask.{has, is_listed}
use Rattle.issue_queue.specs.Board.{slot, InStep, IsMask, listed}
use Rattle.issue_queue.specs.Entry.{Entry, AreDistinct, is_named}
use Rattle.issue_queue.proofs.Lists.{filter-of_map, map_agree_on, map-map, list_any-of_map, All-from_listed}
use Rattle.issue_queue.proofs.Named.{is_named-swap, changed, cond_context, cond_stamp, distinct-map}
use Rattle.word_mask.proofs.Laws.{count_listed, eqb_swap, filter_agree_on, AllPairs-head, AllPairs-tail}

-- the places that are taken are listed, each once, and no other; their entries have different names
pub record ListsTaken (capacity : ℕ) (b : Places) (order : List ℕ) : Type 0 where
  pub bounded : capacity ≤ 64
  pub within : length order ≤ capacity
  pub in_step : InStep b
  pub taken : (p : ℕ) → has b.valid p ≡ is_listed order p
  pub once : AllPairs (λ p q. eqb p q ≡ false) order
  pub distinct : AllPairs AreDistinct (listed b.slots order)

-- what is true of each place that is taken
pub All-taken : (P : ℕ → Type 0) (capacity : ℕ) (b : Places) (order : List ℕ) → ListsTaken capacity b order → ((p : ℕ) → has b.valid p ≡ true → P p) → All P order
All-taken P capacity b order k h = All-from_listed P order (λ p l. h p (k.taken p ∙ l))

-- a mask has as many bits as there are entries that pass its test
pub count_mask : (test : Entry → Bool) (word capacity : ℕ) (b : Places) (order : List ℕ) → word < 2 ^ 64 → ListsTaken capacity b order → IsMask test b.valid b.slots word → count_ones word ≡ count_by test (listed b.slots order)
count_mask test word capacity b order fits k m =
    let bits : count_ones word ≡ length (filter (has word) order) =
    count_listed word order fits k.once (λ p t. sym (k.taken p) ∙ (and_parts (has b.valid p) (test (slot b.slots p)) (sym (m p) ∙ t)).0) in
    let alike : filter (has word) order ≡ filter (λ p. test (slot b.slots p)) order =
    filter_agree_on (has word) (λ p. test (slot b.slots p)) order
    (All-taken (λ p. has word p ≡ test (slot b.slots p)) capacity b order k (λ p t. m p ∙ ap (λ x. x && test (slot b.slots p)) t)) in
    bits ∙ ap length alike ∙ sym (length-map (filter (λ p. test (slot b.slots p)) order) (slot b.slots))
    ∙ ap length (sym (filter-of_map (slot b.slots) test order)) ∙ length-filter test (listed b.slots order)

pub room_left : (capacity n : ℕ) → n ≤ capacity → (n ≡ capacity → ⊥) → n < capacity
room_left capacity n le differ = elim (cases_lt n capacity) [
  | inl lt ↦ lt
  | inr ge ↦ absurd (differ (omega arith))
]

-- a place that is listed and passes
listed_any : (t : ℕ → Bool) (p : ℕ) (order : List ℕ) → is_listed order p ≡ true → t p ≡ true → list_any t order ≡ true
listed_any t p [] l h = absurd (true≢false (sym l))
listed_any t p (q ∷ qs) l h = elim (or_cases (eqb q p) (is_listed qs p) l) [
  | inl same ↦ or_left (t q) (list_any t qs) (ap t (eqb-true q p same) ∙ h)
  | inr later ↦ or_right (t q) (list_any t qs) (listed_any t p qs later h)
]

pub contains_found : (test : Entry → Bool) (p capacity : ℕ) (b : Places) (order : List ℕ) → ListsTaken capacity b order → has b.valid p ≡ true → test (slot b.slots p) ≡ true → list_any test (listed b.slots order) ≡ true
contains_found test p capacity b order k taken h =
    list_any-of_map (slot b.slots) test order ∙ listed_any (λ q. test (slot b.slots q)) p order (sym (k.taken p) ∙ taken) h

pub contains_none : (test : Entry → Bool) (capacity : ℕ) (b : Places) (order : List ℕ) → ListsTaken capacity b order → ((p : ℕ) → has b.valid p ≡ true → test (slot b.slots p) ≡ false) → list_any test (listed b.slots order) ≡ false
contains_none test capacity b order k h =
    list_any-of_map (slot b.slots) test order
    ∙ list_any_none (λ q. test (slot b.slots q)) order (All-taken (λ q. test (slot b.slots q) ≡ false) capacity b order k h)

-- an entry that is listed
pub Contains-listed : (slots : Slots) (p : ℕ) (order : List ℕ) → is_listed order p ≡ true → Contains (listed slots order) (slot slots p)
Contains-listed slots p [] l = absurd (true≢false (sym l))
Contains-listed slots p (q ∷ qs) l = elim (or_cases (eqb q p) (is_listed qs p) l) [
  | inl same ↦ (zero, omega arith, ap (slot slots) (eqb-true q p same))
  | inr later ↦
      let c : Contains (listed slots qs) (slot slots p) = Contains-listed slots p qs later in
      (suc c.0, omega (arith, c.1), c.2)
]

All-listed : (P : ℕ → Type 0) (p : ℕ) (order : List ℕ) → is_listed order p ≡ true → All P order → P p
All-listed P p [] l h = absurd (true≢false (sym l))
All-listed P p (q ∷ qs) l h = elim (or_cases (eqb q p) (is_listed qs p) l) [
  | inl same ↦ subst P (eqb-true q p same) (All-head P q qs h)
  | inr later ↦ All-listed P p qs later (All-tail P q qs h)
]

All-unmap : {X Y : Type 0} (P : Y → Type 0) (f : X → Y) (xs : List X) → All P (map f xs) → All (λ x. P (f x)) xs
All-unmap P f [] h = All-nil (λ x. P (f x))
All-unmap P f (x ∷ xs) h = All-cons (λ y. P (f y)) x xs (All-head P (f x) (map f xs) h) (All-unmap P f xs (All-tail P (f x) (map f xs) h))

-- entries of two places have different names
pub apart : (slots : Slots) (p q : ℕ) (order : List ℕ) → AllPairs AreDistinct (listed slots order) → is_listed order p ≡ true → is_listed order q ≡ true → eqb p q ≡ false → AreDistinct (slot slots p) (slot slots q)
apart slots p q [] h l m other = absurd (true≢false (sym l))
apart slots p q (o ∷ os) h l m other =
    let first : All (λ r. AreDistinct (slot slots o) (slot slots r)) os =
    All-unmap (AreDistinct (slot slots o)) (slot slots) os (AllPairs-head AreDistinct (slot slots o) (listed slots os) h) in
    elim (or_cases (eqb o p) (is_listed os p) l) [
      | inl at_p ↦ elim (or_cases (eqb o q) (is_listed os q) m) [
        | inl at_q ↦ absurd (true≢false (sym (eq-eqb p q (sym (eqb-true o p at_p) ∙ eqb-true o q at_q)) ∙ other))
        | inr later ↦ subst (λ x. AreDistinct (slot slots x) (slot slots q)) (eqb-true o p at_p) (All-listed (λ r. AreDistinct (slot slots o) (slot slots r)) q os later first)
      ]
      | inr later_p ↦ elim (or_cases (eqb o q) (is_listed os q) m) [
        | inl at_q ↦
            is_named-swap (slot slots p) (slot slots q)
            ∙ subst (λ x. AreDistinct (slot slots x) (slot slots p)) (eqb-true o q at_q) (All-listed (λ r. AreDistinct (slot slots o) (slot slots r)) p os later_p first)
        | inr later ↦ apart slots p q os (AllPairs-tail AreDistinct (slot slots o) (listed slots os) h) later_p later other
      ]
    ]

-- of the places that are taken one has the name
pub named_at_once : (context stamp place capacity : ℕ) (b : Places) (order : List ℕ) → ListsTaken capacity b order → has b.valid place ≡ true → is_named context stamp (slot b.slots place) ≡ true
    → (p : ℕ) → has b.valid p ≡ true → eqb p place ≡ false → is_named context stamp (slot b.slots p) ≡ false
named_at_once context stamp place capacity b order k here named p taken other =
    let e : Entry = slot b.slots place in
    let parts = and_parts (eqb e.context context) (eqb e.stamp stamp) named in
    let same : is_named context stamp (slot b.slots p) ≡ is_named e.context e.stamp (slot b.slots p) =
    ap₂ (λ c s. is_named c s (slot b.slots p)) (sym (eqb-true e.context context parts.0)) (sym (eqb-true e.stamp stamp parts.1)) in
    same ∙ apart b.slots p place order k.distinct (sym (k.taken p) ∙ taken) (sym (k.taken place) ∙ here) other

-- ---- a change of the entries in their places

pub entries_changed : (f : Entry → Entry) (capacity : ℕ) (b : Places) (new : Slots) (order : List ℕ) → ListsTaken capacity b order
    → ((p : ℕ) → has b.valid p ≡ true → slot new p ≡ f (slot b.slots p)) → listed new order ≡ map f (listed b.slots order)
entries_changed f capacity b new order k h =
    map_agree_on (slot new) (λ p. f (slot b.slots p)) order (All-taken (λ p. slot new p ≡ f (slot b.slots p)) capacity b order k h)
    ∙ sym (map-map f (slot b.slots) order)

pub kept_changed : (f : Entry → Entry) → ((e : Entry) → (f e).context ≡ e.context) → ((e : Entry) → (f e).stamp ≡ e.stamp)
    → (capacity : ℕ) (b c : Places) (order : List ℕ) → ListsTaken capacity b order → InStep c → c.valid ≡ b.valid
    → ((p : ℕ) → has b.valid p ≡ true → slot c.slots p ≡ f (slot b.slots p)) → ListsTaken capacity c order
kept_changed f contexts stamps capacity b c order k step valid h = record {
  bounded = k.bounded;
  within = k.within;
  in_step = step;
  taken = λ p. ap (λ v. has v p) valid ∙ k.taken p;
  once = k.once;
  distinct = subst (AllPairs AreDistinct) (sym (entries_changed f capacity b c.slots order k h)) (distinct-map f contexts stamps (listed b.slots order) k.distinct);
}

-- the entry of a name changes at its place
changed_there : (g : Entry → Entry) (context stamp place capacity : ℕ) (b : Places) (new : Slots) (order : List ℕ) → ListsTaken capacity b order
    → has b.valid place ≡ true → is_named context stamp (slot b.slots place) ≡ true
    → ((p : ℕ) → slot new p ≡ cond (eqb p place) (g (slot b.slots p)) (slot b.slots p))
    → (p : ℕ) → has b.valid p ≡ true → slot new p ≡ changed (is_named context stamp) g (slot b.slots p)
changed_there g context stamp place capacity b new order k here named slots p taken = elim (eqb_tells p place) [
  | inl t ↦
      let name : is_named context stamp (slot b.slots p) ≡ true = ap (λ q. is_named context stamp (slot b.slots q)) t.1 ∙ named in
      slots p ∙ rw t.0 (rw name refl)
  | inr t ↦
      let name : is_named context stamp (slot b.slots p) ≡ false = named_at_once context stamp place capacity b order k here named p taken t.0 in
      slots p ∙ rw t.0 (rw name refl)
]

pub entries_marked : (g : Entry → Entry) (context stamp place capacity : ℕ) (b : Places) (new : Slots) (order : List ℕ) → ListsTaken capacity b order
    → has b.valid place ≡ true → is_named context stamp (slot b.slots place) ≡ true → ((p : ℕ) → slot new p ≡ cond (eqb p place) (g (slot b.slots p)) (slot b.slots p))
    → listed new order ≡ map (changed (is_named context stamp) g) (listed b.slots order)
entries_marked g context stamp place capacity b new order k here named slots =
    entries_changed (changed (is_named context stamp) g) capacity b new order k (changed_there g context stamp place capacity b new order k here named slots)

pub kept_marked : (g : Entry → Entry) → ((e : Entry) → (g e).context ≡ e.context) → ((e : Entry) → (g e).stamp ≡ e.stamp) → (context stamp place capacity : ℕ) (b c : Places) (order : List ℕ) → ListsTaken capacity b order
    → has b.valid place ≡ true → is_named context stamp (slot b.slots place) ≡ true → InStep c → c.valid ≡ b.valid → ((p : ℕ) → slot c.slots p ≡ cond (eqb p place) (g (slot b.slots p)) (slot b.slots p))
    → ListsTaken capacity c order
kept_marked g contexts stamps context stamp place capacity b c order k here named step valid slots =
    kept_changed (changed (is_named context stamp) g) (λ e. cond_context (is_named context stamp e) (g e) e (contexts e)) (λ e. cond_stamp (is_named context stamp e) (g e) e (stamps e))
    capacity b c order k step valid (changed_there g context stamp place capacity b c.slots order k here named slots)

-- no entry has the name
pub unchanged : (g : Entry → Entry) (context stamp capacity : ℕ) (b : Places) (order : List ℕ) → ListsTaken capacity b order
    → ((p : ℕ) → has b.valid p ≡ true → is_named context stamp (slot b.slots p) ≡ false)
    → listed b.slots order ≡ map (changed (is_named context stamp) g) (listed b.slots order)
unchanged g context stamp capacity b order k none =
    entries_changed (changed (is_named context stamp) g) capacity b b.slots order k (λ p taken. rw (none p taken) refl)

-- ---- an entry more

pub any_false : {X : Type 0} (t : X → Bool) (xs : List X) → list_any t xs ≡ false → All (λ x. t x ≡ false) xs
any_false t [] h = All-nil (λ x. t x ≡ false)
any_false t (x ∷ xs) h =
    let parts = or_parts (t x) (list_any t xs) h in
    All-cons (λ y. t y ≡ false) x xs parts.0 (any_false t xs parts.1)

pub or_no : (a : Bool) → (a || false) ≡ a
or_no true = refl
or_no false = refl

pub entries_put : (e : Entry) (place capacity : ℕ) (b : Places) (new : Slots) (order : List ℕ) → ListsTaken capacity b order → has b.valid place ≡ false
    → ((p : ℕ) → slot new p ≡ cond (eqb p place) e (slot b.slots p)) → listed new (order ++ place ∷ []) ≡ listed b.slots order ++ e ∷ []
entries_put e place capacity b new order k free slots =
    map-append (slot new) order (place ∷ [])
    ∙ ap₂ (λ xs x. xs ++ x ∷ [])
    (map_agree_on (slot new) (slot b.slots) order (All-taken (λ p. slot new p ≡ slot b.slots p) capacity b order k
    (λ p taken. elim (eqb_tells p place) [
      | inl t ↦ absurd (true≢false (sym taken ∙ ap (has b.valid) t.1 ∙ free))
      | inr t ↦ slots p ∙ rw t.0 refl
    ])))
    (slots place ∙ rw (eq-eqb place place refl) refl)

pub kept_put : (e : Entry) (place capacity : ℕ) (b c : Places) (order : List ℕ) → ListsTaken capacity b order → has b.valid place ≡ false → length order < capacity
    → list_any (is_named e.context e.stamp) (listed b.slots order) ≡ false
    → ((p : ℕ) → slot c.slots p ≡ cond (eqb p place) e (slot b.slots p)) → ((p : ℕ) → has c.valid p ≡ (has b.valid p || eqb p place)) → InStep c
    → ListsTaken capacity c (order ++ place ∷ [])
kept_put e place capacity b c order k free room fresh slots valid step =
    let absent : All (λ q. eqb q place ≡ false) order = any_false (λ q. eqb q place) order (sym (k.taken place) ∙ free) in
    let entries : listed c.slots (order ++ place ∷ []) ≡ listed b.slots order ++ e ∷ [] = entries_put e place capacity b c.slots order k free slots in
    record {
      bounded = k.bounded;
      within = omega (arith, length-append order (place ∷ []));
      in_step = step;
      taken = λ p. valid p ∙ ap₂ (λ x y. x || y) (k.taken p) (eqb_swap p place ∙ sym (or_no (eqb place p))) ∙ sym (list_any-append (λ q. eqb q p) order (place ∷ []));
      once = all_pairs_push (λ p q. eqb p q ≡ false) order place k.once (λ i d lt. absent i d lt);
      distinct = subst (AllPairs AreDistinct) (sym entries)
          (all_pairs_push AreDistinct (listed b.slots order) e k.distinct (any_false (is_named e.context e.stamp) (listed b.slots order) fresh));
    }

-- ---- places that are freed

listed-filter_at : (p q : ℕ) (t : ℕ → Bool) (qs : List ℕ) (m a b : Bool) → eqb q p ≡ a → (a ≡ true → b ≡ t p) → is_listed qs p ≡ (m && t p) → is_listed (cond b (q ∷ qs) qs) p ≡ ((a || m) && t p)
listed-filter_at p q t qs m true true e same h = rw e (same refl)
listed-filter_at p q t qs m true false e same h = h ∙ and_right m (t p) (sym (same refl)) ∙ same refl
listed-filter_at p q t qs m false true e same h = rw e h
listed-filter_at p q t qs m false false e same h = h

pub listed-filter : (t : ℕ → Bool) (p : ℕ) (order : List ℕ) → is_listed (filter t order) p ≡ (is_listed order p && t p)
listed-filter t p [] = refl
listed-filter t p (q ∷ qs) =
    listed-filter_at p q t (filter t qs) (is_listed qs p) (eqb q p) (t q) refl (λ same. ap t (eqb-true q p same)) (listed-filter t p qs)

All-filtered : (P : ℕ → Type 0) (t : ℕ → Bool) (qs : List ℕ) → ((q : ℕ) → t q ≡ true → P q) → All P (filter t qs)
All-filtered P t qs h = All-weaker (λ q. t q ≡ true) P h (filter t qs) (filter_passes t qs)

-- the entries whose places are left
pub entries_left : (f : Entry → Bool) (capacity : ℕ) (b c : Places) (order : List ℕ) → ListsTaken capacity b order → ((p : ℕ) → has c.valid p ≡ true → slot c.slots p ≡ slot b.slots p)
    → ((p : ℕ) → has b.valid p ≡ true → has c.valid p ≡ f (slot b.slots p)) → listed c.slots (filter (has c.valid) order) ≡ filter f (listed b.slots order)
entries_left f capacity b c order k slots h =
    map_agree_on (slot c.slots) (slot b.slots) (filter (has c.valid) order) (All-filtered (λ p. slot c.slots p ≡ slot b.slots p) (has c.valid) order slots)
    ∙ ap (map (slot b.slots)) (filter_agree_on (has c.valid) (λ p. f (slot b.slots p)) order (All-taken (λ p. has c.valid p ≡ f (slot b.slots p)) capacity b order k h))
    ∙ sym (filter-of_map (slot b.slots) f order)

pub kept_left : (f : Entry → Bool) (capacity : ℕ) (b c : Places) (order : List ℕ) → ListsTaken capacity b order → ((p : ℕ) → has c.valid p ≡ true → slot c.slots p ≡ slot b.slots p) → InStep c
    → ((p : ℕ) → has b.valid p ≡ true → has c.valid p ≡ f (slot b.slots p)) → ((p : ℕ) → has c.valid p ≡ (has b.valid p && has c.valid p)) → ListsTaken capacity c (filter (has c.valid) order)
kept_left f capacity b c order k slots step h fewer = record {
  bounded = k.bounded;
  within = omega (arith, k.within, length-filter (has c.valid) order, count_by-le-length (has c.valid) order);
  in_step = step;
  taken = λ p. fewer p ∙ ap (λ x. x && has c.valid p) (k.taken p) ∙ sym (listed-filter (has c.valid) p order);
  once = AllPairs-filter (λ p q. eqb p q ≡ false) (has c.valid) order k.once;
  distinct = subst (AllPairs AreDistinct) (sym (entries_left f capacity b c order k slots h)) (AllPairs-filter AreDistinct f (listed b.slots order) k.distinct);
}

-- what a search for a place tells of the entries
pub found_or_not : (test : Entry → Bool) (found : Option ℕ) (capacity : ℕ) (b : Places) (order : List ℕ) → ListsTaken capacity b order
    → IfSome found (λ p. (p < 64) × (has b.valid p ≡ true) × (test (slot b.slots p) ≡ true)) → IfNone found ((p : ℕ) → has b.valid p ≡ true → test (slot b.slots p) ≡ false)
    → is_some found ≡ list_any test (listed b.slots order)
found_or_not test (Some p) capacity b order k h n = sym (contains_found test p capacity b order k h.1 h.2)
found_or_not test None capacity b order k h n = sym (contains_none test capacity b order k n)

pub kept_of : (a b c : Bool) → c ≡ (a && b) → c ≡ (a && c)
kept_of true b c h = refl
kept_of false b c h = h

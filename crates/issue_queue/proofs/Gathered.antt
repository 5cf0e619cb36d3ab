-- The contexts of the entries that pass a test, of entries in their places.
use Rattle.std.proofs.Common.{◌≡◌, ℕ, ◌<◌, inl, inr, Bool, true, cond, not, ◌&&◌, eqb, List, refl, ap, sym, ◌∙◌}
use Rattle.std.specs.List.{list_any}
use Rattle.std.proofs.lemmas.Bool.{cases_Bool, true≢false, and_parts, and_from, eqb-true, eq-eqb}
use Rattle.std.proofs.lemmas.Bool.Decides.{eqb_tells}
use Rattle.word_mask.specs.Mask.{has}
use Rattle.word_mask.proofs.Laws.{has_zero}
use Rattle.issue_queue.specs.declared.places.Places.{Places}
use Rattle.issue_queue.specs.declared.slots.Slots.{Slots}
use Rattle.issue_queue.specs.Board.{slot, IsMask, is_of, listed}
use Rattle.issue_queue.specs.Entry.{Entry}
use Rattle.issue_queue.proofs.Kept.{ListsTaken, contains_found, contains_none}
use Rattle.issue_queue.proofs.Walks.{AreGathered}

pub none_gathered : (slots : Slots) (word : ℕ) → AreGathered slots word word 0
none_gathered slots word = record {
  within = λ p t. t;
  known = λ c t. absurd (true≢false (sym t ∙ has_zero c));
  found = λ c t. absurd (true≢false (sym t ∙ has_zero c));
  all = λ p t. inl t;
}

-- the walk looks at one more place
pub one_gathered : (slots : Slots) (word left next contexts more place context : ℕ) → has left place ≡ true → ((p : ℕ) → has next p ≡ (has left p && not (eqb p place)))
    → context ≡ (slot slots place).context → context < 8 → ((c : ℕ) → has more c ≡ cond (eqb c context) true (has contexts c)) → AreGathered slots word left contexts → AreGathered slots word next more
one_gathered slots word left next contexts more place context set bits own below marks h = record {
  within = λ p t. h.within p (and_parts (has left p) (not (eqb p place)) (sym (bits p) ∙ t)).0;
  known = λ c t. elim (eqb_tells c context) [
    | inl b ↦ rw b.1 below
    | inr b ↦ h.known c (sym (marks c ∙ rw b.0 refl) ∙ t)
  ];
  found = λ c t. elim (eqb_tells c context) [
    | inl b ↦ (place, h.within place set, sym own ∙ sym b.1)
    | inr b ↦ h.found c (sym (marks c ∙ rw b.0 refl) ∙ t)
  ];
  all = λ p t. elim (h.all p t) [
    | inl still ↦ elim (eqb_tells p place) [
      | inl b ↦ inr (rw (b.1, sym own) (marks context ∙ rw (eq-eqb context context refl) refl))
      | inr b ↦ inl (bits p ∙ rw (still, b.0) refl)
    ]
    | inr there ↦ inr (elim (eqb_tells (slot slots p).context context) [
      | inl b ↦ marks (slot slots p).context ∙ rw b.0 refl
      | inr b ↦ marks (slot slots p).context ∙ rw b.0 there
    ])
  ];
}

-- the walk has looked at all places
pub all_gathered : (slots : Slots) (word left contexts : ℕ) → left ≡ 0 → AreGathered slots word left contexts → (p : ℕ) → has word p ≡ true → has contexts (slot slots p).context ≡ true
all_gathered slots word left contexts none h p t = elim (h.all p t) [
  | inl still ↦ absurd (true≢false (sym still ∙ ap (λ k. has k p) none ∙ has_zero p))
  | inr there ↦ there
]

-- a context has its bit where one of its entries passes
pub context_told : (test : Entry → Bool) (word contexts capacity : ℕ) (b : Places) (order : List ℕ) → ListsTaken capacity b order → IsMask test b.valid b.slots word
    → ((c : ℕ) → has contexts c ≡ true → (p : ℕ) × (has word p ≡ true) × ((slot b.slots p).context ≡ c)) → ((p : ℕ) → has word p ≡ true → has contexts (slot b.slots p).context ≡ true)
    → (c : ℕ) → has contexts c ≡ list_any (λ e. is_of c e && test e) (listed b.slots order)
context_told test word contexts capacity b order k m found all c = elim (cases_Bool (has contexts c)) [
  | inl there ↦
      let f = found c there in
      let passes = and_parts (has b.valid f.0) (test (slot b.slots f.0)) (sym (m f.0) ∙ f.1) in
      let own : is_of c (slot b.slots f.0) ≡ true = eq-eqb (slot b.slots f.0).context c f.2 in
      there ∙ sym (contains_found (λ e. is_of c e && test e) f.0 capacity b order k passes.0 (and_from (is_of c (slot b.slots f.0)) (test (slot b.slots f.0)) own passes.1))
  | inr missing ↦
      missing ∙ sym (contains_none (λ e. is_of c e && test e) capacity b order k (λ p taken. elim (cases_Bool (is_of c (slot b.slots p) && test (slot b.slots p))) [
        | inr fails ↦ fails
        | inl passes ↦
            let parts = and_parts (is_of c (slot b.slots p)) (test (slot b.slots p)) passes in
            let there : has contexts (slot b.slots p).context ≡ true = all p (m p ∙ and_from (has b.valid p) (test (slot b.slots p)) taken parts.1) in
            absurd (true≢false (sym there ∙ ap (has contexts) (eqb-true (slot b.slots p).context c parts.0) ∙ missing))
      ]))
]

-- Masks in step with the places.
use Rattle.std.proofs.Common.{◌≡◌, ℕ, zero, suc, max, ◌++◌, ◌+◌, ◌<◌, ◌≤◌, ◌⊎◌, inl, inr, Bool, true, false, cond, not, ◌&&◌, ◌||◌, eqb, List, [], ◌∷◌, length, take, get_or, set, replicate, refl, ap, ap₂, sym, subst, ◌∙◌, arith, take_all}
use Rattle.std.specs.Prelude.{slice_index, nat_le}
use Rattle.std.specs.List.{All, filter, list_any}
use Rattle.std.specs.Int.{bit_at}
use Rattle.std.specs.Int.Bits.{bit_or}
use Rattle.std.proofs.lemmas.Nat.Bits.{bit_at_or, bit_at-lt}
use Rattle.std.proofs.lemmas.Bool.{cases_eq, cases_lt, cases_Bool, eqb-true, eq-eqb, or_parts, or_right, not-true, true≢false, or_cases, and_parts, and_from, and_right, ne_eqb}
use Rattle.std.proofs.lemmas.Bool.Decides.{eqb_tells}
use Rattle.std.proofs.lemmas.List.{get_or-set_same, get_or-set_other, get_or-replicate, get_or_past, length_push, map_more}
use Rattle.std.proofs.lemmas.List.Folds.{list_any_more}
use Rattle.std.proofs.lemmas.List.Elements.{All-head, All-tail}
use Rattle.std.proofs.lemmas.List.Sums.{length-filter, count_by-le-length}
use Rattle.std.proofs.Math.Bool.{and-true, and_assoc}
use Rattle.core_view.specs.declared.note.EntryId.{EntryId}
use Rattle.issue_queue.specs.declared.entry.Queued.{Queued}
use Rattle.issue_queue.specs.declared.entry.Reading.{Reading}
use Rattle.issue_queue.specs.declared.entry.Source.{Source}
use Rattle.issue_queue.specs.declared.places.Places.{Places}
use Rattle.issue_queue.specs.declared.slots.Slots.{Slots}
use Rattle.issue_queue.specs.declared.selecting.Candidate.{Candidate}
use Rattle.issue_queue.specs.Candidates.{is_at, names_of}
use Rattle.word_mask.specs.Mask.{has}
use Rattle.issue_queue.specs.Board.{slot, narrowed, is_waiter, unflagged, InStep, IsMask, IsOffWhereFree, waits_for, is_of}
use Rattle.issue_queue.specs.Entries.{AreWide, entry_at}
use Rattle.issue_queue.specs.Entry.{Entry, is_ready, is_supplied, is_named, waits_for_two, are_two}
use Rattle.issue_queue.specs.IssueQueue.{awake, is_from}
use Rattle.issue_queue.specs.Views.{AreAlike, as_entry, awaited_of, entered, name_of, queued_of, reads_of}
use Rattle.word_mask.proofs.Laws.{has_zero, eqb_swap}
use Rattle.issue_queue.proofs.Walks.{IsSought, IsCut, AreNamed}

-- ---- what stands at the places

filter_same : {X : Type 0} (f g : X → Bool) (xs : List X) → ((x : X) → f x ≡ g x) → filter f xs ≡ filter g xs
filter_same f g [] h = refl
filter_same f g (x ∷ xs) h = rw (h x, filter_same f g xs h) refl

filter_both_at : {X : Type 0} (f g : X → Bool) (x : X) (xs : List X) (b : Bool) → filter f (filter g xs) ≡ filter (λ y. g y && f y) xs
    → filter f (cond b (x ∷ filter g xs) (filter g xs)) ≡ cond (b && f x) (x ∷ filter (λ y. g y && f y) xs) (filter (λ y. g y && f y) xs)
filter_both_at f g x xs true h = rw h refl
filter_both_at f g x xs false h = h

filter_both : {X : Type 0} (f g : X → Bool) (xs : List X) → filter f (filter g xs) ≡ filter (λ x. g x && f x) xs
filter_both f g [] = refl
filter_both f g (x ∷ xs) = filter_both_at f g x xs (g x) (filter_both f g xs)

-- what stands at the places after one is marked
pub slot_marked : (s t : Slots) (place : ℕ) (flag : Bool) → AreWide s.entries → place < 64 → t.entries ≡ record s.entries { speculative = set s.entries.speculative place flag } → t.held ≡ s.held → t.waiters ≡ s.waiters
    → (p : ℕ) → slot t p ≡ cond (eqb p place) (record (slot s p) { speculative = flag }) (slot s p)
slot_marked s t place flag wide lt entries held waiters p =
    let marked : Bool → Entry = λ speculative. record (slot s p) { speculative = speculative } in
    rw (entries, held, waiters) (elim (eqb_tells p place) [
      | inl b ↦ rw b.0 (ap marked (rw b.1 (get_or-set_same s.entries.speculative place flag false (omega (arith, wide.speculative, lt)))))
      | inr b ↦ rw b.0 (ap marked (get_or-set_other s.entries.speculative place p flag false b.1))
    ])

narrowed_same : (v w : List ℕ) (p : ℕ) (e : Entry) → ((r : ℕ) → is_waiter v p r ≡ is_waiter w p r) → narrowed v p e ≡ narrowed w p e
narrowed_same v w p e h = ap (λ ws. record e { waits = ws }) (filter_same (is_waiter v p) (is_waiter w p) e.waits h)

pub cond_true : (t : Bool) → cond t true false ≡ t
cond_true true = refl
cond_true false = refl

-- of two registers those are left that are waited for
left_awaited : (f : ℕ → Bool) (x y : ℕ) (a b : Bool) → (x ≡ y → a ≡ b) → ((r : ℕ) → f r ≡ list_any (λ w. eqb w r) (cond a (x ∷ []) [] ++ cond b (y ∷ []) []))
    → filter f (x ∷ y ∷ []) ≡ cond a (x ∷ []) [] ++ cond b (y ∷ []) []
left_awaited f x y true true same h =
    let here : f x ≡ true = h x ∙ rw (eq-eqb x x refl) refl in
    let there : f y ≡ true = h y ∙ or_right (eqb x y) (eqb y y || false) (rw (eq-eqb y y refl) refl) in
    rw (here, there) refl
left_awaited f x y true false same h =
    let here : f x ≡ true = h x ∙ rw (eq-eqb x x refl) refl in
    elim (eqb_tells x y) [
      | inl b ↦ absurd (true≢false (same b.1))
      | inr b ↦
          let there : f y ≡ false = h y ∙ rw b.0 refl in
          rw (here, there) refl
    ]
left_awaited f x y false true same h =
    let there : f y ≡ true = h y ∙ rw (eq-eqb y y refl) refl in
    elim (eqb_tells y x) [
      | inl b ↦ absurd (true≢false (sym (same (sym b.1))))
      | inr b ↦
          let here : f x ≡ false = h x ∙ rw b.0 refl in
          rw (here, there) refl
    ]
left_awaited f x y false false same h = rw (h x, h y) refl

-- an entry enters at a place that no word has, and its place the words of the registers that it waits for
pub slot_put : (s t : Slots) (place : ℕ) (q : Queued) (r : Reading) → q ≡ queued_of r → ((p : ℕ) → entry_at t.entries p ≡ cond (eqb p place) q (entry_at s.entries p))
    → t.held ≡ s.held → has s.held place ≡ false
    → ((k p : ℕ) → has (slice_index t.waiters k) p ≡ cond (eqb p place && list_any (λ w. eqb w k) (awaited_of r.first ++ awaited_of r.second)) true (has (slice_index s.waiters k) p))
    → ((k : ℕ) → has (slice_index s.waiters k) place ≡ false) → AreAlike r → (p : ℕ) → slot t p ≡ cond (eqb p place) (entered r) (slot s p)
slot_put s t place q r is entries held let_go waiters free alike p =
    let at_place : Queued → Entry = λ o. narrowed t.waiters p (as_entry (has t.held p) o) in
    elim (eqb_tells p place) [
      | inl b ↦
          let flag : has t.held p ≡ false = ap₂ has held b.1 ∙ let_go in
          let word : (k : ℕ) → is_waiter t.waiters p k ≡ list_any (λ w. eqb w k) (awaited_of r.first ++ awaited_of r.second) =
          λ k. waiters k p ∙ rw (b.0, b.1, free k) (cond_true (list_any (λ w. eqb w k) (awaited_of r.first ++ awaited_of r.second))) in
          let left : filter (is_waiter t.waiters p) (reads_of (queued_of r)) ≡ awaited_of r.first ++ awaited_of r.second =
          left_awaited (is_waiter t.waiters p) r.first.register r.second.register r.first.awaited r.second.awaited alike word in
          let here : entry_at t.entries p ≡ queued_of r = entries p ∙ rw b.0 is in
          ap at_place here ∙ rw (b.0, flag) (ap (λ ws. record (entered r) { waits = ws }) left)
      | inr b ↦
          let flag : has t.held p ≡ has s.held p = ap (λ w. has w p) held in
          let kept : entry_at t.entries p ≡ entry_at s.entries p = entries p ∙ rw b.0 refl in
          ap at_place kept ∙ rw (b.0, flag)
          (narrowed_same t.waiters s.waiters p (as_entry (has s.held p) (entry_at s.entries p)) (λ k. waiters k p ∙ rw b.0 refl))
    ]

-- the bits of one place left words: what stands at the others is as it was
pub slot_forgotten : (s t : Slots) (place guesses loads : ℕ) (ws : List ℕ) → t.entries ≡ record s.entries { guesses = guesses; loads = loads } → t.held ≡ s.held
    → ((p : ℕ) → has guesses p ≡ cond (eqb p place) false (has s.entries.guesses p)) → ((p : ℕ) → has loads p ≡ cond (eqb p place) false (has s.entries.loads p))
    → ((r p : ℕ) → has (slice_index t.waiters r) p ≡ cond (eqb p place && list_any (λ w. eqb w r) ws) false (has (slice_index s.waiters r) p))
    → (p : ℕ) → eqb p place ≡ false → slot t p ≡ slot s p
slot_forgotten s t place guesses loads ws entries held guess_bits load_bits waiters p other =
    let guessed : has guesses p ≡ has s.entries.guesses p = guess_bits p ∙ rw other refl in
    let load : has loads p ≡ has s.entries.loads p = load_bits p ∙ rw other refl in
    rw (entries, held, guessed, load) (narrowed_same t.waiters s.waiters p (as_entry (has s.held p) (entry_at s.entries p)) (λ r. waiters r p ∙ rw other refl))

is_waiter_without : (w : List ℕ) (r p k : ℕ) → r < length w → is_waiter (set w r 0) p k ≡ (is_waiter w p k && not (eqb k r))
is_waiter_without w r p k lt = elim (eqb_tells k r) [
  | inl b ↦ rw (b.0, b.1) (ap (λ x. has x p) (get_or-set_same w r 0 0 lt) ∙ has_zero p ∙ sym (and_right (is_waiter w p r) false refl))
  | inr b ↦ rw b.0 (ap (λ x. has x p) (get_or-set_other w r k 0 0 b.1) ∙ sym (and-true (is_waiter w p k)))
]

-- a register's word is emptied: no entry waits for it any more
pub slot_woken : (s t : Slots) (r : ℕ) → r < length s.waiters → t.entries ≡ s.entries → t.held ≡ s.held → t.waiters ≡ set s.waiters r 0 → (p : ℕ) → slot t p ≡ awake r (slot s p)
slot_woken s t r lt entries held waiters p =
    let e : Entry = as_entry (has s.held p) (entry_at s.entries p) in
    rw (entries, held, waiters) (ap (λ ws. record e { waits = ws })
    (filter_same (is_waiter (set s.waiters r 0) p) (λ k. is_waiter s.waiters p k && not (eqb k r)) e.waits (λ k. is_waiter_without s.waiters r p k lt)
    ∙ sym (filter_both (λ k. not (eqb k r)) (is_waiter s.waiters p) e.waits)))

-- a mask stays where its test answers as before
pub mask_kept : (test : Entry → Bool) (valid : ℕ) (slots new : Slots) (word : ℕ) → ((p : ℕ) → test (slot new p) ≡ test (slot slots p)) → IsMask test valid slots word → IsMask test valid new word
mask_kept test valid slots new word same h p = h p ∙ ap (λ b. has valid p && b) (sym (same p))

word_is : (test : Entry → Bool) (valid : ℕ) (slots : Slots) (v w : ℕ) → v ≡ w → IsMask test valid slots w → IsMask test valid slots v
word_is test valid slots v w same m p = ap (λ x. has x p) same ∙ m p

test_at : (test : Entry → Bool) (b : Bool) (e f : Entry) → (b ≡ true → test e ≡ test f) → test (cond b e f) ≡ test f
test_at test true e f h = h refl
test_at test false e f h = refl

let_go_at : (b : Bool) (e f : Entry) → ((e.held ≡ false) ⊎ (b ≡ false)) → f.held ≡ false → (cond b e f).held ≡ false
let_go_at true e f (inl free) h = free
let_go_at true e f (inr never) h = absurd (true≢false never)
let_go_at false e f either h = h

-- a flag that stays as it is
off_kept : (flag : Entry → Bool) (b c : Places) → c.valid ≡ b.valid → ((p : ℕ) → flag (slot c.slots p) ≡ flag (slot b.slots p)) → IsOffWhereFree flag b.valid b.slots → IsOffWhereFree flag c.valid c.slots
off_kept flag b c valid same h p free = same p ∙ h p (ap (λ v. has v p) (sym valid) ∙ free)

-- a change of entries that no test sees keeps all words in step, where it holds none that is free
pub unseen_in_step : (g : Entry → Entry) → ((e : Entry) → (g e).waits ≡ e.waits) → ((e : Entry) → (g e).guessed ≡ e.guessed) → ((e : Entry) → (g e).load ≡ e.load) → ((e : Entry) → (g e).context ≡ e.context)
    → (here : ℕ → Bool) (b c : Places) → c.valid ≡ b.valid → c.supplied ≡ b.supplied → c.contexts ≡ b.contexts → c.slots.waiters ≡ b.slots.waiters → c.two ≡ b.two
    → ((p : ℕ) → slot c.slots p ≡ cond (here p) (g (slot b.slots p)) (slot b.slots p)) → ((p : ℕ) → has b.valid p ≡ false → ((g (slot b.slots p)).held ≡ false) ⊎ (here p ≡ false)) → InStep b → InStep c
unseen_in_step g waits guessed load context here b c valid supplied contexts waiters two slots let_go h =
    let kept : (test : Entry → Bool) → ((e : Entry) → test (g e) ≡ test e) → (word : ℕ) → IsMask test b.valid b.slots word → IsMask test b.valid c.slots word =
    λ test same word m. mask_kept test b.valid b.slots c.slots word
    (λ p. ap test (slots p) ∙ test_at test (here p) (g (slot b.slots p)) (slot b.slots p) (λ t. same (slot b.slots p))) m in
    let off : (flag : Entry → Bool) → ((e : Entry) → flag (g e) ≡ flag e) → IsOffWhereFree flag b.valid b.slots → IsOffWhereFree flag c.valid c.slots =
    λ flag same. off_kept flag b c valid (λ p. ap flag (slots p) ∙ test_at flag (here p) (g (slot b.slots p)) (slot b.slots p) (λ t. same (slot b.slots p))) in
    record {
      supplied = rw (valid, supplied) (kept is_supplied (λ e. ap (λ ws. eqb (length ws) 0) (waits e)) b.supplied h.supplied);
      contexts = λ k below. rw (valid, contexts) (kept (is_of k) (λ e. ap (λ x. eqb x k) (context e)) (slice_index b.contexts k) (h.contexts k below));
      waiters = λ r below. word_is (waits_for r) c.valid c.slots (slice_index c.slots.waiters r) (slice_index b.slots.waiters r) (ap (λ ws. slice_index ws r) waiters)
          (rw valid (kept (waits_for r) (λ e. ap (list_any (λ w. eqb w r)) (waits e)) (slice_index b.slots.waiters r) (h.waiters r below)));
      two = rw (valid, two) (kept waits_for_two (λ e. ap are_two (waits e)) b.two h.two);
      let_go = λ p free.
          let was : has b.valid p ≡ false = ap (λ v. has v p) (sym valid) ∙ free in
          ap (λ e. e.held) (slots p) ∙ let_go_at (here p) (g (slot b.slots p)) (slot b.slots p) (let_go p was) (h.let_go p was);
      unguessed = off (λ e. e.guessed) guessed h.unguessed;
      no_load = off (λ e. e.load) load h.no_load;
    }

-- nothing is in step with nothing
pub none_in_step : (b : Places) → b.valid ≡ 0 → b.supplied ≡ 0 → b.slots.entries.guesses ≡ 0 → b.slots.entries.loads ≡ 0 → ((c : ℕ) → c < 8 → slice_index b.contexts c ≡ 0) → ((r : ℕ) → r < 480 → slice_index b.slots.waiters r ≡ 0) → b.two ≡ 0 → b.slots.held ≡ 0 → InStep b
none_in_step b valid supplied guesses loads contexts waiters two held =
    let none : (test : Entry → Bool) (word : ℕ) → word ≡ 0 → IsMask test b.valid b.slots word =
    λ test word zero p. rw (zero, valid) (rw has_zero refl) in
    record {
      supplied = none is_supplied b.supplied supplied;
      contexts = λ c below. none (is_of c) (slice_index b.contexts c) (contexts c below);
      waiters = λ r below. none (waits_for r) (slice_index b.slots.waiters r) (waiters r below);
      two = none waits_for_two b.two two;
      let_go = λ p free. ap (λ w. has w p) held ∙ has_zero p;
      unguessed = λ p free. ap (λ w. has w p) guesses ∙ has_zero p;
      no_load = λ p free. ap (λ w. has w p) loads ∙ has_zero p;
    }

-- those of a mask that have a flag
pub mask_flagged : (test flag : Entry → Bool) (valid : ℕ) (slots : Slots) (word flags both : ℕ) → ((p : ℕ) → has both p ≡ (has word p && has flags p)) → ((p : ℕ) → has flags p ≡ flag (slot slots p))
    → IsMask test valid slots word → IsMask (λ e. test e && flag e) valid slots both
mask_flagged test flag valid slots word flags both bits marks m p =
    bits p ∙ ap₂ (λ x y. x && y) (m p) (marks p) ∙ and_assoc (has valid p) (test (slot slots p)) (flag (slot slots p))

-- what waits for nothing and is not held is ready
pub mask_ready : (valid : ℕ) (slots : Slots) (supplied held ready : ℕ) → ((p : ℕ) → has ready p ≡ (has supplied p && not (has held p))) → ((p : ℕ) → has held p ≡ (slot slots p).held)
    → IsMask is_supplied valid slots supplied → IsMask is_ready valid slots ready
mask_ready valid slots supplied held ready bits marks m p =
    bits p ∙ ap₂ (λ x y. x && not y) (m p) (marks p) ∙ and_assoc (has valid p) (is_supplied (slot slots p)) (not (slot slots p).held)

-- no entry of the name was found
pub sought_all : (b : Places) (context stamp left : ℕ) → context < 8 → left ≡ 0 → InStep b → IsSought b context stamp left → (p : ℕ) → has b.valid p ≡ true → is_named context stamp (slot b.slots p) ≡ false
sought_all b context stamp left below none h s p taken = elim (cases_Bool (is_named context stamp (slot b.slots p))) [
  | inr no_name ↦ no_name
  | inl named ↦
      let of : is_of context (slot b.slots p) ≡ true = (and_parts (is_of context (slot b.slots p)) (eqb (slot b.slots p).stamp stamp) named).0 in
      elim (s.others p (h.contexts context below p ∙ and_from (has b.valid p) (is_of context (slot b.slots p)) taken of)) [
        | inl still ↦ absurd (true≢false (sym still ∙ ap (λ k. has k p) none ∙ has_zero p))
        | inr unnamed ↦ unnamed
      ]
]

-- a context whose word is 0 has no entry
pub none_of_context : (b : Places) (context : ℕ) → context < 8 → InStep b → slice_index b.contexts context ≡ 0 → (p : ℕ) → has b.valid p ≡ true → is_of context (slot b.slots p) ≡ false
none_of_context b context below h none p taken =
    sym (ap (λ v. v && is_of context (slot b.slots p)) taken) ∙ sym (h.contexts context below p) ∙ ap (λ w. has w p) none ∙ has_zero p

cut_at : (v o l : Bool) → (v && not (((v && o) && true) && (o && l))) ≡ (v && not (o && l))
cut_at true true l = refl
cut_at true false l = refl
cut_at false o l = refl

-- the walk has freed all that it was to free
cut_all : (a b : Places) (word : ℕ) (test : Entry → Bool) (left : ℕ) → left ≡ 0 → IsCut a b word test left → (p : ℕ) → has b.valid p ≡ (has a.valid p && not ((has word p && true) && test (slot a.slots p)))
cut_all a b word test left none s p =
    let empty : has left p ≡ false = ap (λ k. has k p) none ∙ has_zero p in
    s.valid p ∙ ap (λ l. has a.valid p && not ((has word p && not l) && test (slot a.slots p))) empty

-- all of a context that pass the test
pub cut_context : (a b : Places) (context stamp left : ℕ) → context < 8 → left ≡ 0 → InStep a → IsCut a b (slice_index a.contexts context) (is_from context stamp) left
    → (p : ℕ) → has b.valid p ≡ (has a.valid p && not (is_from context stamp (slot a.slots p)))
cut_context a b context stamp left below none h s p =
    cut_all a b (slice_index a.contexts context) (is_from context stamp) left none s p
    ∙ ap (λ w. has a.valid p && not ((w && true) && is_from context stamp (slot a.slots p))) (h.contexts context below p)
    ∙ cut_at (has a.valid p) (is_of context (slot a.slots p)) (nat_le stamp (slot a.slots p).stamp)

-- all of the word
pub cut_word : (a b : Places) (word left : ℕ) → left ≡ 0 → IsCut a b word (λ e. true) left → (p : ℕ) → has b.valid p ≡ (has a.valid p && not (has word p))
cut_word a b word left none s p =
    cut_all a b word (λ e. true) left none s p ∙ ap (λ w. has a.valid p && not w) (and-true (has word p && true) ∙ and-true (has word p))

cut_next_at : (v w l f : Bool) → w ≡ true → l ≡ false → f ≡ true → (v && not ((w && not l) && f)) ≡ false
cut_next_at true true false true w l f = refl
cut_next_at false w l f a b c = refl
cut_next_at true false l f a b c = absurd (true≢false (sym a))
cut_next_at true true true f a b c = absurd (true≢false b)
cut_next_at true true false false a b c = absurd (true≢false (sym c))

-- a place that is left is taken
pub cut_taken : (a b : Places) (word : ℕ) (test : Entry → Bool) (left place : ℕ) → ((p : ℕ) → has word p ≡ true → has a.valid p ≡ true) → has left place ≡ true → IsCut a b word test left → has b.valid place ≡ true
cut_taken a b word test left place inside here s = s.valid place ∙ rw (inside place (s.within place here), here, s.within place here) refl

-- a place that is left is freed
pub cut_next : (a b d : Places) (word : ℕ) (test : Entry → Bool) (left less place : ℕ) → ((p : ℕ) → has word p ≡ true → has a.valid p ≡ true) → IsCut a b word test left → InStep d
    → ((p : ℕ) → has d.valid p ≡ (has b.valid p && not (eqb p place))) → ((p : ℕ) → eqb p place ≡ false → slot d.slots p ≡ slot b.slots p)
    → has left place ≡ true → ((p : ℕ) → has less p ≡ (has left p && not (eqb p place))) → test (slot b.slots place) ≡ true → IsCut a d word test less
cut_next a b d word test left less place inside s step valid slots here bits passes =
    let taken : has b.valid place ≡ true = cut_taken a b word test left place inside here s in
    let old : test (slot a.slots place) ≡ true = ap test (sym (s.slots place taken)) ∙ passes in
    record {
      step = step;
      slots = λ p t.
          let parts = and_parts (has b.valid p) (not (eqb p place)) (sym (valid p) ∙ t) in
          slots p (not-true (eqb p place) parts.1) ∙ s.slots p parts.0;
      valid = λ p. elim (eqb_tells p place) [
        | inl t ↦
            let gone : has less place ≡ false = bits place ∙ rw (eq-eqb place place refl) (and_right (has left place) false refl) in
            rw (valid p, t.0, t.1) (and_right (has b.valid place) false refl ∙ sym (cut_next_at (has a.valid place) (has word place) (has less place) (test (slot a.slots place)) (s.within place here) gone old))
        | inr t ↦
            let stays : has less p ≡ has left p = bits p ∙ rw t.0 (and-true (has left p)) in
            rw (valid p, t.0, stays) (and-true (has b.valid p) ∙ s.valid p)
      ];
      within = λ p t. s.within p (and_parts (has left p) (not (eqb p place)) (sym (bits p) ∙ t)).0;
    }

-- the places of a context are taken
pub context_taken : (b : Places) (context : ℕ) → context < 8 → InStep b → (p : ℕ) → has (slice_index b.contexts context) p ≡ true → has b.valid p ≡ true
context_taken b context below h p t = (and_parts (has b.valid p) (is_of context (slot b.slots p)) (sym (h.contexts context below p) ∙ t)).0

pub zeros : (n k : ℕ) → k < n → slice_index (replicate n 0) k ≡ 0
zeros n k lt = get_or-replicate n k 0 0 lt

any_same_at : (r x : ℕ) (xs : List ℕ) (b : Bool) → eqb x r ≡ b → list_any (λ w. eqb w r) xs ≡ false → list_any (λ w. eqb w r) (cond (not b) (x ∷ xs) xs) ≡ false
any_same_at r x xs true e h = h
any_same_at r x xs false e h = rw e h

any_same : (r : ℕ) (xs : List ℕ) → list_any (λ w. eqb w r) (filter (λ w. not (eqb w r)) xs) ≡ false
any_same r [] = refl
any_same r (x ∷ xs) = any_same_at r x (filter (λ w. not (eqb w r)) xs) (eqb x r) refl (any_same r xs)

any_other_at : (r k x : ℕ) (xs ys : List ℕ) (b : Bool) → eqb x r ≡ b → (k ≡ r → ⊥) → list_any (λ w. eqb w k) xs ≡ list_any (λ w. eqb w k) ys → list_any (λ w. eqb w k) (cond (not b) (x ∷ xs) xs) ≡ (eqb x k || list_any (λ w. eqb w k) ys)
any_other_at r k x xs ys true e other h =
    let unlike : eqb x k ≡ false = ne_eqb x k (λ same. other (sym same ∙ eqb-true x r e)) in
    rw unlike h
any_other_at r k x xs ys false e other h = ap (λ b. eqb x k || b) h

any_other : (r k : ℕ) (xs : List ℕ) → (k ≡ r → ⊥) → list_any (λ w. eqb w k) (filter (λ w. not (eqb w r)) xs) ≡ list_any (λ w. eqb w k) xs
any_other r k [] other = refl
any_other r k (x ∷ xs) other = any_other_at r k x (filter (λ w. not (eqb w r)) xs) xs (eqb x r) refl other (any_other r k xs other)

supplied_awake_at : (r x y : ℕ) (a b : Bool) → eqb x r ≡ a → eqb y r ≡ b → eqb (length (filter (λ w. not (eqb w r)) (x ∷ y ∷ []))) 0 ≡ ((eqb x r || (eqb y r || false)) && not (not (eqb x y)))
supplied_awake_at r x y true true e f = rw (e, f, eq-eqb x y (eqb-true x r e ∙ sym (eqb-true y r f))) refl
supplied_awake_at r x y true false e f = rw (e, f, ne_eqb x y (λ s. true≢false (sym (eq-eqb y r (sym s ∙ eqb-true x r e)) ∙ f))) refl
supplied_awake_at r x y false true e f = rw (e, f, ne_eqb x y (λ s. true≢false (sym (eq-eqb x r (s ∙ eqb-true y r f)) ∙ e))) refl
supplied_awake_at r x y false false e f = rw (e, f) refl

supplied_awake_one : (r x : ℕ) (a : Bool) → eqb x r ≡ a → eqb (length (filter (λ w. not (eqb w r)) (x ∷ []))) 0 ≡ ((eqb x r || false) && true)
supplied_awake_one r x true e = rw e refl
supplied_awake_one r x false e = rw e refl

-- of at most two registers none is left without one: there were none, or it was the only one
supplied_awake : (r : ℕ) (ws : List ℕ) → length ws ≤ 2 → (eqb (length ws) 0 || (list_any (λ w. eqb w r) ws && not (are_two ws))) ≡ eqb (length (filter (λ w. not (eqb w r)) ws)) 0
supplied_awake r [] h = refl
supplied_awake r (x ∷ []) h = sym (supplied_awake_one r x (eqb x r) refl)
supplied_awake r (x ∷ y ∷ []) h = sym (supplied_awake_at r x y (eqb x r) (eqb y r) refl refl)
supplied_awake r (x ∷ y ∷ z ∷ ws) h = absurd (omega (arith, h))

two_awake_at : (r x y : ℕ) (a b : Bool) → eqb x r ≡ a → eqb y r ≡ b → are_two (filter (λ w. not (eqb w r)) (x ∷ y ∷ [])) ≡ (not (eqb x y) && not (eqb x r || (eqb y r || false)))
two_awake_at r x y true true e f = rw (e, f) (sym (and_right (not (eqb x y)) false refl))
two_awake_at r x y true false e f = rw (e, f) (sym (and_right (not (eqb x y)) false refl))
two_awake_at r x y false true e f = rw (e, f) (sym (and_right (not (eqb x y)) false refl))
two_awake_at r x y false false e f = rw (e, f) (sym (and-true (not (eqb x y))))

two_awake_one : (r x : ℕ) (a : Bool) → eqb x r ≡ a → are_two (filter (λ w. not (eqb w r)) (x ∷ [])) ≡ false
two_awake_one r x true e = rw e refl
two_awake_one r x false e = rw e refl

-- of at most two registers two are left without one, where it was none of them
two_awake : (r : ℕ) (ws : List ℕ) → length ws ≤ 2 → (are_two ws && not (list_any (λ w. eqb w r) ws)) ≡ are_two (filter (λ w. not (eqb w r)) ws)
two_awake r [] h = refl
two_awake r (x ∷ []) h = sym (two_awake_one r x (eqb x r) refl)
two_awake r (x ∷ y ∷ []) h = sym (two_awake_at r x y (eqb x r) (eqb y r) refl refl)
two_awake r (x ∷ y ∷ z ∷ ws) h = absurd (omega (arith, h))

-- an entry waits for at most two registers
waits_short : (slots : Slots) (p : ℕ) → length (slot slots p).waits ≤ 2
waits_short slots p =
    let q : Queued = entry_at slots.entries p in
    omega (arith, length-filter (is_waiter slots.waiters p) (reads_of q), count_by-le-length (is_waiter slots.waiters p) (reads_of q))

or_and_at : (v s w t : Bool) → ((v && s) || ((v && w) && not (v && t))) ≡ (v && (s || (w && not t)))
or_and_at true s w t = refl
or_and_at false s w t = refl

and_not_at : (v t w : Bool) → ((v && t) && not (v && w)) ≡ (v && (t && not w))
and_not_at true t w = refl
and_not_at false t w = refl

-- where a register's word is emptied, all is in step
pub woken_in_step : (b c : Places) (r : ℕ) → r < 480 → r < length b.slots.waiters → c.valid ≡ b.valid → c.contexts ≡ b.contexts → c.slots.waiters ≡ set b.slots.waiters r 0
    → ((p : ℕ) → slot c.slots p ≡ awake r (slot b.slots p))
    → ((p : ℕ) → has c.supplied p ≡ (has b.supplied p || (has (slice_index b.slots.waiters r) p && not (has b.two p))))
    → ((p : ℕ) → has c.two p ≡ (has b.two p && not (has (slice_index b.slots.waiters r) p)))
    → InStep b → InStep c
woken_in_step b c r below lt valid contexts waiters slots supplied two h =
    let kept : (test : Entry → Bool) → ((e : Entry) → test (awake r e) ≡ test e) → (w : ℕ) → IsMask test b.valid b.slots w → IsMask test b.valid c.slots w =
    λ test same w m. mask_kept test b.valid b.slots c.slots w (λ p. ap test (slots p) ∙ same (slot b.slots p)) m in
    record {
      let_go = off_kept (λ e. e.held) b c valid (λ p. ap (λ e. e.held) (slots p)) h.let_go;
      unguessed = off_kept (λ e. e.guessed) b c valid (λ p. ap (λ e. e.guessed) (slots p)) h.unguessed;
      no_load = off_kept (λ e. e.load) b c valid (λ p. ap (λ e. e.load) (slots p)) h.no_load;
      supplied = λ p.
          let e : Entry = slot b.slots p in
          supplied p
          ∙ ap₂ (λ x y. x || y) (h.supplied p) (ap₂ (λ x y. x && not y) (h.waiters r below p) (h.two p))
          ∙ or_and_at (has b.valid p) (is_supplied e) (waits_for r e) (waits_for_two e)
          ∙ ap (λ x. has b.valid p && x) (supplied_awake r e.waits (waits_short b.slots p))
          ∙ sym (ap₂ (λ v f. has v p && is_supplied f) valid (slots p));
      two = λ p.
          let e : Entry = slot b.slots p in
          two p
          ∙ ap₂ (λ x y. x && not y) (h.two p) (h.waiters r below p)
          ∙ and_not_at (has b.valid p) (waits_for_two e) (waits_for r e)
          ∙ ap (λ x. has b.valid p && x) (two_awake r e.waits (waits_short b.slots p))
          ∙ sym (ap₂ (λ v f. has v p && waits_for_two f) valid (slots p));
      contexts = λ k lt. rw (valid, contexts) (kept (is_of k) (λ e. refl) (slice_index b.contexts k) (h.contexts k lt));
      waiters = λ k small p.
          let e : Entry = slot b.slots p in
          ap (λ ws. has (slice_index ws k) p) waiters
          ∙ elim (cases_eq k r) [
            | inl same ↦
                ap (λ j. has (slice_index (set b.slots.waiters r 0) j) p) same
                ∙ ap (λ x. has x p) (get_or-set_same b.slots.waiters r 0 0 lt)
                ∙ has_zero p
                ∙ sym (and_right (has c.valid p) (waits_for k (slot c.slots p)) (ap (waits_for k) (slots p) ∙ ap (λ j. waits_for j (awake r e)) same ∙ any_same r e.waits))
            | inr other ↦
                ap (λ x. has x p) (get_or-set_other b.slots.waiters r k 0 0 other)
                ∙ h.waiters k small p
                ∙ ap (λ x. has b.valid p && x) (sym (any_other r k e.waits other))
                ∙ sym (ap₂ (λ v f. has v p && waits_for k f) valid (slots p))
          ];
    }

-- an entry enters at a place that is free
put_at : (test : Entry → Bool) (b : Places) (s : Slots) (new place word newer : ℕ) (e : Entry) → has b.valid place ≡ false → ((p : ℕ) → has new p ≡ cond (eqb p place) true (has b.valid p))
    → ((p : ℕ) → slot s p ≡ cond (eqb p place) e (slot b.slots p)) → ((p : ℕ) → has newer p ≡ cond (eqb p place && test e) true (has word p))
    → IsMask test b.valid b.slots word → IsMask test new s newer
put_at test b s new place word newer e free valid slots bits m p = elim (eqb_tells p place) [
  | inl t ↦
      let none : has word p ≡ false = m p ∙ rw t.1 (rw free refl) in
      rw (bits p, valid p, slots p) (rw (t.0, none) (cond_true (test e)))
  | inr t ↦ rw (bits p, valid p, slots p) (rw t.0 (m p))
]

or_added : (w b : Bool) → (w || b) ≡ cond b true w
or_added true true = refl
or_added true false = refl
or_added false true = refl
or_added false false = refl

-- an entry enters: a place that is still free has no flag
off_put : (flag : Entry → Bool) (b c : Places) (place : ℕ) (e : Entry) → ((p : ℕ) → has c.valid p ≡ cond (eqb p place) true (has b.valid p)) → ((p : ℕ) → slot c.slots p ≡ cond (eqb p place) e (slot b.slots p))
    → IsOffWhereFree flag b.valid b.slots → IsOffWhereFree flag c.valid c.slots
off_put flag b c place e valid slots h p none = elim (eqb_tells p place) [
  | inl t ↦
      let taken : has c.valid p ≡ true = valid p ∙ rw t.0 refl in
      absurd (true≢false (sym taken ∙ none))
  | inr t ↦
      let was : has c.valid p ≡ has b.valid p = valid p ∙ rw t.0 refl in
      let kept : slot c.slots p ≡ slot b.slots p = slots p ∙ rw t.0 refl in
      ap flag kept ∙ h p (sym was ∙ none)
]

pub put_in_step : (b c : Places) (place : ℕ) (e : Entry) → place < 64 → has b.valid place ≡ false → e.context < 8 → ((p : ℕ) → has c.valid p ≡ cond (eqb p place) true (has b.valid p))
    → ((p : ℕ) → slot c.slots p ≡ cond (eqb p place) e (slot b.slots p))
    → ((p : ℕ) → has c.supplied p ≡ (has b.supplied p || (eqb p place && is_supplied e))) → ((p : ℕ) → has c.two p ≡ (has b.two p || (eqb p place && waits_for_two e)))
    → ((i p : ℕ) → has (slice_index c.contexts i) p ≡ cond (eqb p place && eqb i e.context) true (has (slice_index b.contexts i) p))
    → ((r p : ℕ) → has (slice_index c.slots.waiters r) p ≡ cond (eqb p place && waits_for r e) true (has (slice_index b.slots.waiters r) p))
    → InStep b → InStep c
put_in_step b c place e bound free context valid slots supplied two contexts waiters h = record {
  let_go = off_put (λ f. f.held) b c place e valid slots h.let_go;
  unguessed = off_put (λ f. f.guessed) b c place e valid slots h.unguessed;
  no_load = off_put (λ f. f.load) b c place e valid slots h.no_load;
  supplied = put_at is_supplied b c.slots c.valid place b.supplied c.supplied e free valid slots (λ p. supplied p ∙ or_added (has b.supplied p) (eqb p place && is_supplied e)) h.supplied;
  two = put_at waits_for_two b c.slots c.valid place b.two c.two e free valid slots (λ p. two p ∙ or_added (has b.two p) (eqb p place && waits_for_two e)) h.two;
  contexts = λ k below. put_at (is_of k) b c.slots c.valid place (slice_index b.contexts k) (slice_index c.contexts k) e free valid slots (λ p. contexts k p ∙ rw (eqb_swap k e.context) refl) (h.contexts k below);
  waiters = λ r below. put_at (waits_for r) b c.slots c.valid place (slice_index b.slots.waiters r) (slice_index c.slots.waiters r) e free valid slots (λ p. waiters r p) (h.waiters r below);
}

any_filtered_at : (r w : ℕ) (ws : List ℕ) (b : Bool) → eqb w r ≡ false → list_any (λ v. eqb v r) ws ≡ false → list_any (λ v. eqb v r) (cond b (w ∷ ws) ws) ≡ false
any_filtered_at r w ws true e h = rw e h
any_filtered_at r w ws false e h = h

any_filtered : (f : ℕ → Bool) (r : ℕ) (ws : List ℕ) → list_any (λ w. eqb w r) ws ≡ false → list_any (λ w. eqb w r) (filter f ws) ≡ false
any_filtered f r [] h = refl
any_filtered f r (w ∷ ws) h =
    let parts = or_parts (eqb w r) (list_any (λ v. eqb v r) ws) h in
    any_filtered_at r w (filter f ws) (f w) parts.0 (any_filtered f r ws parts.1)

freed_bit : (a w : Bool) → (a ≡ false → w ≡ false) → cond a false w ≡ false
freed_bit true w h = refl
freed_bit false w h = h refl

-- a place is freed: it leaves each word
free_at : (test : Entry → Bool) (b : Places) (s : Slots) (new place word newer : ℕ) → ((p : ℕ) → has new p ≡ (has b.valid p && not (eqb p place))) → ((p : ℕ) → eqb p place ≡ false → slot s p ≡ slot b.slots p)
    → ((p : ℕ) → eqb p place ≡ false → has newer p ≡ has word p) → has newer place ≡ false → IsMask test b.valid b.slots word → IsMask test new s newer
free_at test b s new place word newer valid slots others here m p = elim (eqb_tells p place) [
  | inl t ↦ rw (valid p, t.0, t.1) (here ∙ sym (ap (λ x. x && test (slot s place)) (and_right (has b.valid place) false refl)))
  | inr t ↦ rw (valid p, t.0, slots p t.0) (others p t.0 ∙ m p ∙ ap (λ x. x && test (slot b.slots p)) (sym (and-true (has b.valid p))))
]

-- a place is freed that has lost the flag
off_freed : (flag : Entry → Bool) (b c : Places) (place : ℕ) → ((p : ℕ) → has c.valid p ≡ (has b.valid p && not (eqb p place))) → ((p : ℕ) → eqb p place ≡ false → slot c.slots p ≡ slot b.slots p)
    → flag (slot c.slots place) ≡ false → IsOffWhereFree flag b.valid b.slots → IsOffWhereFree flag c.valid c.slots
off_freed flag b c place valid slots off h p free = elim (eqb_tells p place) [
  | inl t ↦ rw t.1 off
  | inr t ↦
      let was : has b.valid p ≡ false = sym (valid p ∙ rw t.0 (and-true (has b.valid p))) ∙ free in
      ap flag (slots p t.0) ∙ h p was
]

pub free_in_step : (b c : Places) (place : ℕ) (q : Queued) (context : ℕ) → has b.valid place ≡ true → q ≡ entry_at b.slots.entries place → context ≡ q.context → context < 8
    → ((p : ℕ) → has c.valid p ≡ (has b.valid p && not (eqb p place)))
    → ((p : ℕ) → eqb p place ≡ false → slot c.slots p ≡ slot b.slots p)
    → ((p : ℕ) → has c.supplied p ≡ cond (eqb p place) false (has b.supplied p)) → ((p : ℕ) → has c.two p ≡ cond (eqb p place) false (has b.two p))
    → ((i p : ℕ) → has (slice_index c.contexts i) p ≡ cond (eqb p place && eqb i context) false (has (slice_index b.contexts i) p))
    → ((r p : ℕ) → has (slice_index c.slots.waiters r) p ≡ cond (eqb p place && list_any (λ w. eqb w r) (reads_of (entry_at b.slots.entries place))) false (has (slice_index b.slots.waiters r) p))
    → (slot c.slots place).held ≡ false → (slot c.slots place).guessed ≡ false → (slot c.slots place).load ≡ false → InStep b → InStep c
free_in_step b c place q context taken is own bound valid slots supplied two contexts waiters held unguessed no_load h =
    let same : eqb place place ≡ true = eq-eqb place place refl in
    let word : (test : Entry → Bool) (old new : ℕ) → ((p : ℕ) → has new p ≡ cond (eqb p place) false (has old p)) → IsMask test b.valid b.slots old → IsMask test c.valid c.slots new =
    λ test old new bits m. free_at test b c.slots c.valid place old new valid slots (λ p t. bits p ∙ rw t refl) (bits place ∙ rw same refl) m in
    record {
      let_go = off_freed (λ e. e.held) b c place valid slots held h.let_go;
      unguessed = off_freed (λ e. e.guessed) b c place valid slots unguessed h.unguessed;
      no_load = off_freed (λ e. e.load) b c place valid slots no_load h.no_load;
      supplied = word is_supplied b.supplied c.supplied supplied h.supplied;
      two = word waits_for_two b.two c.two two h.two;
      contexts = λ k below. free_at (is_of k) b c.slots c.valid place (slice_index b.contexts k) (slice_index c.contexts k) valid slots (λ p t. contexts k p ∙ rw t refl)
          (contexts k place ∙ rw same (freed_bit (eqb k context) (has (slice_index b.contexts k) place) (λ f. h.contexts k below place ∙ and_right (has b.valid place) (is_of k (slot b.slots place)) (ap (λ x. eqb x k) (sym (own ∙ ap (λ x. x.context) is)) ∙ eqb_swap context k ∙ f))))
          (h.contexts k below);
      waiters = λ r below. free_at (waits_for r) b c.slots c.valid place (slice_index b.slots.waiters r) (slice_index c.slots.waiters r) valid slots (λ p t. waiters r p ∙ rw t refl)
          (waiters r place ∙ rw same (freed_bit (list_any (λ w. eqb w r) (reads_of (entry_at b.slots.entries place))) (has (slice_index b.slots.waiters r) place)
          (λ f. h.waiters r below place ∙ and_right (has b.valid place) (waits_for r (slot b.slots place)) (any_filtered (is_waiter b.slots.waiters place) r (reads_of (entry_at b.slots.entries place)) f))))
          (h.waiters r below);
    }

-- ---- places of a word that are freed

and_not_kept : (v t n : Bool) → ((v && t) && n) ≡ ((v && n) && t)
and_not_kept true true n = sym (and-true n)
and_not_kept true false true = refl
and_not_kept true false false = refl
and_not_kept false t n = refl

-- the mask without the places of a word, where they are no longer taken
mask_without : (test : Entry → Bool) (valid less : ℕ) (slots : Slots) (word mask new : ℕ) → ((p : ℕ) → has less p ≡ (has valid p && not (has word p))) → ((p : ℕ) → has new p ≡ (has mask p && not (has word p)))
    → IsMask test valid slots mask → IsMask test less slots new
mask_without test valid less slots word mask new fewer bits m p =
    bits p ∙ ap (λ x. x && not (has word p)) (m p) ∙ and_not_kept (has valid p) (test (slot slots p)) (not (has word p)) ∙ ap (λ x. x && test (slot slots p)) (sym (fewer p))

and_unset : (v t w : Bool) → (w ≡ true → t ≡ false) → (v && t) ≡ ((v && not w) && t)
and_unset true t true h = h refl
and_unset true t false h = refl
and_unset false t w h = refl

none_waits : (r : ℕ) (ws : List ℕ) → eqb (length ws) 0 ≡ true → list_any (λ w. eqb w r) ws ≡ false
none_waits r [] h = refl
none_waits r (w ∷ ws) h = absurd (omega (arith, eqb-true (length (w ∷ ws)) 0 h))

-- a place that is freed was free, or was ready and so not held
freed_held : (valid word held : Bool) → (valid && not word) ≡ false → (valid ≡ false → held ≡ false) → (word ≡ true → not held ≡ true) → held ≡ false
freed_held valid true held gone free ready = not-true held (ready refl)
freed_held true false held gone free ready = absurd (true≢false gone)
freed_held false false held gone free ready = free refl

-- a place that is freed was free, or is in the word
freed_flag : (valid word flag : Bool) → (valid && not word) ≡ false → (valid ≡ false → flag ≡ false) → (flag && not word) ≡ false
freed_flag valid true flag gone free = and_right flag false refl
freed_flag true false flag gone free = absurd (true≢false gone)
freed_flag false false flag gone free = ap (λ g. g && true) (free refl)

-- the places of a word are freed, and lose the flag
off_freed_all : (flag : Entry → Bool) (b c : Places) (word : ℕ) → ((p : ℕ) → flag (slot c.slots p) ≡ (flag (slot b.slots p) && not (has word p))) → ((p : ℕ) → has c.valid p ≡ (has b.valid p && not (has word p)))
    → IsOffWhereFree flag b.valid b.slots → IsOffWhereFree flag c.valid c.slots
off_freed_all flag b c word flags valid h p free = flags p ∙ freed_flag (has b.valid p) (has word p) (flag (slot b.slots p)) (sym (valid p) ∙ free) (h p)

-- what is left at a place that is not freed
pub slot_unflagged : (s t : Slots) (word guesses loads : ℕ) → t.entries ≡ record s.entries { guesses = guesses; loads = loads } → t.held ≡ s.held → t.waiters ≡ s.waiters
    → ((p : ℕ) → has guesses p ≡ (has s.entries.guesses p && not (has word p))) → ((p : ℕ) → has loads p ≡ (has s.entries.loads p && not (has word p)))
    → (p : ℕ) → slot t p ≡ unflagged (has word p) (slot s p)
slot_unflagged s t word guesses loads entries held waiters guess_bits load_bits p = rw (entries, held, waiters, guess_bits p, load_bits p) refl

pub unflagged_elsewhere : (s t : Slots) (valid less word : ℕ) → ((p : ℕ) → slot t p ≡ unflagged (has word p) (slot s p))
    → ((p : ℕ) → has less p ≡ (has valid p && not (has word p))) → (p : ℕ) → has less p ≡ true → slot t p ≡ slot s p
unflagged_elsewhere s t valid less word slots fewer p taken =
    let e : Entry = slot s p in
    let out : has word p ≡ false = not-true (has word p) (and_parts (has valid p) (not (has word p)) (sym (fewer p) ∙ taken)).1 in
    slots p ∙ ap (λ w. unflagged w e) out ∙ ap₂ (λ g l. record e { guessed = g; load = l }) (and-true e.guessed) (and-true e.load)

-- ready places are freed: no register's word has their bits, and they are not held
pub freed_in_step : (b c : Places) (word : ℕ) → ((p : ℕ) → slot c.slots p ≡ unflagged (has word p) (slot b.slots p)) → c.slots.waiters ≡ b.slots.waiters
    → ((p : ℕ) → has word p ≡ true → is_ready (slot b.slots p) ≡ true) → ((p : ℕ) → has c.valid p ≡ (has b.valid p && not (has word p)))
    → ((p : ℕ) → has c.supplied p ≡ (has b.supplied p && not (has word p)))
    → ((i p : ℕ) → i < 8 → has (slice_index c.contexts i) p ≡ (has (slice_index b.contexts i) p && not (has word p))) → ((p : ℕ) → has c.two p ≡ (has b.two p && not (has word p))) → InStep b → InStep c
freed_in_step b c word slots waiters ready valid supplied contexts two h =
    let less : (test : Entry → Bool) → ((gone : Bool) (e : Entry) → test (unflagged gone e) ≡ test e) → (old new : ℕ) → ((p : ℕ) → has new p ≡ (has old p && not (has word p))) → IsMask test b.valid b.slots old → IsMask test c.valid c.slots new =
    λ test unseen old new bits m. mask_kept test c.valid b.slots c.slots new (λ p. ap test (slots p) ∙ unseen (has word p) (slot b.slots p)) (mask_without test b.valid c.valid b.slots word old new valid bits m) in
    record {
      let_go = λ p free.
          ap (λ e. e.held) (slots p)
          ∙ freed_held (has b.valid p) (has word p) (has b.slots.held p) (sym (valid p) ∙ free) (h.let_go p)
          (λ t. (and_parts (is_supplied (slot b.slots p)) (not (has b.slots.held p)) (ready p t)).1);
      unguessed = off_freed_all (λ e. e.guessed) b c word (λ p. ap (λ e. e.guessed) (slots p)) valid h.unguessed;
      no_load = off_freed_all (λ e. e.load) b c word (λ p. ap (λ e. e.load) (slots p)) valid h.no_load;
      two = less waits_for_two (λ gone e. refl) b.two c.two two h.two;
      supplied = less is_supplied (λ gone e. refl) b.supplied c.supplied supplied h.supplied;
      contexts = λ k below. less (is_of k) (λ gone e. refl) (slice_index b.contexts k) (slice_index c.contexts k) (λ p. contexts k p below) (h.contexts k below);
      waiters = λ r below p.
          ap (λ ws. has (slice_index ws r) p) waiters
          ∙ h.waiters r below p
          ∙ and_unset (has b.valid p) (waits_for r (slot b.slots p)) (has word p) (λ t. none_waits r (slot b.slots p).waits (and_parts (is_supplied (slot b.slots p)) (not (has b.slots.held p)) (ready p t)).0)
          ∙ ap₂ (λ x e. x && waits_for r e) (sym (valid p)) (sym (slots p));
    }

-- what is true of each candidate's place is true of each place among them
pub at_candidates : (P : ℕ → Type 0) (best : List Candidate) (p : ℕ) → All (λ c. P c.place) best → is_at best p ≡ true → P p
at_candidates P [] p h t = absurd (true≢false (sym t))
at_candidates P (c ∷ cs) p h t = elim (or_cases (eqb c.place p) (is_at cs p) t) [
  | inl here ↦ subst P (eqb-true c.place p here) (All-head (λ d. P d.place) c cs h)
  | inr later ↦ at_candidates P cs p (All-tail (λ d. P d.place) c cs h) later
]

bit_of_either : (a b : ℕ) → a < 2 → b < 2 → eqb (max a b) 1 ≡ (eqb a 1 || eqb b 1)
bit_of_either zero zero p q = refl
bit_of_either zero (suc zero) p q = refl
bit_of_either (suc zero) zero p q = refl
bit_of_either (suc zero) (suc zero) p q = refl
bit_of_either zero (suc (suc b)) p q = absurd (omega (arith, q))
bit_of_either (suc zero) (suc (suc b)) p q = absurd (omega (arith, q))
bit_of_either (suc (suc a)) b p q = absurd (omega (arith, p))

-- the bits that one of two words has
pub has_either : (v w p : ℕ) → has (bit_or v w) p ≡ (has v p || has w p)
unfolding has
has_either v w p = ap (λ b. eqb b 1) (bit_at_or v w p) ∙ bit_of_either (bit_at v p) (bit_at w p) (bit_at-lt v p) (bit_at-lt w p)

pub none_named : (slots : Slots) (best : List Candidate) (names : List EntryId) → names ≡ [] → AreNamed slots best 0 0 names
none_named slots best names none = record {
  places = λ p. has_zero p;
  names_are = none;
  count = ap length none;
}

cond_or : (b x : Bool) → cond b true x ≡ (x || b)
cond_or true true = refl
cond_or true false = refl
cond_or false true = refl
cond_or false false = refl

-- one more candidate is named
pub one_named : (slots : Slots) (best : List Candidate) (i word next : ℕ) (d : Candidate) (names more : List EntryId) (name : EntryId) → i < length best
    → name ≡ name_of (slot slots (get_or best i d).place) → more ≡ names ++ name ∷ [] → ((p : ℕ) → has next p ≡ cond (eqb p (get_or best i d).place) true (has word p))
    → AreNamed slots best i word names → AreNamed slots best (i + 1) next more
one_named slots best i word next d names more name lt named pushed marks h = record {
  places = λ p. marks p ∙ ap (λ b. cond b true (has word p)) (eqb_swap p (get_or best i d).place) ∙ cond_or (eqb (get_or best i d).place p) (has word p) ∙ ap (λ b. b || eqb (get_or best i d).place p) (h.places p) ∙ sym (list_any_more (λ c. eqb c.place p) best i d lt);
  names_are = pushed ∙ ap₂ (λ ns n. ns ++ n ∷ []) h.names_are named ∙ sym (map_more (λ c. name_of (slot slots c.place)) best i d lt);
  count = ap length pushed ∙ length_push names name ∙ ap (λ k. k + 1) h.count;
}

-- all candidates are named
pub all_named : (slots : Slots) (best : List Candidate) (i word : ℕ) (names : List EntryId) → length best ≤ i → AreNamed slots best i word names → ((p : ℕ) → has word p ≡ is_at best p) × (names ≡ names_of slots best)
all_named slots best i word names whole h =
    let all : take i best ≡ best = take_all i best whole in
    (λ p. h.places p ∙ ap (λ cs. is_at cs p) all, h.names_are ∙ ap (names_of slots) all)

one_awaited : (a : Bool) (r i : ℕ) → i ≡ r → list_any (λ w. eqb w i) (cond a (r ∷ []) []) ≡ a
one_awaited true r i same = rw (eq-eqb r i (sym same)) refl
one_awaited false r i same = refl

none_awaited : (a : Bool) (r i : ℕ) → eqb r i ≡ false → list_any (λ w. eqb w i) (cond a (r ∷ []) []) ≡ false
none_awaited true r i other = rw other refl
none_awaited false r i other = refl

-- a place enters the word of a source, if that is waited for
pub source_added : (words : List ℕ) (s : Source) (place index word : ℕ) → index ≡ s.register → index < length words
    → ((p : ℕ) → has word p ≡ cond (eqb p place && s.awaited) true (has (slice_index words index) p))
    → (i p : ℕ) → has (slice_index (set words index word) i) p ≡ cond (eqb p place && list_any (λ r. eqb r i) (awaited_of s)) true (has (slice_index words i) p)
source_added words s place index word own below marks i p = elim (eqb_tells i index) [
  | inl b ↦
      rw b.1
      (ap (λ w. has w p) (get_or-set_same words index word 0 below) ∙ marks p
      ∙ ap (λ a. cond (eqb p place && a) true (has (slice_index words index) p)) (sym (one_awaited s.awaited s.register index own)))
  | inr b ↦
      ap (λ w. has w p) (get_or-set_other words index i word 0 b.1)
      ∙ ap (λ a. cond a true (has (slice_index words i) p)) (sym (and_right (eqb p place) (list_any (λ r. eqb r i) (awaited_of s)) (none_awaited s.awaited s.register i (ap (λ r. eqb r i) (sym own) ∙ eqb_swap index i ∙ b.0))))
]

-- an entry that enters and waits for nothing
pub supplied_at : (here a b : Bool) (x y : ℕ) → ((here && true) && not ((here && a) || (here && b))) ≡ (here && eqb (length (cond a (x ∷ []) [] ++ cond b (y ∷ []) [])) 0)
supplied_at false a b x y = refl
supplied_at true true true x y = refl
supplied_at true true false x y = refl
supplied_at true false true x y = refl
supplied_at true false false x y = refl

-- an entry that enters and waits for two registers
pub two_at : (here a b : Bool) (x y : ℕ) → eqb x y ≡ false → ((here && a) && (here && b)) ≡ (here && are_two (cond a (x ∷ []) [] ++ cond b (y ∷ []) []))
two_at false a b x y apart = refl
two_at true true true x y apart = rw apart refl
two_at true true false x y apart = refl
two_at true false true x y apart = refl
two_at true false false x y apart = refl

one_for_two : (a b : Bool) (x y : ℕ) → x ≡ y → are_two (cond a (x ∷ []) [] ++ cond b (y ∷ []) []) ≡ false
one_for_two true true x y same = rw (eq-eqb x y same) refl
one_for_two true false x y same = refl
one_for_two false true x y same = refl
one_for_two false false x y same = refl

-- one that reads one register twice doesn't
pub one_at : (here a b : Bool) (x y : ℕ) → x ≡ y → false ≡ (here && are_two (cond a (x ∷ []) [] ++ cond b (y ∷ []) []))
one_at here a b x y same = sym (and_right here (are_two (cond a (x ∷ []) [] ++ cond b (y ∷ []) [])) (one_for_two a b x y same))

-- no word has a place that is free
pub free_of_words : (b : Places) (place : ℕ) → length b.slots.waiters ≡ 480 → has b.valid place ≡ false → InStep b → (r : ℕ) → has (slice_index b.slots.waiters r) place ≡ false
free_of_words b place size free h r = elim (cases_lt r 480) [
  | inl below ↦ h.waiters r below place ∙ rw free refl
  | inr above ↦ rw (get_or_past b.slots.waiters r 0 (omega (arith, size, above))) (has_zero place)
]

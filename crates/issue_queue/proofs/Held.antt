-- Places that are held, and those that are freed because they are.
use Rattle.std.proofs.Common.{◌≡◌, ℕ, inl, inr, Bool, true, false, cond, not, ◌&&◌, ◌||◌, refl, ap, ap₂, sym, ◌∙◌}
use Rattle.std.proofs.lemmas.Bool.{cases_Bool, true≢false, or_right, and_parts, and_from, not-true}
use Rattle.std.proofs.Math.Bool.{and-true}
use Rattle.word_mask.proofs.Laws.{has_zero}
use Rattle.word_mask.specs.Mask.{has}
use Rattle.issue_queue.specs.declared.places.Places.{Places}
use Rattle.issue_queue.specs.declared.slots.Slots.{Slots}
use Rattle.issue_queue.specs.Board.{slot, InStep}
use Rattle.issue_queue.specs.Entry.{Entry, is_ready, is_supplied}
use Rattle.issue_queue.specs.IssueQueue.{released}
use Rattle.issue_queue.proofs.Kept.{or_no}
use Rattle.issue_queue.proofs.Masks.{unseen_in_step}

held_too : (e : Entry) (b : Bool) → record e { held = e.held || b } ≡ cond b (record e { held = true }) e
held_too e true = ap (λ h. record e { held = h }) (or_right e.held true refl)
held_too e false = ap (λ h. record e { held = h }) (or_no e.held)

-- the places of a word are held
pub slot_held : (s t : Slots) (word : ℕ) → t.entries ≡ s.entries → t.waiters ≡ s.waiters → ((p : ℕ) → has t.held p ≡ (has s.held p || has word p)) → (p : ℕ) → slot t p ≡ cond (has word p) (record (slot s p) { held = true }) (slot s p)
slot_held s t word entries waiters held p = rw (entries, waiters, held p) (held_too (slot s p) (has word p))

-- none of them is free
pub held_in_step : (b c : Places) (word : ℕ) → c.valid ≡ b.valid → c.supplied ≡ b.supplied → c.contexts ≡ b.contexts → c.slots.waiters ≡ b.slots.waiters → c.two ≡ b.two
    → ((p : ℕ) → slot c.slots p ≡ cond (has word p) (record (slot b.slots p) { held = true }) (slot b.slots p)) → ((p : ℕ) → has word p ≡ true → has b.valid p ≡ true) → InStep b → InStep c
held_in_step b c word valid supplied contexts waiters two slots taken =
    unseen_in_step (λ e. record e { held = true }) (λ e. refl) (λ e. refl) (λ e. refl) (λ e. refl) (λ p. has word p) b c valid supplied contexts waiters two slots
    (λ p free. inr (elim (cases_Bool (has word p)) [
      | inl t ↦ absurd (true≢false (sym (taken p t) ∙ free))
      | inr f ↦ f
    ]))

-- ---- what is held is freed

taken_where_held : (v h : Bool) → (v ≡ false → h ≡ false) → h ≡ true → v ≡ true
taken_where_held true h free held = refl
taken_where_held false h free held = absurd (true≢false (sym held ∙ free refl))

gone_at : (v h s : Bool) → ((v && not (h && s)) && not (h && not s)) ≡ (v && not h)
gone_at true true true = refl
gone_at true true false = refl
gone_at true false s = refl
gone_at false h s = refl

still_there : (v h s : Bool) → v ≡ true → (h && not s) ≡ true → (v && not (h && s)) ≡ true
still_there true true false t w = refl
still_there true true true t w = w
still_there true false s t w = absurd (true≢false (sym w))
still_there false h s t w = absurd (true≢false (sym t))

let_go_same : (e : Entry) → e.held ≡ false → released e ≡ e
let_go_same e free = ap (λ h. record e { held = h }) (sym free)

-- of the places that are held, those whose entries wait for nothing, and the others
module _ (b r : Places) (held supplied waiting : ℕ) (step : InStep b) (marks : (p : ℕ) → has held p ≡ (slot b.slots p).held) (those : (p : ℕ) → has supplied p ≡ (has held p && has b.supplied p)) (others : (p : ℕ) → has waiting p ≡ (has held p && not (has b.supplied p)))
    (valid : r.valid ≡ b.valid) (slots : (p : ℕ) → slot r.slots p ≡ released (slot b.slots p)) where
  -- once they are let go, the ones are ready
  pub ready_let_go : (p : ℕ) → has supplied p ≡ true → is_ready (slot r.slots p) ≡ true
  ready_let_go p t =
      let word = (and_parts (has held p) (has b.supplied p) (sym (those p) ∙ t)).1 in
      let free = (and_parts (has b.valid p) (is_supplied (slot b.slots p)) (sym (step.supplied p) ∙ word)).1 in
      ap is_ready (slots p) ∙ and_from (is_supplied (slot b.slots p)) true free refl

  module _ (d : Places) (fewer : (p : ℕ) → has d.valid p ≡ (has r.valid p && not (has supplied p))) (same : (p : ℕ) → has d.valid p ≡ true → slot d.slots p ≡ slot r.slots p) where
    left : (p : ℕ) → has d.valid p ≡ (has b.valid p && not (has held p && has b.supplied p))
    left p = fewer p ∙ ap₂ (λ v s. has v p && not s) valid (those p)

    -- the others are still there
    pub waiting_taken : (p : ℕ) → has waiting p ≡ true → has d.valid p ≡ true
    waiting_taken p t =
        let both = sym (others p) ∙ t in
        let taken = taken_where_held (has b.valid p) (slot b.slots p).held (step.let_go p) (sym (marks p) ∙ (and_parts (has held p) (not (has b.supplied p)) both).0) in
        left p ∙ still_there (has b.valid p) (has held p) (has b.supplied p) taken both

    module _ (e : Places) (less : (p : ℕ) → has e.valid p ≡ (has d.valid p && not (has waiting p))) (as_before : (p : ℕ) → has e.valid p ≡ true → slot e.slots p ≡ slot d.slots p) where
      pub held_gone : (p : ℕ) → has e.valid p ≡ (has b.valid p && not (slot b.slots p).held)
      held_gone p =
          less p ∙ ap₂ (λ v w. v && not w) (left p) (others p) ∙ gone_at (has b.valid p) (has held p) (has b.supplied p)
          ∙ ap (λ h. has b.valid p && not h) (marks p)

      pub unheld_same : (p : ℕ) → has e.valid p ≡ true → slot e.slots p ≡ slot b.slots p
      unheld_same p t =
          let was = (and_parts (has d.valid p) (not (has waiting p)) (sym (less p) ∙ t)).0 in
          let unheld = not-true (slot b.slots p).held (and_parts (has b.valid p) (not (slot b.slots p).held) (sym (held_gone p) ∙ t)).1 in
          as_before p t ∙ same p was ∙ slots p ∙ let_go_same (slot b.slots p) unheld

-- a word without bits
pub none_less : (v w p : ℕ) → w ≡ 0 → has v p ≡ (has v p && not (has w p))
none_less v w p none = rw (none, has_zero p) (sym (and-true (has v p)))

use Rattle.std.proofs.Common.{◌≡◌, ◌∙◌, ◌&&◌, ℕ, Bool, not, ap}
use Rattle.word_mask.specs.Mask.{has}
use Rattle.issue_queue.specs.Board.{slot, order_of}
use Rattle.issue_queue.specs.Entry.{Entry}
use Rattle.issue_queue.proofs.Arrived.{lists_taken, kept_less, entries_less}
use Rattle.issue_queue.proofs.Kept.{entries_left, kept_left, kept_of}
use Rattle.issue_queue.proofs.queue.Queue.drop_held.Goals as goal

pub invariant_of-self : goal.invariant_of-self
invariant_of-self c =
    let q = c.self.inside in
    let d = c.free_held.new.self in
    let stays : Entry → Bool = λ e. not e.held in
    let fewer : (p : ℕ) → has d.valid p ≡ (has q.places.valid p && has d.valid p) = λ p. kept_of (has q.places.valid p) (stays (slot q.places.slots p)) (has d.valid p) (c.free_held.ensures.valid p) in
    kept_less q.capacity q.places d q.arrivals c.self.invariant fewer
    (kept_left stays q.capacity q.places d (order_of q.places q.arrivals) (lists_taken q.capacity q.places q.arrivals c.self.invariant) c.free_held.ensures.slots c.free_held.ensures.step
    (λ p t. c.free_held.ensures.valid p ∙ ap (λ x. x && stays (slot q.places.slots p)) t) fewer)

pub returns : goal.returns
returns c =
    let q = c.self.inside in
    let d = c.free_held.new.self in
    let stays : Entry → Bool = λ e. not e.held in
    let fewer : (p : ℕ) → has d.valid p ≡ (has q.places.valid p && has d.valid p) = λ p. kept_of (has q.places.valid p) (stays (slot q.places.slots p)) (has d.valid p) (c.free_held.ensures.valid p) in
    rw (← c.self.view_is) (ap (λ es. record { capacity = q.capacity; entries = es })
    (entries_less q.places d q.arrivals fewer
    ∙ entries_left stays q.capacity q.places d (order_of q.places q.arrivals) (lists_taken q.capacity q.places q.arrivals c.self.invariant) c.free_held.ensures.slots
    (λ p t. c.free_held.ensures.valid p ∙ ap (λ x. x && stays (slot q.places.slots p)) t)))

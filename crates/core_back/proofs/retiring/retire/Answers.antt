use Rattle.std.proofs.Common.{◌≡◌, ◌≢◌, ℕ, ◌+◌, ◌<◌, ◌≤◌, Bool, false, not, List, ◌++◌, ap, sym, subst, ◌∙◌, refl, length, arith}
use Rattle.core_view.specs.declared.note.EntryId.{EntryId}
use Rattle.core_back.specs.Machine.{context_at}
use mir.Val.{bool_byte}
use Rattle.std.specs.Int.{bit_at}
use Rattle.fetch_policy.specs.Lawful.{turn as turn_of}
use Rattle.origin_set.specs.Start.{start}
use Rattle.core_back.proofs.RetireTurns.{turned_none, retire_lawful}
use Rattle.core_back.proofs.RetireSteps.{arrives, goes_to, turn_bound, turn_smaller}
use Rattle.core_back.proofs.LeftTurns.{AreLeft, left_within, left_over, left_small, left_done, left_from, left_between, left_next}
use Rattle.core_back.proofs.AlikeMachines.{alike_none, alike_chain}
use Rattle.lawful_cycle.specs.Steps.{GoesBy, IsLearnedAt, OfNamed}
use Rattle.core_back.proofs.LearnedRuns.{part_same, learned_none, learned_on}
use Rattle.core_back.proofs.retiring.retire.Goals as goal

pub loop-waiting-init : goal.loop-waiting-init
loop-waiting-init g c =
    let m = c.args.machine.now in
    let most = c.retire_width-left.ensures.bound in
    let at : (t d : ℕ) → turn_of m.view.cycle d ≡ t → turn_of c.cycle-first.result d ≡ t = λ t d is. ap (λ k. turn_of k d) c.cycle-first.ensures.value ∙ is in
    let waits : AreLeft m c.done_in_turn-waiting.result c.next-turn.result = record {
      few = c.next-turn.ensures.within;
      here = c.next-turn.ensures.set;
      lowest = λ i below. c.next-turn.ensures.clear i (omega arith) below;
      eight = λ i high low. c.done_in_turn-waiting.ensures.eight i high;
      none = λ t d from low ld is. c.done_in_turn-waiting.ensures.none t d low ld (at t d is);
      some = λ t d low ld is. c.done_in_turn-waiting.ensures.some t d low ld (at t d is);
    } in
    record {
      alike = alike_none m;
      idle = c.requires.idle;
      room = omega (arith, most, ap length c.requires.fresh);
      waiting = waits;
      fits = omega arith;
      turns = arrives m.view.profile.retire_width m c.cycle-first.ensures.live m c.retire_width-left.result (g.L.Listing.items c.args.retired.now) 0 c.next-turn.result (omega arith) (omega arith)
          (λ t d from below low ld is. c.done_in_turn-waiting.ensures.none t d low ld (at t d is) (c.next-turn.ensures.clear t from below))
          (λ low d ld is. left_done m c.done_in_turn-waiting.result c.next-turn.result d waits (omega (arith, low)) ld is)
          (turned_none m.view.profile.retire_width c.retire_width-left.result m (g.L.Listing.items c.args.retired.now) c.cycle-first.ensures.contexts c.requires.fresh c.retire_width-left.ensures.value);
      live = c.cycle-first.ensures.live;
      first = c.cycle-first.ensures.value;
      dropped = omega (arith, ap length c.requires.fresh);
      width = omega (arith, most);
      bound = omega (arith, most);
      trained = learned_none g.G.Guess.after_learn m m (g.L.Listing.items c.args.retired.now) c.args.guess.now (λ d. part_same (context_at m d) (context_at m d) refl);
    }

pub context_in_turn-context-requires : goal.context_in_turn-context-requires
context_in_turn-context-requires g c = left_small c.args.machine.now c.loop-waiting.waiting c.loop-waiting.turn c.loop-waiting.invariant.waiting
    (left_within c.args.machine.now c.loop-waiting.waiting c.loop-waiting.turn c.loop-waiting.invariant.waiting c.loop-waiting.invariant.fits c.loop-waiting-test.true)

pub retire_oldest-after-requires-clause-idle : goal.retire_oldest-after-requires-clause-idle
retire_oldest-after-requires-clause-idle g c = c.loop-waiting.invariant.idle

pub retire_oldest-after-requires-clause-done : goal.retire_oldest-after-requires-clause-done
retire_oldest-after-requires-clause-done g c =
    let h = c.loop-waiting.invariant in
    let within = left_within c.args.machine.now c.loop-waiting.waiting c.loop-waiting.turn h.waiting h.fits c.loop-waiting-test.true in
    h.turns.ready (left_small c.args.machine.now c.loop-waiting.waiting c.loop-waiting.turn h.waiting within) c.context_in_turn-context.result c.context_in_turn-context.ensures.small
    (ap (λ k. turn_of k c.context_in_turn-context.result) (sym h.first) ∙ c.context_in_turn-context.ensures.turn)

pub retire_oldest-after-requires-clause-room : goal.retire_oldest-after-requires-clause-room
retire_oldest-after-requires-clause-room g c = c.loop-waiting.invariant.room

pub loop-waiting-preserved : goal.loop-waiting-preserved
loop-waiting-preserved g c =
    let h = c.loop-waiting.invariant in
    let m = c.args.machine.now in
    let on : Bool = c.retire_oldest-after.result.goes_on in
    let t : ℕ = c.loop-waiting.turn in
    let u : ℕ = c.next-turn-in-loop-waiting.result in
    let within : t < 64 = left_within m c.loop-waiting.waiting t h.waiting h.fits c.loop-waiting-test.true in
    let small : t < 8 = left_small m c.loop-waiting.waiting t h.waiting within in
    let goes : on ≡ false → bit_at c.after_first-waiting.result t ≡ 0 = λ off. c.after_first-waiting.ensures.clear off t (h.waiting.here within) h.waiting.lowest in
    let others : (i : ℕ) → i < 64 → i ≢ t → bit_at c.after_first-waiting.result i ≡ bit_at c.loop-waiting.waiting i = λ i low apart. c.after_first-waiting.ensures.others t (h.waiting.here within) h.waiting.lowest i apart in
    let lowest : (i : ℕ) → i < u → bit_at c.after_first-waiting.result i ≡ 0 = λ i below. c.next-turn-in-loop-waiting.ensures.clear i (omega arith) below in
    let waits : AreLeft m c.after_first-waiting.result u = left_next m c.loop-waiting.waiting c.after_first-waiting.result t u on h.waiting within c.after_first-waiting.ensures.kept goes others
    c.next-turn-in-loop-waiting.ensures.within lowest c.next-turn-in-loop-waiting.ensures.set in
    let from : t + bool_byte (not on) ≤ u = left_from m c.loop-waiting.waiting c.after_first-waiting.result t u on h.waiting within c.after_first-waiting.ensures.kept goes others
    c.next-turn-in-loop-waiting.ensures.within lowest c.next-turn-in-loop-waiting.ensures.set in
    let between : (i : ℕ) → t + bool_byte (not on) ≤ i → i < u → bit_at c.loop-waiting.waiting i ≡ 0 = left_between m c.loop-waiting.waiting c.after_first-waiting.result t u on h.waiting within c.after_first-waiting.ensures.kept goes others c.next-turn-in-loop-waiting.ensures.within lowest c.next-turn-in-loop-waiting.ensures.set in
    let at : turn_of m.view.cycle c.context_in_turn-context.result ≡ t = ap (λ k. turn_of k c.context_in_turn-context.result) (sym h.first) ∙ c.context_in_turn-context.ensures.turn in
    record {
      alike = alike_chain m c.loop-waiting.machine c.retire_oldest-after.new.machine h.alike c.retire_oldest-after.ensures.step.alike;
      idle = c.retire_oldest-after.ensures.step.idle;
      room = c.retire_oldest-after.ensures.width;
      waiting = waits;
      fits = omega arith;
      turns = goes_to m.view.profile.retire_width m h.live c.loop-waiting.machine c.retire_oldest-after.new.machine t c.context_in_turn-context.result c.loop-waiting.left c.retire_oldest-after.result.left (g.L.Listing.items c.loop-waiting.retired) (g.L.Listing.items c.retire_oldest-after.new.retired)
          (h.turns.in_turn small) c.context_in_turn-context.ensures.small at c.loop-waiting.waiting u (bool_byte (not on)) on refl small
          (h.waiting.here within) from between h.waiting.none
          (λ low d ld is. left_done m c.after_first-waiting.result u d waits (omega (arith, low)) ld is) c.retire_oldest-after.ensures.step.more
          (λ b k room old live so_far. c.retire_oldest-after.ensures.step.turn (start m.origin c.context_in_turn-context.result) m.view.stamp b k room old live so_far);
      live = h.live;
      first = h.first;
      dropped = omega (arith, h.dropped, c.retire_oldest-after.ensures.step.counted);
      width = omega (arith, h.width, c.retire_oldest-after.ensures.fewer);
      bound = turn_bound on c.loop-waiting.dropped c.retire_oldest-after.result.dropped c.loop-waiting.left c.retire_oldest-after.result.left t (bool_byte (not on)) u h.bound c.retire_oldest-after.ensures.step.bound
          c.retire_oldest-after.ensures.fewer c.retire_oldest-after.ensures.one_fewer refl from;
      trained = learned_on g.G.Guess.after_learn m c.loop-waiting.machine c.retire_oldest-after.new.machine (g.L.Listing.items c.args.retired.now) (g.L.Listing.items c.loop-waiting.retired) (g.L.Listing.items c.retire_oldest-after.new.retired)
          c.args.guess.now c.loop-waiting.guess c.retire_oldest-after.new.guess h.trained c.retire_oldest-after.ensures.trained;
    }

pub loop-waiting-smaller : goal.loop-waiting-smaller
loop-waiting-smaller g c =
    let h = c.loop-waiting.invariant in
    let m = c.args.machine.now in
    let on : Bool = c.retire_oldest-after.result.goes_on in
    let t : ℕ = c.loop-waiting.turn in
    let u : ℕ = c.next-turn-in-loop-waiting.result in
    let within : t < 64 = left_within m c.loop-waiting.waiting t h.waiting h.fits c.loop-waiting-test.true in
    let goes : on ≡ false → bit_at c.after_first-waiting.result t ≡ 0 = λ off. c.after_first-waiting.ensures.clear off t (h.waiting.here within) h.waiting.lowest in
    let others : (i : ℕ) → i < 64 → i ≢ t → bit_at c.after_first-waiting.result i ≡ bit_at c.loop-waiting.waiting i = λ i low apart. c.after_first-waiting.ensures.others t (h.waiting.here within) h.waiting.lowest i apart in
    let lowest : (i : ℕ) → i < u → bit_at c.after_first-waiting.result i ≡ 0 = λ i below. c.next-turn-in-loop-waiting.ensures.clear i (omega arith) below in
    let from : t + bool_byte (not on) ≤ u = left_from m c.loop-waiting.waiting c.after_first-waiting.result t u on h.waiting within c.after_first-waiting.ensures.kept goes others
    c.next-turn-in-loop-waiting.ensures.within lowest c.next-turn-in-loop-waiting.ensures.set in
    turn_smaller on c.loop-waiting.left c.retire_oldest-after.result.left t (bool_byte (not on)) u c.retire_oldest-after.ensures.fewer c.retire_oldest-after.ensures.one_fewer refl from within

pub returns-clause-alike : goal.returns-clause-alike
returns-clause-alike g c = c.loop-waiting.invariant.alike

pub returns-clause-idle : goal.returns-clause-idle
returns-clause-idle g c = c.loop-waiting.invariant.idle

pub returns-clause-dropped : goal.returns-clause-dropped
returns-clause-dropped g c = c.loop-waiting.invariant.dropped

pub returns-clause-bound : goal.returns-clause-bound
returns-clause-bound g c = omega (arith, c.loop-waiting.invariant.bound, c.loop-waiting.invariant.waiting.few)

pub returns-clause-lawful : goal.returns-clause-lawful
returns-clause-lawful g c =
    retire_lawful c.loop-waiting.left c.args.machine.now c.loop-waiting.machine (g.L.Listing.items c.loop-waiting.retired) c.loop-waiting.invariant.live c.cycle-live.ensures.live
    (c.loop-waiting.invariant.turns.over (let over : 64 ≤ c.loop-waiting.turn = left_over c.args.machine.now c.loop-waiting.waiting c.loop-waiting.turn c.loop-waiting.invariant.waiting c.loop-waiting-test.false in omega (arith, over)))

pub returns-clause-learns : goal.returns-clause-learns
returns-clause-learns g c =
    let h = c.loop-waiting.invariant.trained in
    subst (λ (ids : List EntryId). GoesBy (OfNamed (IsLearnedAt g.G.Guess.after_learn) c.args.machine.now.view) ids c.args.guess.now c.loop-waiting.guess) (sym (h.listed ∙ ap (λ (ids : List EntryId). ids ++ h.more) c.requires.fresh)) h.learns

use Rattle.std.proofs.Common.{◌≡◌, ℕ, ◌+◌, ◌-◌, Bool, [], length, sym, subst, ◌∙◌, arith}
use Rattle.rv64_decode.specs.declared.insn.Insn.{Insn}
use Rattle.core_view.specs.View.{entry_at}
use Rattle.lawful_cycle.specs.Fetch.{ends_block}
use Rattle.core_context.specs.Cores.{IsCore}
use Rattle.core_context.specs.NextEntry.{IsFetchedBy}
use Rattle.core_back.proofs.Blocks.{block_open}
use Rattle.core_back.proofs.BlockTurns.{HasFetched, queried_next, queried_none, fetched_none, fetched_next, ends_so, next_pc, block_by}
use Rattle.core_back.proofs.fetching.fetch_block.Given.{Over}
use Rattle.core_back.proofs.fetching.fetch_block.Goals as goal
use Rattle.std.specs.Prelude.{drop}
use Rattle.lawful_cycle.specs.Steps.{GoesBy, IsFollowedAt}
use Rattle.lawful_cycle.proofs.Laws.{block_keeps}
use Rattle.core_back.proofs.fetching.fetch_block.Goals.{After-fetch_listed-onward}

pub loop-number-init : goal.loop-number-init
loop-number-init g c = record {
  within = omega arith;
  fetched = fetched_none (g.G.Guess.may_answer c.args.guess.now c.args.context) c.args.cycle c.args.stamp c.args.context c.args.track.now (g.L.Listing.items c.args.fetched.now);
  goes = λ some. absurd (omega (arith, some));
  pc = c.fetch_pc-pc.ensures;
  long = omega arith;
  queried = queried_none g.G.Guess.answer g.G.Guess.after_guess c.args.context c.args.track.now.context.flight c.args.guess.now;
}

pub fetch_listed-onward-requires-clause-before : goal.fetch_listed-onward-requires-clause-before
fetch_listed-onward-requires-clause-before g c =
    let b = c.requires.before in
    record {
      start = b.start;
      reorder = b.reorder;
      flow = b.flow;
      core =
          subst (λ stamp. IsCore b.start stamp b.reorder b.flow [] c.args.context c.loop-number.track) (sym c.stamp_past-next.ensures)
          (c.loop-number.invariant.fetched.kept b.start b.reorder b.flow b.core);
    }

pub fetch_listed-onward-requires-clause-eligible : goal.fetch_listed-onward-requires-clause-eligible
fetch_listed-onward-requires-clause-eligible g c =
    let i = c.loop-number.invariant in
    block_open (g.G.Guess.may_answer c.args.guess.now c.args.context) c.args.cycle c.args.stamp c.loop-number.number c.args.track.now.context c.loop-number.track.context i.fetched.block
    c.requires.eligible i.goes (omega (arith, c.requires.front, c.loop-number-test.true))

-- ---- one more is fetched

abbrev may : (g : Over) (c : After-fetch_listed-onward g) → ℕ → Insn → ℕ → Bool
may g c = g.G.Guess.may_answer c.args.guess.now c.args.context

one : (g : Over) (c : After-fetch_listed-onward g) → IsFetchedBy (may g c) c.stamp_past-next.result c.args.cycle c.loop-number.track c.fetch_listed-onward.new.track c.fetch_listed-onward.result.pc c.fetch_listed-onward.result.ends
one g c =
    subst (λ says. IsFetchedBy (says c.args.context) c.stamp_past-next.result c.args.cycle c.loop-number.track c.fetch_listed-onward.new.track c.fetch_listed-onward.result.pc c.fetch_listed-onward.result.ends)
    (block_keeps g.G.Guess.may_answer g.G.Guess.answer g.G.Guess.after_guess g.met.G.Guess.guess_keeps c.args.context (drop (length c.args.track.now.context.flight) c.loop-number.track.context.flight) c.args.guess.now c.loop-number.guess c.loop-number.invariant.queried)
    c.fetch_listed-onward.ensures.fetched

fetched : (g : Over) (c : After-fetch_listed-onward g)
    → HasFetched (may g c) c.args.cycle c.args.stamp c.args.context (c.loop-number.number + 1) c.args.track.now c.fetch_listed-onward.new.track (g.L.Listing.items c.args.fetched.now) (g.L.Listing.items c.fetch_listed-onward.new.fetched)
fetched g c =
    let i = c.loop-number.invariant in
    fetched_next (may g c) c.args.cycle c.args.stamp c.args.context c.loop-number.number c.args.track.now c.loop-number.track c.fetch_listed-onward.new.track (g.L.Listing.items c.args.fetched.now) (g.L.Listing.items c.loop-number.fetched) (g.L.Listing.items c.fetch_listed-onward.new.fetched)
    i.fetched i.goes c.stamp_past-next.result c.fetch_listed-onward.result.pc c.fetch_listed-onward.result.ends c.stamp_past-next.ensures (one g c) c.fetch_listed-onward.ensures.kept c.fetch_listed-onward.ensures.listed

queried : (g : Over) (c : After-fetch_listed-onward g) → GoesBy (IsFollowedAt g.G.Guess.answer g.G.Guess.after_guess c.args.context) (drop (length c.args.track.now.context.flight) c.fetch_listed-onward.new.track.context.flight) c.args.guess.now c.fetch_listed-onward.new.guess
queried g c =
    let i = c.loop-number.invariant in
    let count = i.fetched.block.count in
    queried_next g.G.Guess.answer g.G.Guess.after_guess c.args.context (may g c) c.stamp_past-next.result c.args.cycle (length c.args.track.now.context.flight) c.loop-number.pc c.fetch_listed-onward.result.pc c.fetch_listed-onward.result.ends c.loop-number.track c.fetch_listed-onward.new.track
    c.args.guess.now c.loop-number.guess c.fetch_listed-onward.new.guess (one g c) i.pc (omega (arith, count)) c.fetch_listed-onward.ensures.value c.fetch_listed-onward.ensures.state i.queried

ends : (g : Over) (c : After-fetch_listed-onward g) → ends_block (entry_at c.fetch_listed-onward.new.track.context (length c.fetch_listed-onward.new.track.context.flight - 1)) ≡ c.fetch_listed-onward.result.ends
ends g c =
    let i = c.loop-number.invariant in
    ends_so (may g c) c.args.cycle c.args.stamp c.args.context c.loop-number.number c.args.track.now c.loop-number.track c.fetch_listed-onward.new.track (g.L.Listing.items c.args.fetched.now) (g.L.Listing.items c.loop-number.fetched) (g.L.Listing.items c.fetch_listed-onward.new.fetched)
    i.fetched i.goes c.stamp_past-next.result c.fetch_listed-onward.result.pc c.fetch_listed-onward.result.ends c.stamp_past-next.ensures (one g c)

pub returns-then-onward-clause-block : goal.returns-then-onward-clause-block
returns-then-onward-clause-block g c =
    let at = (goal.at.returns-then-onward-clause-block g c).After-fetch_listed-onward in
    block_by (may g at) c.args.cycle c.args.stamp c.args.context (c.loop-number.number + 1) c.args.track.now c.fetch_listed-onward.new.track (g.L.Listing.items c.args.fetched.now) (g.L.Listing.items c.fetch_listed-onward.new.fetched) (fetched g at)

pub returns-then-onward-clause-fewer : goal.returns-then-onward-clause-fewer
returns-then-onward-clause-fewer g c =
    let at = (goal.at.returns-then-onward-clause-fewer g c).After-fetch_listed-onward in
    λ less. record { some = omega arith; ends = ends g at ∙ c.if-onward.true }

pub returns-then-onward-clause-listed : goal.returns-then-onward-clause-listed
returns-then-onward-clause-listed g c =
    let at = (goal.at.returns-then-onward-clause-listed g c).After-fetch_listed-onward in
    (fetched g at).listed

pub loop-number-preserved : goal.loop-number-preserved
loop-number-preserved g c =
    let at = (goal.at.loop-number-preserved g c).After-fetch_listed-onward in
    let i = c.loop-number.invariant in
    record {
      within = omega (arith, c.loop-number-test.true);
      fetched = fetched g at;
      goes = λ some. ends g at ∙ c.if-onward.false;
      pc = next_pc (may g at) c.args.cycle c.args.stamp c.args.context c.loop-number.number c.args.track.now c.loop-number.track c.fetch_listed-onward.new.track (g.L.Listing.items c.args.fetched.now) (g.L.Listing.items c.loop-number.fetched) (g.L.Listing.items c.fetch_listed-onward.new.fetched)
          i.fetched i.goes c.stamp_past-next.result c.fetch_listed-onward.result.pc c.fetch_listed-onward.result.ends c.stamp_past-next.ensures (one g at);
      long = omega (arith, i.long, c.fetch_listed-onward.ensures.long);
      queried = queried g at;
    }

pub returns-clause-block : goal.returns-clause-block
returns-clause-block g c =
    block_by (g.G.Guess.may_answer c.args.guess.now c.args.context) c.args.cycle c.args.stamp c.args.context c.loop-number.number c.args.track.now c.loop-number.track (g.L.Listing.items c.args.fetched.now) (g.L.Listing.items c.loop-number.fetched) c.loop-number.invariant.fetched

pub returns-then-onward-clause-queried : goal.returns-then-onward-clause-queried
returns-then-onward-clause-queried g c = queried g (goal.at.returns-then-onward-clause-queried g c).After-fetch_listed-onward

pub returns-clause-queried : goal.returns-clause-queried
returns-clause-queried g c = c.loop-number.invariant.queried

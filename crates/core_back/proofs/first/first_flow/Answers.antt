use Rattle.std.proofs.Common.{rules, arith, sym, subst, ap, ◌≡◌, ◌∙◌, ℕ, length, slice_index}
use Rattle.data_flow.specs.Flow.{Flow, Lane}
use Rattle.core_back.specs.First.{AreFirstLanes}
use Rattle.core_back.proofs.FirstMachine.{first_lanes_none, first_lanes_more, next_lane}
use Rattle.core_back.proofs.first.first_flow.Goals as goal

pub loop-number-init : goal.loop-number-init
loop-number-init g c = subst (λ (f : Flow). AreFirstLanes c.args.profile.now c.args.marks.now 0 f) (sym c.in_ok-flow.ensures) (first_lanes_none c.args.profile.now c.args.marks.now c.from.result c.from-2.result c.from-3.result c.from.ensures c.from-2.ensures c.from-3.ensures)

pub set_registers-requires : goal.set_registers-requires
set_registers-requires g c =
    let number : c.unwrap-context.result ≡ c.loop-number.number = search rules in
    let count = c.loop-number.invariant.count in
    let next = next_lane c.args.profile.now c.args.marks.now c.loop-number.number c.unwrap-context.result c.loop-number.flow c.loop-number-test.true c.loop-number.invariant number in
    record {
      context = omega (arith, number, count, c.loop-number-test.true);
      count = ap (λ (l : Lane). length l.registers) next;
      zero = ap (λ (l : Lane). slice_index l.registers 0) next ∙ sym c.regs.ensures.zero;
    }

pub loop-number-preserved : goal.loop-number-preserved
loop-number-preserved g c =
    let number : c.unwrap-context.result ≡ c.loop-number.number = search rules in
    first_lanes_more c.args.profile.now c.args.marks.now c.loop-number.number c.unwrap-context.result c.loop-number.flow c.set_registers.new.flow c.place-mark.result.now c.state-hart.result.now c.regs.result.now
    c.loop-number-test.true c.loop-number.invariant number c.place-mark.ensures c.state-hart.ensures c.regs.ensures.same c.set_registers.ensures

pub returns : goal.returns
returns g c =
    let all : c.loop-number.number ≡ 8 = omega arith in
    subst (λ (n : ℕ). AreFirstLanes c.args.profile.now c.args.marks.now n c.loop-number.flow) all c.loop-number.invariant

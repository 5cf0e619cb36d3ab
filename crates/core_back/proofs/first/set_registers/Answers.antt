use Rattle.std.proofs.Common.{arith, refl, ◌≡◌, ℕ, subst}
use Rattle.core_back.specs.First.{AreSet}
use Rattle.core_back.proofs.FirstMachine.{set_none, set_more, set_all}
use Rattle.core_back.proofs.first.set_registers.Goals as goal

pub loop-number-init : goal.loop-number-init
loop-number-init g c = set_none c.args.flow.now c.args.context c.args.registers.now c.requires.count c.requires.zero

pub loop-number-preserved : goal.loop-number-preserved
loop-number-preserved g c = set_more c.args.flow.now c.args.context c.args.registers.now c.loop-number.number c.new-register.result _ c.loop-number.flow c.set_register.new.self c.requires.context c.loop-number-test.true c.loop-number.invariant refl c.new-register.ensures c.set_register.ensures

pub returns : goal.returns
returns g c =
    let all : c.loop-number.number ≡ 32 = omega arith in
    set_all c.args.flow.now c.args.context c.args.registers.now c.loop-number.flow c.told-registers
    (subst (λ (n : ℕ). AreSet c.args.flow.now c.args.context c.args.registers.now n c.loop-number.flow) all c.loop-number.invariant)

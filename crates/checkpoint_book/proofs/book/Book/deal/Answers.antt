use Rattle.std.proofs.Common.{arith, sym, subst, ◌-◌, ℕ}
use Rattle.checkpoint_book.specs.Passes.{AreNewPasses, StandForNew}
use Rattle.checkpoint_book.proofs.Standing.{one_more, all_own}
use Rattle.checkpoint_book.proofs.book.Book.deal.Goals as goal

pub split_off-pass-requires : goal.split_off-pass-requires
split_off-pass-requires c = let t = c.loop-last-test.true in
    subst (λ (n : ℕ). StandForNew c.args.self.now n c.loop-last.rest) (omega arith) c.loop-last.invariant.rest

pub loop-last-preserved : goal.loop-last-preserved
loop-last-preserved c = let i = c.loop-last.invariant in let t = c.loop-last-test.true in let push = c.push_reserved.ensures in record {
  rest = c.split_off-pass.ensures.rest;
  room = (let cap = push.capacity in let r = i.room in omega arith);
  dealt = subst (AreNewPasses c.args.self.now c.args.self.now.passes (c.loop-last.last - 1)) (sym push.items)
      (one_more c.args.self.now c.args.self.now.passes (c.loop-last.last - 1) c.loop-last.dealt.items c.split_off-pass.result
      (subst (λ (n : ℕ). AreNewPasses c.args.self.now c.args.self.now.passes n c.loop-last.dealt.items) (omega arith) i.dealt) c.split_off-pass.ensures.pass);
  count = (let len = push.len in let n = i.count in omega arith);
}

pub returns-clause-passes : goal.returns-clause-passes
returns-clause-passes c = let i = c.loop-last.invariant in let t = c.loop-last-test.false in subst (λ (n : ℕ). AreNewPasses c.args.self.now c.args.self.now.passes n c.loop-last.dealt.items) (omega arith) i.dealt

pub returns-clause-own : goal.returns-clause-own
returns-clause-own c = let i = c.loop-last.invariant in let t = c.loop-last-test.false in all_own c.args.self.now c.args.self.now.passes 0 c.loop-last.dealt.items (subst (λ (n : ℕ). AreNewPasses c.args.self.now c.args.self.now.passes n c.loop-last.dealt.items) (omega arith) i.dealt)

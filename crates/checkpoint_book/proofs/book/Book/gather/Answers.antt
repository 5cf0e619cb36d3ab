use Rattle.std.proofs.Common.{sym, ◌∙◌}
use Rattle.std.proofs.lemmas.List.Elements.{All-head, All-same, All-rest}
use Rattle.checkpoint_book.specs.Passes.{IsPassOf}
use Rattle.checkpoint_book.proofs.Standing.{none_left, goes_on, all_done}
use Rattle.checkpoint_book.proofs.book.Book.gather.Goals as goal

pub absorb-requires-clause-pass : goal.absorb-requires-clause-pass
absorb-requires-clause-pass c = All-head (IsPassOf c.args.self.now) _ _ (All-same (IsPassOf c.args.self.now) _ _ (sym c.in-Some.ensures.steps.0) c.loop-pass.invariant.left)

pub absorb-requires-clause-all : goal.absorb-requires-clause-all
absorb-requires-clause-all c = let d = c.loop-pass.invariant.done in (d.0, d.1)

pub loop-pass-preserved : goal.loop-pass-preserved
loop-pass-preserved c = let i = c.loop-pass.invariant in let steps = c.in-Some.ensures.steps.0 in record {
  left = All-rest (IsPassOf c.args.self.now) _ _ _ steps i.left;
  done = goes_on c.args.self.now _ _ _ _ _ _ steps i.done c.absorb.ensures;
}

pub returns : goal.returns
returns c = let i = c.loop-pass.invariant in
    all_done c.args.self.now _ _ _ (none_left c.loop-pass.pass-iterator.rest.items (sym c.loop-pass.pass-iterator.rest.ok.0 ∙ c.in-None.ensures.steps.0)) i.done

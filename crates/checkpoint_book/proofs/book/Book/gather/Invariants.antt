use Rattle.std.proofs.Common.{◌≡◌, ◌++◌, List, All}
use Rattle.checkpoint_book.specs.declared.book.Pass.{Pass}
use Rattle.checkpoint_book.specs.Passes.{IsPassOf}
use Rattle.checkpoint_book.specs.Closing.{StandForPasses}
use Rattle.checkpoint_book.proofs.book.Book.gather.Given as goal

-- the seats stand for the passes so far
abbrev pub invariant-loop-pass : goal.invariant-loop-pass
invariant-loop-pass l = record {
  left : All (IsPassOf l.self) l.pass-iterator.rest.items;
  done : (ps : List Pass) × StandForPasses l.self ps l.all × (ps ++ l.pass-iterator.rest.items ≡ l.fn.passes.items);
}

use Rattle.checkpoint_book.specs.Passes.{IsPassOf}
use Rattle.book_tests.proofs.books.merge_each.Given as goal

-- the pass stays one of the book's
abbrev pub invariant-loop-context : goal.invariant-loop-context
invariant-loop-context g l = IsPassOf l.book l.pass

use Rattle.std.proofs.Common.{◌∙◌, ap}
use Rattle.checkpoint.specs.MarkValue.{MarkValue}
use Rattle.checkpoint_book.proofs.Aligned.{RefusedBy, refuses_foreign}
use Rattle.checkpoint_book.proofs.book.Book.merge.Goals as goal
use Rattle.checkpoint_book.proofs.book.Book.merge.Goals.{After-merge_at}
use Rattle.checkpoint_book.proofs.book.Book.merge.Given.{Over}

refused : (g : Over) (c : After-merge_at g) → RefusedBy c.args.self.now c.args.mark c.merge_at.result
refused g c = refuses_foreign c.args.self.now c.args.mark c.context-context.result c.merge_at.result (c.context-context.ensures ∙ ap (λ (m : MarkValue). m.context) c.mark.ensures) c.merge_at.ensures.inside c.merge_at.ensures.foreign

pub returns-clause-foreign : goal.returns-clause-foreign
returns-clause-foreign g c = (refused g c).exactly

pub returns-clause-origin : goal.returns-clause-origin
returns-clause-origin g c = (refused g c).else

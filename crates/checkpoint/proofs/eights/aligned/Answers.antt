use Rattle.checkpoint.proofs.AlignedLemmas.{parts_are_marks}
use Rattle.checkpoint.proofs.eights.aligned.Goals as goal

pub returns : goal.returns
returns g c =
    let parts = parts_are_marks c.args.marks.now.c0.origin c.args.marks.now in
    (λ h. parts.0 (c.are_marks_of_first.ensures.0 h), λ a. c.are_marks_of_first.ensures.1 (parts.1 a))

use Rattle.std.proofs.Common.{rules}
use Rattle.checkpoint_file.proofs.VersionLemmas.{other_found, other_only}
use Rattle.checkpoint_file.proofs.reading.version.begins_other_number.Goals as goal

pub returns-in-Some : goal.returns-in-Some
returns-in-Some c =
    let others = c.args.others.now in
    let end = c.after_digits-end.result.now in (
      λ yes. other_found c.args.first others end c.in-Some.field-0.now c.after_digits-end.ensures.digits c.in-Some.ensures.found (c.is_other.ensures.0 yes),
      λ k. c.is_other.ensures.1 (other_only c.args.first others end c.after_digits-end.ensures.digits c.after_digits-end.ensures.end k).1,
    )

pub returns-in-None : goal.returns-in-None
returns-in-None c = (
  λ no. search rules,
  λ k. absurd (c.in-None.ensures.only k.rest (other_only c.args.first c.args.others.now c.after_digits-end.result.now c.after_digits-end.ensures.digits c.after_digits-end.ensures.end k).0),
)

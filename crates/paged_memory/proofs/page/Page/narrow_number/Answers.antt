use Rattle.std.proofs.Common.{◌≡◌, rules, sym, ◌∙◌}
use Rattle.std.specs.Prelude.{slice_index}
use Rattle.paged_memory.proofs.Numbers.{number_at-little, number_at-one, little}
use Rattle.paged_memory.proofs.page.Page.narrow_number.Goals as goal

pub returns-in-Half : goal.returns-in-Half
returns-in-Half c =
    let read : c.from.result ≡ little (slice_index c.args.self.now.bytes) c.args.offset 2 = search rules in
    rw c.in-Half.is (read ∙ sym (number_at-little (slice_index c.args.self.now.bytes) c.args.offset 2))

pub returns-in_default : goal.returns-in_default
returns-in_default c = search (rules, number_at-one)

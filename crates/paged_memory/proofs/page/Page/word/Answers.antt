use Rattle.std.proofs.Common.{◌≡◌, rules, sym, ◌∙◌}
use Rattle.std.specs.Prelude.{slice_index}
use Rattle.paged_memory.proofs.Numbers.{number_at-little, little}
use Rattle.paged_memory.proofs.page.Page.word.Goals as goal

pub returns : goal.returns
returns c =
    let read : c.from_le_bytes.result ≡ little (slice_index c.args.self.now.bytes) c.args.offset 4 = search rules in
    read ∙ sym (number_at-little (slice_index c.args.self.now.bytes) c.args.offset 4)

use Rattle.std.proofs.Common.{◌≡◌, arith, true, false}
use Rattle.std.specs.Prelude.{nat_le}
use Rattle.std.proofs.lemmas.Grind.{common_steps}
use Rattle.checkpoint_file.proofs.LineLemmas.{page_alone, page_none}
use Rattle.checkpoint_file.proofs.WrittenLemmas.{all_at, nothing, retext}
use Rattle.paged_memory.specs.Regions.{data_start}
use Rattle.checkpoint_file.proofs.writing.contexts.put_if_data.Goals as goal

pub returns-then-address-lt-DATA_START-clause-written : goal.returns-then-address-lt-DATA_START-clause-written
returns-then-address-lt-DATA_START-clause-written g c =
    let none : nat_le data_start c.args.page.now.address ≡ false = grind (arith, common_steps) in
    all_at _ _ _ _ _ _ _ (page_none c.args.page.now none) (nothing _ _ _ c.requires)

pub returns-clause-written : goal.returns-clause-written
returns-clause-written g c =
    let there : nat_le data_start c.args.page.now.address ≡ true = grind (arith, common_steps) in
    retext (g.W.Sink.contents c.args.device.now) (g.W.Sink.contents c.put_page.new.device) (g.W.Sink.has_failed c.put_page.new.device) c.args.hasher.now c.put_page.new.hasher _ _
    c.put_page.result (page_alone c.args.page.now there) c.put_page.ensures.written

use Rattle.std.proofs.Common.{◌≡◌, ◌∷◌, ◌+◌, arith, drop, refl}
use Rattle.std.proofs.lemmas.Grind.{common_steps}
use Rattle.checkpoint_file.proofs.LineLemmas.{page_step, pages_end}
use Rattle.checkpoint_file.proofs.WrittenLemmas.{failed, front_all, front_fails, front_more, front_none}
use Rattle.checkpoint_file.proofs.writing.contexts.put_pages.Goals as goal

pub loop-page-init : goal.loop-page-init
loop-page-init g c = record { wrote = front_none _ _ _ _ c.requires; name = refl }

pub returns-in_err-put_if_data-clause-written : goal.returns-in_err-put_if_data-clause-written
returns-in_err-put_if_data-clause-written g c =
    let next : drop c.loop-page.page-index c.args.pages.now ≡ c.page-item.result ∷ drop (c.loop-page.page-index + 1) c.args.pages.now = grind (arith, common_steps) in
    failed (g.W.Sink.contents c.args.device.now) (g.W.Sink.contents c.put_if_data.new.device) (g.W.Sink.has_failed c.put_if_data.new.device) c.args.hasher.now c.put_if_data.new.hasher _
    c.from_residual.result c.from_residual.ensures.0
    (front_fails _ _ _ _ _ _ _ _ _ _ _ (page_step c.page-item.result (drop c.loop-page.page-index c.args.pages.now) _ next) c.loop-page.invariant.wrote c.in_err-put_if_data.ensures.written)

pub loop-page-preserved : goal.loop-page-preserved
loop-page-preserved g c =
    let next : drop c.loop-page.page-index c.args.pages.now ≡ c.page-item.result ∷ drop (c.loop-page.page-index + 1) c.args.pages.now = grind (arith, common_steps) in
    record {
      wrote = front_more _ _ _ _ _ _ _ _ _ _ _ _ (page_step c.page-item.result (drop c.loop-page.page-index c.args.pages.now) _ next) c.loop-page.invariant.wrote c.in_ok-put_if_data.ensures.written;
      name = cc;
    }

pub returns-clause-written : goal.returns-clause-written
returns-clause-written g c = front_all _ _ _ _ _ _ _ (pages_end c.args.pages.now c.loop-page.page-index (omega arith)) c.loop-page.invariant.wrote

use Rattle.std.proofs.Common.{ap, refl, ◌∙◌}
use Rattle.paged_memory.specs.Pages.{pages_of}
use Rattle.checkpoint_file.proofs.LineLemmas.{context_text_at}
use Rattle.checkpoint_file.proofs.WrittenLemmas.{all_at, both, failed, first_fails, second_fails, some_at}
use Rattle.checkpoint_file.proofs.writing.contexts.put_context.Goals as goal

pub returns-in_err-put_number_line-clause-written : goal.returns-in_err-put_number_line-clause-written
returns-in_err-put_number_line-clause-written g c =
    failed (g.W.Sink.contents c.args.device.now) (g.W.Sink.contents c.put_number_line.new.device) (g.W.Sink.has_failed c.put_number_line.new.device) c.args.hasher.now c.put_number_line.new.hasher _ c.from_residual.result c.from_residual.ensures.0
    (first_fails _ _ _ _ _ c.in_err-put_number_line.ensures.written)

pub returns-in_err-put_number_line-2-clause-written : goal.returns-in_err-put_number_line-2-clause-written
returns-in_err-put_number_line-2-clause-written g c =
    failed (g.W.Sink.contents c.args.device.now) (g.W.Sink.contents c.put_number_line-2.new.device) (g.W.Sink.has_failed c.put_number_line-2.new.device) c.args.hasher.now c.put_number_line-2.new.hasher _ c.from_residual-in_err-put_number_line-2.result c.from_residual-in_err-put_number_line-2.ensures.0
    (second_fails _ _ _ _ _ _ _ _ _ c.in_ok-put_number_line.ensures.written (first_fails _ _ _ _ _ c.in_err-put_number_line-2.ensures.written))

pub returns-in_err-put_word_line-clause-written : goal.returns-in_err-put_word_line-clause-written
returns-in_err-put_word_line-clause-written g c =
    failed (g.W.Sink.contents c.args.device.now) (g.W.Sink.contents c.put_word_line.new.device) (g.W.Sink.has_failed c.put_word_line.new.device) c.args.hasher.now c.put_word_line.new.hasher _ c.from_residual-in_err-put_word_line.result c.from_residual-in_err-put_word_line.ensures.0
    (some_at _ _ _ _ _ (context_text_at c.args.number c.args.count c.pc.result c.args.hart.now.registers (pages_of c.args.hart.now.memory) c.args.hart.now c.pc.ensures.same refl refl) (second_fails _ _ _ _ _ _ _ _ _ c.in_ok-put_number_line.ensures.written (second_fails _ _ _ _ _ _ _ _ _ c.in_ok-put_number_line-2.ensures.written (first_fails _ _ _ _ _ c.in_err-put_word_line.ensures.written))))

pub returns-in_err-put_registers-clause-written : goal.returns-in_err-put_registers-clause-written
returns-in_err-put_registers-clause-written g c =
    failed (g.W.Sink.contents c.args.device.now) (g.W.Sink.contents c.put_registers.new.device) (g.W.Sink.has_failed c.put_registers.new.device) c.args.hasher.now c.put_registers.new.hasher _ c.from_residual-in_err-put_registers.result c.from_residual-in_err-put_registers.ensures.0
    (some_at _ _ _ _ _ (context_text_at c.args.number c.args.count c.pc.result c.regs.result.now (pages_of c.args.hart.now.memory) c.args.hart.now c.pc.ensures.same c.regs.ensures.same refl) (second_fails _ _ _ _ _ _ _ _ _ c.in_ok-put_number_line.ensures.written (second_fails _ _ _ _ _ _ _ _ _ c.in_ok-put_number_line-2.ensures.written (second_fails _ _ _ _ _ _ _ _ _ c.in_ok-put_word_line.ensures.written (first_fails _ _ _ _ _ c.in_err-put_registers.ensures.written)))))

pub returns-in_err-put_pages-clause-written : goal.returns-in_err-put_pages-clause-written
returns-in_err-put_pages-clause-written g c =
    failed (g.W.Sink.contents c.args.device.now) (g.W.Sink.contents c.put_pages.new.device) (g.W.Sink.has_failed c.put_pages.new.device) c.args.hasher.now c.put_pages.new.hasher _ c.from_residual-in_err-put_pages.result c.from_residual-in_err-put_pages.ensures.0
    (some_at _ _ _ _ _ (context_text_at c.args.number c.args.count c.pc.result c.regs.result.now c.pages.result.now c.args.hart.now c.pc.ensures.same c.regs.ensures.same (c.pages.ensures ∙ ap pages_of c.memory.ensures)) (second_fails _ _ _ _ _ _ _ _ _ c.in_ok-put_number_line.ensures.written (second_fails _ _ _ _ _ _ _ _ _ c.in_ok-put_number_line-2.ensures.written (second_fails _ _ _ _ _ _ _ _ _ c.in_ok-put_word_line.ensures.written (second_fails _ _ _ _ _ _ _ _ _ c.in_ok-put_registers.ensures.written c.in_err-put_pages.ensures.written)))))

pub returns-clause-written : goal.returns-clause-written
returns-clause-written g c = all_at _ _ _ _ _ _ _ (context_text_at c.args.number c.args.count c.pc.result c.regs.result.now c.pages.result.now c.args.hart.now c.pc.ensures.same c.regs.ensures.same (c.pages.ensures ∙ ap pages_of c.memory.ensures)) (both _ _ _ _ _ _ _ _ _ _ c.in_ok-put_number_line.ensures.written (both _ _ _ _ _ _ _ _ _ _ c.in_ok-put_number_line-2.ensures.written (both _ _ _ _ _ _ _ _ _ _ c.in_ok-put_word_line.ensures.written (both _ _ _ _ _ _ _ _ _ _ c.in_ok-put_registers.ensures.written c.in_ok-put_pages.ensures.written))))

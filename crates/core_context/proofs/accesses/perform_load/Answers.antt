use Rattle.std.proofs.Common.{refl, sym, ap, subst, ◌∙◌, ◌≡◌}
use Rattle.std.specs.Prelude.{IfSome}
use Rattle.std.specs.Result.{result_err, IfOk}
use Rattle.paged_memory.specs.Cells.{byte_at}
use Rattle.core_view.specs.declared.span.Span.{Span}
use Rattle.core_view.specs.Spans.{number_in}
use Rattle.core_view.specs.View.{seen_at}
use Rattle.load_store_queue.specs.Answered.{number_answered}
use Rattle.core_context.proofs.Performed.{issued_with, load_goes}
use Rattle.core_context.proofs.accesses.perform_load.Goals as goal

pub returns : goal.returns
returns g c =
    let fault = sym (ap result_err c.in-Ok.is) ∙ c.read.ensures.fault in
    let number : c.in-Ok.number ≡ number_in (byte_at c.args.track.now.context.state.memory) c.span_of.result = subst (λ r. IfOk r (λ n. n ≡ number_in (byte_at c.args.track.now.context.state.memory) c.span_of.result)) c.in-Ok.is (subst (λ (s : Span). IfOk c.read.result (λ n. n ≡ number_in (byte_at c.args.track.now.context.state.memory) s)) (sym c.span_of.ensures) c.read.ensures.number) in
    let value : c.in-Ready.value ≡ number_in (seen_at c.args.track.now.context c.args.place).bytes c.span_of.result = subst (λ a. IfSome (number_answered a) (λ v. v ≡ number_in (seen_at c.args.track.now.context c.args.place).bytes c.span_of.result)) c.in-Ready.is (c.ask.ensures.seen number) in
    let outcome = c.loads_at-outcome.ensures ∙ load_goes c.args.track.now.context c.args.place c.args.pc c.args.address c.in-Ready.value c.args.kind c.requires.pc fault (value ∙ ap (λ (s : Span). number_in (seen_at c.args.track.now.context c.args.place).bytes s) c.span_of.ensures) in
    issued_with _ _ _ c.args.address c.args.cycle c.args.place c.loads_at-outcome.result _ c.args.track.now c.issue_load-2.new.self c.lag_of-lag.result c.due_after.result refl outcome c.lag_of-lag.ensures c.due_after.ensures c.issue_load-2.ensures

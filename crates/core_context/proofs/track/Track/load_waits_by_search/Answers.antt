use Rattle.std.proofs.Common.{rules, ◌≡◌, ℕ, Bool, true, false, slice_get, Some, refl, ap, sym, ◌∙◌}
use Rattle.std.specs.Prelude.{not, option_copied, is_some}
use Rattle.std.proofs.lemmas.Option.{get_or_from_slice_get}
use Rattle.rv64_decode.specs.declared.insn.Insn.TheVariants.{Load}
use Rattle.hart_step.specs.Values.{offset_from}
use Rattle.hart_step.specs.declared.effect.Effect.TheVariants.{Loads}
use Rattle.core_view.specs.declared.entry.Entry.{Entry}
use Rattle.core_view.specs.declared.operation.Operation.TheVariants.{Performs, Stops}
use Rattle.core_view.specs.Operations.{is_load}
use Rattle.core_view.specs.View.{no_entry, entry_at}
use Rattle.load_store_queue.specs.declared.answer.LoadAnswer.{LoadAnswer}
use Rattle.load_store_queue.specs.Answered.{number_answered}
use Rattle.core_context.specs.Issuable.{may_issue_at}
use Rattle.core_context.specs.Track.{Track}
use Rattle.core_context.proofs.LoadsWait.{other_goes, load_waits}
use Rattle.core_context.proofs.track.Track.load_waits_by_search.Given.{Over}
use Rattle.core_context.proofs.track.Track.load_waits_by_search.Goals.{After-operation, After-ask}
use Rattle.core_context.proofs.track.Track.load_waits_by_search.Goals as goal

-- the operation that is read
here : (g : Over) (c : After-operation g) → (entry_at c.args.self.now.context c.args.place).operation ≡ c.operation.result.now
here g c =
    let read : slice_get c.self.inside.flight.entries c.args.place ≡ Some c.in-Some.entry.now = sym c.get.ensures ∙ ap option_copied c.in-Some.is in
    ap (λ (t : Track). (entry_at t.context c.args.place).operation) (sym c.self.view_is) ∙ ap (λ (e : Entry). e.operation) (get_or_from_slice_get c.self.inside.flight.entries c.args.place c.in-Some.entry.now no_entry read) ∙ sym c.operation.ensures

-- a load waits where it isn't answered
asked : (g : Over) (c : After-ask g) (second : ℕ) (waits : Bool) → (entry_at c.args.self.now.context c.args.place).operation ≡ c.operation.result.now → is_some (number_answered c.ask.result) ≡ not waits
    → waits ≡ not (may_issue_at c.args.self.now.context c.args.place c.args.first second)
asked g c second waits is answered =
    let insn = Load c.in-Load.kind c.in-Load.rd c.in-Load.rs1 c.in-Load.immediate in
    let address : c.offset_by-address.result ≡ offset_from c.args.first c.in-Load.immediate = search rules in
    load_waits c.args.self.now.context c.args.place c.args.first second c.offset_by-address.result insn c.in-Load.kind c.span_of.result c.ask.result waits (is ∙ c.in-Performs.is ∙ ap Performs c.in-Load.is) (ap (λ n. Loads c.in-Load.kind n) (sym address)) c.span_of.ensures c.ask.ensures.waits answered

pub returns-in_default-operation : goal.returns-in_default-operation
returns-in_default-operation g c second =
    let is = here g (goal.at.returns-in_default-operation g c).After-operation in
    other_goes c.args.self.now.context c.args.place c.args.first second (Stops c.in_default-operation.field-0) (is ∙ c.in_default-operation.is) refl

pub returns-in_default-insn : goal.returns-in_default-insn
returns-in_default-insn g c second =
    let is = here g (goal.at.returns-in_default-insn g c).After-operation in
    let other : is_load (Performs c.in-Performs.insn) ≡ false = search rules in
    other_goes c.args.self.now.context c.args.place c.args.first second (Performs c.in-Performs.insn) (is ∙ c.in-Performs.is) other

pub returns-in-Wait : goal.returns-in-Wait
returns-in-Wait g c second =
    let at = goal.at.returns-in-Wait g c in
    asked g at.After-ask second true (here g at.After-operation) (ap (λ (r : LoadAnswer). is_some (number_answered r)) c.in-Wait.is)

pub returns-in_default-matches : goal.returns-in_default-matches
returns-in_default-matches g c second =
    let at = goal.at.returns-in_default-matches g c in
    asked g at.After-ask second false (here g at.After-operation) (ap (λ (r : LoadAnswer). is_some (number_answered r)) c.in_default-matches.is)

use Rattle.std.proofs.Common.{List, ◌≡◌, ℕ, true, ap, sym, subst, ◌∙◌, get_or, arith}
use Rattle.std.specs.Prelude.{IfSome, nat_lt}
use Rattle.std.proofs.lemmas.Bool.{ltb-true}
use Rattle.paged_memory.specs.Cells.{byte_at}
use Rattle.core_view.specs.declared.entry.Entry.{Entry}
use Rattle.core_view.specs.declared.entry.Stage.TheVariants.{Queued}
use Rattle.core_view.specs.Queues.{is_renamed, stores_of, is_clear_in, value_seen_in}
use Rattle.core_view.specs.View.{no_entry}
use Rattle.load_store_queue.specs.Answered.{number_answered}
use Rattle.core_context.specs.Track.{Track}
use Rattle.core_context.proofs.StoreQueueReads.{asked_clear, asked_value}
use Rattle.core_context.proofs.track.Track.ask.Goals as goal

pub forward-requires : goal.forward-requires
forward-requires g c =
    let queued : (get_or c.self.inside.flight.entries c.args.place no_entry).stage ≡ Queued = rw (← c.self.view_is) at c.requires.queued in
    let renamed : nat_lt c.args.place c.renamed_count-renamed.result ≡ true = sym (c.renamed_count-renamed.ensures.oldest c.args.place) ∙ ap is_renamed queued in
    omega (arith, ltb-true c.args.place c.renamed_count-renamed.result renamed, c.renamed_count-renamed.ensures.value)

pub returns-clause-waits : goal.returns-clause-waits
returns-clause-waits g c =
    let flight : c.self.inside.flight.entries ≡ c.args.self.now.context.flight = ap (λ (t : Track). t.context.flight) c.self.view_is in
    c.forward.ensures.clear ∙ ap (λ (es : List Entry). is_clear_in (stores_of es) (get_or es c.args.place no_entry).stamp c.args.span) flight
    ∙ asked_clear c.args.self.now.context c.args.place c.args.span c.requires.answered c.requires.place

pub returns-clause-seen : goal.returns-clause-seen
returns-clause-seen g c = λ is.
    let flight : c.self.inside.flight.entries ≡ c.args.self.now.context.flight = ap (λ (t : Track). t.context.flight) c.self.view_is in
    let value = ap (λ (es : List Entry). value_seen_in (byte_at c.args.self.now.context.state.memory) (stores_of es) (get_or es c.args.place no_entry).stamp c.args.span) flight ∙ asked_value c.args.self.now.context c.args.place c.args.span c.requires.answered c.requires.place in
    subst (λ (n : ℕ). IfSome (number_answered c.forward.result) (λ v. v ≡ n)) value (c.forward.ensures.seen (byte_at c.args.self.now.context.state.memory) is)

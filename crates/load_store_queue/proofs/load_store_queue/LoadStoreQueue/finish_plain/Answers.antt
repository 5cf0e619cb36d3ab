use Rattle.std.proofs.Common.{◌≡◌, ℕ, ◌<◌, true, Option, Some, None, sym, ap, ◌∙◌, arith}
use Rattle.std.specs.Prelude.{IfSome, nat_lt}
use Rattle.std.proofs.lemmas.Bool.{ltb-true}
use Rattle.core_view.specs.Flight.{bytes_in}
use Rattle.core_view.specs.Operations.{is_store}
use Rattle.core_view.specs.Queues.{is_renamed, loads_of, conflict_in}
use Rattle.flight.specs.declared.finished.Finished.{Finished}
use Rattle.core_view.specs.Stages.{execution_of}
use Rattle.flight.specs.Flights.{Flight, entry_in, IsPlain}
use Rattle.load_store_queue.proofs.RenamedPlace.{IsRenamedPlace, renamed-place}
use Rattle.load_store_queue.proofs.LoadsBehind.{conflict-unread}
use Rattle.load_store_queue.proofs.load_store_queue.LoadStoreQueue.finish_plain.Goals as goal

plain-conflict : (o : Option Finished) (f : Flight) (place : ℕ) → IsRenamedPlace f place → IfSome o (IsPlain f place)
    → IfSome o (λ _. is_store (entry_in f.entries place).operation ≡ true → conflict_in (loads_of f.entries) (entry_in f.entries place).stamp (bytes_in (execution_of (entry_in f.entries place).stage).outcome) ≡ None)
plain-conflict None f place at plain = tt
plain-conflict (Some fin) f place at plain = λ store. conflict-unread _ f place at (plain.unread store)

pub returns-clause-conflict : goal.returns-clause-conflict
returns-clause-conflict g c =
    let counted = c.renamed_count-renamed.ensures in
    let renamed : nat_lt c.args.place c.renamed_count-renamed.result ≡ true = sym (counted.oldest c.args.place) ∙ ap is_renamed c.requires.issued in
    let low : c.args.place < c.args.flight.now.renamed = omega (arith, ltb-true c.args.place c.renamed_count-renamed.result renamed, counted.value) in
    plain-conflict c.finish_plain.result c.args.flight.now c.args.place (renamed-place c.args.flight.now c.args.place c.renamed_count-renamed.result counted.value counted.oldest counted.within c.len-len.ensures.growing low) c.finish_plain.ensures.plain

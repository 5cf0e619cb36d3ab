use Rattle.std.proofs.Common.{◌≡◌, ℕ, nat_lt, ap, ◌∙◌}
use Rattle.std.proofs.lemmas.Result.{on_ok_weaker}
use Rattle.flight.specs.Flights.{Flight, entry_in}
use Rattle.core_view.specs.Queues.{is_renamed, loads_of, stores_of}
use Rattle.load_store_queue.proofs.Slots.{load_only, loads_renamed, stores_kept_at_rename}
use Rattle.load_store_queue.proofs.load_store_queue.LoadStoreQueue.place_load.Goals as goal

pub returns-clause-loads : goal.returns-clause-loads
returns-clause-loads g c =
    let now : Flight = c.args.flight.now in
    let oldest : (j : ℕ) → is_renamed (entry_in now.entries j).stage ≡ nat_lt j now.renamed = λ j. c.renamed_count-renamed.ensures.oldest j ∙ ap (nat_lt j) c.renamed_count-renamed.ensures.value in
    on_ok_weaker c.place.result (λ renamed. ap (λ (f : Flight). loads_of f.entries) (renamed 0) ∙ loads_renamed now.entries now.renamed 0 c.requires.some oldest c.requires.load) c.place.ensures.renamed

pub returns-clause-stores : goal.returns-clause-stores
returns-clause-stores g c =
    let now : Flight = c.args.flight.now in
    on_ok_weaker c.place.result (λ renamed. ap (λ (f : Flight). stores_of f.entries) (renamed 0) ∙ stores_kept_at_rename now.entries now.renamed 0 (load_only (entry_in now.entries now.renamed).operation c.requires.load)) c.place.ensures.renamed

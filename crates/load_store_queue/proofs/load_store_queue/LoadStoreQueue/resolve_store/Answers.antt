use Rattle.std.proofs.Common.{◌≡◌, ℕ, ◌<◌, true, List, length, map, Option, Some, slice_get, sym, ap, ◌∙◌, Bor}
use Rattle.std.specs.Option.{option_copied}
use Rattle.std.proofs.lemmas.List.{get_or-set_same}
use Rattle.std.proofs.lemmas.Option.{get_or_from_slice_get}
use Rattle.reorder_buffer.specs.Growing.{IsGrowing}
use Rattle.core_view.specs.declared.span.Bytes.{Bytes}
use Rattle.core_view.specs.declared.entry.Entry.{Entry}
use Rattle.core_view.specs.declared.entry.Execution.{Execution}
use Rattle.core_view.specs.Events.{completed_entry}
use Rattle.core_view.specs.Flight.{bytes_in}
use Rattle.core_view.specs.Operations.{is_store}
use Rattle.core_view.specs.Queues.{loads_of, stores_of, conflict_in}
use Rattle.core_view.specs.View.{no_entry}
use Rattle.core_view.specs.Stages.{IsIssued, execution_of}
use Rattle.flight.specs.Flights.{Flight, entry_in, finished_one}
use Rattle.load_store_queue.specs.Queues.{slot_with_bytes}
use Rattle.load_store_queue.proofs.LoadsBehind.{conflict-of-none}
use Rattle.load_store_queue.proofs.ReadEntry.{read-some}
use Rattle.load_store_queue.proofs.Slots.{loads_kept_at_completion, stores_completed}
use Rattle.load_store_queue.proofs.load_store_queue.LoadStoreQueue.resolve_store.Goals as goal

-- the bytes of the entry at a place, from the entry that was read there
bytes_there : (es : List Entry) (i : ℕ) (got : Option (Bor Entry)) (e : Bor Entry) (bytes : Option Bytes) → option_copied got ≡ slice_get es i → got ≡ Some e → bytes ≡ bytes_in (execution_of e.now.stage).outcome
    → bytes_in (execution_of (entry_in es i).stage).outcome ≡ bytes
bytes_there es i got e bytes read some is =
    let here : slice_get es i ≡ Some e.now = sym read ∙ ap option_copied some in
    ap (λ (f : Entry). bytes_in (execution_of f.stage).outcome) (get_or_from_slice_get es i e.now no_entry here) ∙ sym is

-- the entry at a place has completed
module _ (f new : Flight) (i : ℕ) (within : i < length f.entries) (finished : new ≡ finished_one f i (execution_of (entry_in f.entries i).stage)) where
  abbrev x : Execution
  x = execution_of (entry_in f.entries i).stage

  stamp_kept : (entry_in new.entries i).stamp ≡ (entry_in f.entries i).stamp
  stamp_kept = ap (λ (n : Flight). (entry_in n.entries i).stamp) finished ∙ ap (λ (n : Entry). n.stamp) (get_or-set_same f.entries i (completed_entry (entry_in f.entries i) x) no_entry within)

  module _ (issued : IsIssued (entry_in f.entries i).stage) where
    loads_kept : loads_of new.entries ≡ loads_of f.entries
    loads_kept = ap (λ (n : Flight). loads_of n.entries) finished ∙ loads_kept_at_completion f.entries i x issued

    store_completed : IsGrowing (λ (e : Entry). e.stamp) f.entries → is_store (entry_in f.entries i).operation ≡ true → stores_of new.entries ≡ map (slot_with_bytes (entry_in f.entries i).stamp (bytes_in x.outcome)) (stores_of f.entries)
    store_completed growing store = ap (λ (n : Flight). stores_of n.entries) finished ∙ stores_completed f.entries growing i x within issued store

    conflict_kept : (b : Bytes) (named : Option ℕ) → bytes_in x.outcome ≡ Some b → named ≡ conflict_in (loads_of new.entries) (entry_in new.entries i).stamp (Some b) → named ≡ conflict_in (loads_of f.entries) (entry_in f.entries i).stamp (bytes_in x.outcome)
    conflict_kept b named wrote is = rw (wrote, ← loads_kept, ← stamp_kept) is

pub returns-in_default-clause-loads : goal.returns-in_default-clause-loads
returns-in_default-clause-loads g c = loads_kept c.args.flight.now c.finish.new.self c.args.place c.requires.place c.finish.ensures c.requires.issued

pub returns-in_default-clause-stores : goal.returns-in_default-clause-stores
returns-in_default-clause-stores g c = store_completed c.args.flight.now c.finish.new.self c.args.place c.requires.place c.finish.ensures c.requires.issued c.len-len.ensures.growing c.requires.store

pub returns-in_default-clause-conflict : goal.returns-in_default-clause-conflict
returns-in_default-clause-conflict g c =
    let es : List Entry = c.args.flight.now.entries in
    conflict-of-none (loads_of es) (entry_in es c.args.place).stamp _ (bytes_there es c.args.place c.get.result c.unwrap.result c.bytes_to_come.result c.get.ensures c.unwrap.ensures c.bytes_to_come.ensures ∙ c.in_default.is)

pub returns-clause-loads : goal.returns-clause-loads
returns-clause-loads g c = loads_kept c.args.flight.now c.finish-2.new.self c.args.place c.requires.place c.finish-2.ensures c.requires.issued

pub returns-clause-stores : goal.returns-clause-stores
returns-clause-stores g c = store_completed c.args.flight.now c.finish-2.new.self c.args.place c.requires.place c.finish-2.ensures c.requires.issued c.len-len.ensures.growing c.requires.store

pub returns-clause-conflict : goal.returns-clause-conflict
returns-clause-conflict g c =
    let wrote = bytes_there c.args.flight.now.entries c.args.place c.get.result c.unwrap.result c.bytes_to_come.result c.get.ensures c.unwrap.ensures c.bytes_to_come.ensures ∙ c.in-Some.is in
    conflict_kept c.args.flight.now c.finish-2.new.self c.args.place c.requires.place c.finish-2.ensures c.requires.issued c.in-Some.stored c.conflict.result wrote c.conflict.ensures

pub unwrap-requires : goal.unwrap-requires
unwrap-requires g c = read-some c.args.flight.now.entries c.args.place c.get.result c.requires.place c.get.ensures

pub returns-clause-completed : goal.returns-clause-completed
returns-clause-completed g c = c.finish-2.ensures

pub returns-in_default-clause-completed : goal.returns-in_default-clause-completed
returns-in_default-clause-completed g c = c.finish.ensures

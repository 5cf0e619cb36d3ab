-- Whether an entry was predicted wrongly.
use Rattle.std.specs.Prelude.{Bool, false}
use Rattle.core_view.specs.declared.outcome.Outcome.{Outcome}
use Rattle.core_view.specs.declared.outcome.Outcome.TheVariants.{Goes, Stops}
use Rattle.core_view.specs.declared.entry.Entry.{Entry}
use Rattle.core_view.specs.Events.{is_mispredicted}

-- an entry's next pc was guessed, and wrongly by its outcome; after a stop there is none
abbrev pub is_mispredicted_by : Entry → Outcome → Bool
is_mispredicted_by e (Goes step) = is_mispredicted e step
is_mispredicted_by e (Stops why) = false

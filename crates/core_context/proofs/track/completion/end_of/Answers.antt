use Rattle.std.proofs.Common.{rules, ◌≡◌, ap, refl, Some, None}
use Rattle.std.specs.Prelude.{not}
use Rattle.circular_buffer.specs.Buffer.{last_item}
use Rattle.core_context.proofs.Ends.{end_some, end_none}
use Rattle.core_context.proofs.track.completion.end_of.Goals as goal

pub returns-in-Some : goal.returns-in-Some
returns-in-Some g c =
    let last : last_item c.args.flight.now.entries ≡ Some c.in-Some.entry.now = search rules in
    end_some c.args.pc _ _ c.args.flight.now.entries c.in-Some.entry.now last refl (ap not c.stops_at_fetch.ensures)

pub returns-in-None : goal.returns-in-None
returns-in-None g c =
    let last : last_item c.args.flight.now.entries ≡ None = search rules in
    end_none c.args.pc c.args.flight.now.entries last

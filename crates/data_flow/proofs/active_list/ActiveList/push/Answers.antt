use Rattle.std.proofs.Common.{ℕ, ◌+◌, ◌<◌, ◌%◌, ap, length, arith}
use Rattle.circular_buffer.specs.Buffer.{Buffer, buffer}
use Rattle.data_flow.proofs.Numbered.{counted, pushed}
use Rattle.data_flow.specs.declared.operands.Renamed.{Renamed}
use Rattle.data_flow.specs.Slots.{with_slot}
use Rattle.data_flow.specs.Listed.{of_number}
use Rattle.data_flow.proofs.Written.{AreWide, slot_written, slot_kept}
use Rattle.data_flow.proofs.active_list.ActiveList.push.Goals as goal

pub returns : goal.returns
returns c =
    let slots = c.self.inside.slots in
    let here : ℕ = c.self.inside.tail % 64 in
    let wide : AreWide slots = record {
      destinations = omega arith;
      renamed_destinations = omega arith;
      renamed_firsts = omega arith;
      renamed_seconds = omega arith;
    } in
    let first : ℕ = c.self.inside.head in
    let now = c.args.self.now.items in
    let view = ap (λ (b : Buffer Renamed). b.items) c.self.view_is in
    let len = counted (of_number slots) first c.self.inside.tail now view in
    let room : length now < 64 = omega (arith, c.requires, ap (λ (b : Buffer Renamed). b.capacity) c.self.view_is, c.self.invariant.1) in
    let items = pushed (of_number slots) (of_number (with_slot slots here c.args.renamed)) first c.self.inside.tail now c.args.renamed
    view (omega arith) (omega arith) (omega (arith, room)) (slot_written slots here c.args.renamed wide (omega arith))
    (λ k lt. slot_kept slots here (((first + k) % 256) % 64) c.args.renamed (λ e. omega (arith, e, len, lt, room))) in
    rw (c.write.ensures, c.from.ensures, items) (ap (buffer _) (ap (λ (b : Buffer Renamed). b.capacity) c.self.view_is))

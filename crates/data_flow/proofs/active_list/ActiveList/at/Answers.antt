use Rattle.std.proofs.Common.{◌≡◌, ℕ, Some, ◌+◌, ◌%◌, ap, sym, ◌∙◌, arith}
use Rattle.std.specs.Option.{option_map}
use Rattle.circular_buffer.specs.Buffer.{Buffer}
use Rattle.data_flow.proofs.Numbered.{counted, found_at}
use Rattle.data_flow.specs.declared.operands.Renamed.{Renamed}
use Rattle.data_flow.specs.Slots.{slot_at, slot_of}
use Rattle.data_flow.specs.Listed.{of_number}
use Rattle.data_flow.proofs.active_list.ActiveList.at.Goals as goal

pub overflow_add-from : goal.overflow_add-from
overflow_add-from c = omega (arith, counted (of_number c.self.inside.slots) c.self.inside.head c.self.inside.tail c.args.self.now.items (ap (λ (b : Buffer Renamed). b.items) c.self.view_is), c.self.invariant.0, c.requires)

pub returns : goal.returns
returns c =
    let first : ℕ = c.self.inside.head in
    let slot : ((first + c.args.place) % 256) % 64 ≡ (first + c.args.place) % 64 = omega arith in
    let here = found_at (of_number c.self.inside.slots) first c.self.inside.tail c.args.place c.args.self.now.items (ap (λ (b : Buffer Renamed). b.items) c.self.view_is) c.requires
    ∙ ap (λ i. Some (slot_at c.self.inside.slots i)) slot ∙ ap (λ h. Some (slot_at c.self.inside.slots ((h + c.args.place) % 64))) (sym c.from.ensures) in
    ap (option_map slot_of) here ∙ ap Some (sym c.read.ensures)

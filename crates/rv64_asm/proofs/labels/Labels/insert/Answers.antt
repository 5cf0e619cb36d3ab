use Rattle.std.proofs.Common.{◌≡◌, None}
use Rattle.rv64_asm.specs.Label.{address_of}
use Rattle.rv64_asm.proofs.LabelMap.{added, labels_of}
use Rattle.rv64_asm.proofs.labels.Labels.insert.Goals as goal

pub returns : goal.returns
returns g c =
    let new : address_of (labels_of c.self.inside.addresses.entries) c.args.name.now ≡ None = rw c.self.view_is c.requires in
    record {
      added = rw (c.in_ok-insert.ensures.entries, ← c.self.view_is) (added c.in_ok-from_slice.field-0 c.args.address c.self.inside.addresses.entries c.args.name.now c.in_ok-from_slice.ensures.items new);
    }

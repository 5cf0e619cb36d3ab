use Rattle.std.proofs.Common.{◌∙◌, ap}
use Rattle.rv64_asm.specs.Label.{address_of}
use Rattle.rv64_asm.proofs.LabelMap.{found}
use Rattle.rv64_asm.proofs.labels.Labels.address_of.Goals as goal

pub returns : goal.returns
returns g c =
    let f = found c.args.name.now c.self.inside.addresses.entries in
    c.copied.ensures ∙ c.get.ensures.value ∙ (f ∙ ap (λ labels. address_of labels c.args.name.now) c.self.view_is)

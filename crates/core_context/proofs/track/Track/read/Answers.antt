use Rattle.std.proofs.Common.{ap, refl, ◌∙◌}
use Rattle.paged_memory.specs.Cells.{Cells, bytes_of, load_of}
use Rattle.core_context.proofs.Performed.{read_fault, read_number}
use Rattle.core_context.proofs.track.Track.read.Goals as goal

pub returns-clause-fault : goal.returns-clause-fault
returns-clause-fault g c =
    let loaded = c.load.ensures ∙ ap (λ (m : Cells). load_of m c.args.address (bytes_of c.load_width.result)) c.plain.ensures ∙ ap (λ k. load_of c.self.inside.memory c.args.address k) c.load_width.ensures in
    read_fault _ c.args.self.now c.args.kind c.args.address c.load.result _ c.self.view_is loaded refl

pub returns-clause-number : goal.returns-clause-number
returns-clause-number g c =
    let loaded = c.load.ensures ∙ ap (λ (m : Cells). load_of m c.args.address (bytes_of c.load_width.result)) c.plain.ensures ∙ ap (λ k. load_of c.self.inside.memory c.args.address k) c.load_width.ensures in
    read_number _ c.args.self.now c.args.kind c.args.address c.load.result _ c.self.view_is loaded refl

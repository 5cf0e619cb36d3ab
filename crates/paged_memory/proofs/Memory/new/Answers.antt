use Rattle.paged_memory.proofs.Started.{starts, started, started_sound}
use Rattle.paged_memory.proofs.Memory.new.Goals as goal

pub returns : goal.returns
returns g c =
    let e = c.in_ok-text.ensures in
    started _ _ _ _ (starts c.args.words.now c.args.bytes.now c.in_ok-text.text c.in_ok-text.pages.items c.requires.words c.requires.bytes e.text (λ j. (c.type_inv.bytes j).fits) e.total e.words e.bytes)

pub invariant_of-result : goal.invariant_of-result
invariant_of-result g c =
    let e = c.in_ok-text.ensures in
    started_sound _ _ _ _ (starts c.args.words.now c.args.bytes.now c.in_ok-text.text c.in_ok-text.pages.items c.requires.words c.requires.bytes e.text (λ j. (c.type_inv.bytes j).fits) e.total e.words e.bytes)

use Rattle.std.proofs.Common.{◌≡◌, length, arith}
use Rattle.std.proofs.lemmas.List.{with_items_is}
use Rattle.paged_memory.specs.Cells.{bytes_of}
use Rattle.paged_memory.proofs.Stored.{left_alike}
use Rattle.paged_memory.proofs.Memory.store.Goals as goal

-- the pages that the call leaves are as many as before
pub returns-clause-ok : goal.returns-clause-ok
returns-clause-ok g c =
    let long : length c.store.new.pages ≡ c.self.inside.pages.len = omega (arith, c.store.auto.pages, c.deref_mut.ensures.len, c.self.inside.pages.ok.0) in
    let same = with_items_is c.self.inside.pages c.store.new.pages long in
    rw (← c.self.view_is) (rw (c.deref_mut.ensures.value, ← same) at c.store.ensures.ok)

pub returns-clause-stored : goal.returns-clause-stored
returns-clause-stored g c =
    let long : length c.store.new.pages ≡ c.self.inside.pages.len = omega (arith, c.store.auto.pages, c.deref_mut.ensures.len, c.self.inside.pages.ok.0) in
    let same = with_items_is c.self.inside.pages c.store.new.pages long in
    rw (← c.self.view_is) (rw (c.deref_mut.ensures.value, ← same) at c.store.ensures.stored)

pub returns-clause-fetched : goal.returns-clause-fetched
returns-clause-fetched g c =
    let long : length c.store.new.pages ≡ c.self.inside.pages.len = omega (arith, c.store.auto.pages, c.deref_mut.ensures.len, c.self.inside.pages.ok.0) in
    let same = with_items_is c.self.inside.pages c.store.new.pages long in
    rw (← c.self.view_is) (rw (c.deref_mut.ensures.value, ← same) at c.store.ensures.fetched)

pub returns-clause-err : goal.returns-clause-err
returns-clause-err g c =
    let long : length c.store.new.pages ≡ c.self.inside.pages.len = omega (arith, c.store.auto.pages, c.deref_mut.ensures.len, c.self.inside.pages.ok.0) in
    let same = with_items_is c.self.inside.pages c.store.new.pages long in
    rw (← c.self.view_is) (rw (← same) at (left_alike c.store.result c.self.inside.text c.self.inside.pages.items c.store.new.pages c.args.address (bytes_of c.args.width) c.args.value (rw c.deref_mut.ensures.value at c.store.ensures.err)))

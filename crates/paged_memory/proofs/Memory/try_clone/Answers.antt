use Rattle.paged_memory.proofs.Memory.try_clone.Goals as goal

pub invariant_of-result : goal.invariant_of-result
invariant_of-result g c = rw (c.in_ok-pages.ensures.items, c.deref.ensures.value) c.self.invariant

pub returns : goal.returns
returns g c = rw (c.in_ok-pages.ensures.items, c.deref.ensures.value) c.self.view_is

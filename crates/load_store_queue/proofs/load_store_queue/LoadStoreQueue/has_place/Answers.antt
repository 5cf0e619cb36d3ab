use Rattle.std.proofs.Common.{◌≤◌, ap, subst, ◌∙◌}
use Rattle.load_store_queue.specs.Queues.{Places, limits_of}
use Rattle.load_store_queue.proofs.SlotKinds.{AreOldest}
use Rattle.load_store_queue.proofs.PlaceLimits.{place-below-limit}
use Rattle.load_store_queue.proofs.load_store_queue.LoadStoreQueue.has_place.Goals as goal

pub returns : goal.returns
returns g c =
    let flight = c.args.flight.now in
    let counted = c.renamed_count-renamed.ensures in
    place-below-limit c.args.self.now flight.renamed flight.entries c.args.operation.now
    (subst (λ n. n ≤ 64) counted.value counted.few) (subst (λ n. AreOldest n flight.entries) counted.value counted.oldest)
    c.self.inside.limits c.kind-kind.result c.index.result c.kind_count.result
    (c.self.invariant ∙ ap (λ (q : Places). limits_of q.load_places q.store_places) c.self.view_is) c.kind-kind.ensures c.index.ensures.index c.index.ensures.bound c.kind_count.ensures.value

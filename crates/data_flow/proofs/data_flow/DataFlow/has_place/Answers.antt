use Rattle.std.proofs.Common.{◌≡◌, ℕ, ◌<◌, length, ap, sym, ◌∙◌, arith}
use Rattle.std.specs.Prelude.{◌↔◌, IsTrue, ltb}
use Rattle.std.proofs.lemmas.Bool.Decides.{nat_tests}
use Rattle.std.proofs.lemmas.List.{length-map}
use Rattle.data_flow.specs.Flow.{Flow}
use Rattle.data_flow.specs.Wired.{waiter_of}
use Rattle.data_flow.proofs.data_flow.DataFlow.has_place.Goals as goal

below-places : (count capacity n places : ℕ) → count ≡ n → capacity ≡ places → IsTrue (ltb count capacity) ↔ (n < places)
below-places count capacity n places counted all = grind (arith, nat_tests, counted, all)

pub returns : goal.returns
returns g c =
    below-places c.len.result c.capacity.result _ _ (c.len.ensures.value ∙ sym (length-map c.self.inside.queue.entries waiter_of) ∙ ap (λ (f : Flow). length f.waiters) c.self.view_is)
    (c.capacity.ensures.value ∙ ap (λ (f : Flow). f.places) c.self.view_is)

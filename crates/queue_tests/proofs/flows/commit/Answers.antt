use Rattle.std.proofs.Common.{◌≡◌, ℕ, ◌+◌, Bool, true, false, cond, List, [], ◌∷◌, refl, sym, ◌∙◌, arith}
use Rattle.std.specs.Prelude.{count_by, ◌==◌, ◌&&◌, ◌||◌}
use Rattle.std.specs.List.{list_any}
use Rattle.std.proofs.lemmas.Bool.Decides.{nat_tests}
use Rattle.std.proofs.lemmas.List.Sums.{sum_by-cons}
use Rattle.data_flow.specs.Flow.{Waiter, lane, node_at, is_waiter}
use Rattle.queue_tests.proofs.flows.commit.Goals as goal

-- where none of a context waits, the one of a stamp does not
none_waits : (c k : ℕ) (ws : List Waiter) → count_by (λ w. w.context == c) ws ≡ 0 → list_any (is_waiter c k) ws ≡ false
none_waits c k [] e = refl
none_waits c k (w ∷ ws) e =
    at_test (w.context == c) (w.stamp == k) (none_waits c k ws) (sym (sum_by-cons (λ (x : Waiter). cond (x.context == c) 1 0) w ws) ∙ e)
  where
    at_test : (b stamp : Bool) → (count_by (λ w. w.context == c) ws ≡ 0 → list_any (is_waiter c k) ws ≡ false)
        → cond b 1 0 + count_by (λ w. w.context == c) ws ≡ 0 → ((b && stamp) || list_any (is_waiter c k) ws) ≡ false
    at_test true stamp rest sum = absurd (omega (arith, sum))
    at_test false stamp rest sum = rest (omega (arith, sum))

pub commit-requires-clause-idle : goal.commit-requires-clause-idle
commit-requires-clause-idle g c =
    let none : c.waiting_count.result ≡ 0 = grind (arith, nat_tests) in
    none_waits c.args.context (node_at (lane c.args.flow.now c.args.context) 0).operands.stamp c.args.flow.now.waiters (sym c.waiting_count.ensures ∙ none)

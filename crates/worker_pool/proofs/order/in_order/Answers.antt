use Rattle.std.proofs.Common.{rules, ap, sym, ◌∙◌, ℕ, Option}
use Rattle.std.specs.List.{sum_by}
use Rattle.std.proofs.lemmas.List.Sorted.{IsNonDecreasingBy-from_sort_by_key, sum_by-IsPermutation}
use Rattle.worker_pool.proofs.Sorted.{sorted_jobs, if_ok}
use Rattle.worker_pool.proofs.order.in_order.Goals as goal

pub only_ends-requires : goal.only_ends-requires
only_ends-requires g c =
    let sort = c.sort_unstable_by_key.ensures in
    sorted_jobs c.sort_unstable_by_key.new.self.items c.args.jobs
    (IsNonDecreasingBy-from_sort_by_key (λ (e : ℕ × Option g.row.N.Denot). e.0) _ sort.sorted (λ a r q k. search rules))
    (λ h. sum_by-IsPermutation (λ (e : ℕ × Option g.row.N.Denot). h e.0) _ _ sort.permutation ∙ c.requires h)

pub returns-clause-each_once : goal.returns-clause-each_once
returns-clause-each_once g c = if_ok c.only_ends.result (λ v same w. sym (sum_by-IsPermutation w _ _ c.sort_unstable_by_key.ensures.permutation) ∙ ap (sum_by w) (sym same)) c.only_ends.ensures.ends

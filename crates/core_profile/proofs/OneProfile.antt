-- The fields of a profile determine it.
use Rattle.std.proofs.Common.{◌≡◌, ◌≢◌, ℕ, ◌≤◌}
use Rattle.std.proofs.Props.{props}
use mathlib.Core.HLevel.{Σ_prop_path}
use Rattle.core_profile.specs.declared.profile.Profile.{Profile}
use Rattle.core_profile.specs.Fields.{fields_of}

-- a number in a range
abbrev Between : ℕ → ℕ → Type 0
Between low high = (n : ℕ) × ((low ≤ n) × (n ≤ high))

-- a number that isn't 3 in a range
abbrev Picks : Type 0
Picks = (n : ℕ) × ((1 ≤ n) × (n ≤ 4) × (n ≢ 3))

-- equal numbers in a range are equal with their bounds
between : (low high : ℕ) (x y : Between low high) → x.0 ≡ y.0 → x ≡ y
between low high x y e = let bounds : (n : ℕ) → IsProp ((low ≤ n) × (n ≤ high)) = hlevel props in Σ_prop_path bounds e

picks : (x y : Picks) → x.0 ≡ y.0 → x ≡ y
picks x y e = let bounds : (n : ℕ) → IsProp ((1 ≤ n) × (n ≤ 4) × (n ≢ 3)) = hlevel props in Σ_prop_path bounds e

-- profiles with the same fields are one
pub one_profile : (p q : Profile) → fields_of p ≡ fields_of q → p ≡ q
one_profile p q e =
    let num1 = picks (p.num1, p.num1_in_range) (q.num1, q.num1_in_range) (λ i. (e i).num1) in
    let num2 = between 1 8 (p.num2, p.num2_in_range) (q.num2, q.num2_in_range) (λ i. (e i).num2) in
    let rename_width = between 1 8 (p.rename_width, p.rename_width_in_range) (q.rename_width, q.rename_width_in_range) (λ i. (e i).rename_width) in
    let issue_width = between 1 8 (p.issue_width, p.issue_width_in_range) (q.issue_width, q.issue_width_in_range) (λ i. (e i).issue_width) in
    let retire_width = between 1 16 (p.retire_width, p.retire_width_in_range) (q.retire_width, q.retire_width_in_range) (λ i. (e i).retire_width) in
    let issue_queue = between 8 64 (p.issue_queue, p.issue_queue_in_range) (q.issue_queue, q.issue_queue_in_range) (λ i. (e i).issue_queue) in
    let reorder_buffer = between 8 64 (p.reorder_buffer, p.reorder_buffer_in_range) (q.reorder_buffer, q.reorder_buffer_in_range) (λ i. (e i).reorder_buffer) in
    let load_queue = between 4 32 (p.load_queue, p.load_queue_in_range) (q.load_queue, q.load_queue_in_range) (λ i. (e i).load_queue) in
    let store_queue = between 4 32 (p.store_queue, p.store_queue_in_range) (q.store_queue, q.store_queue_in_range) (λ i. (e i).store_queue) in
    let extra_registers = between 32 224 (p.extra_registers, p.extra_registers_in_range) (q.extra_registers, q.extra_registers_in_range) (λ i. (e i).extra_registers) in
    let front_delay = between 1 8 (p.front_delay, p.front_delay_in_range) (q.front_delay, q.front_delay_in_range) (λ i. (e i).front_delay) in
    let alu_latency = between 1 200 (p.alu_latency, p.alu_latency_in_range) (q.alu_latency, q.alu_latency_in_range) (λ i. (e i).alu_latency) in
    let branch_latency = between 1 200 (p.branch_latency, p.branch_latency_in_range) (q.branch_latency, q.branch_latency_in_range) (λ i. (e i).branch_latency) in
    let store_latency = between 1 200 (p.store_latency, p.store_latency_in_range) (q.store_latency, q.store_latency_in_range) (λ i. (e i).store_latency) in
    let hit_latency = between 1 200 (p.hit_latency, p.hit_latency_in_range) (q.hit_latency, q.hit_latency_in_range) (λ i. (e i).hit_latency) in
    let miss_latency = between 1 200 (p.miss_latency, p.miss_latency_in_range) (q.miss_latency, q.miss_latency_in_range) (λ i. (e i).miss_latency) in
    λ i. record {
      fetch = (e i).fetch;
      issue = (e i).issue;
      num1 = (num1 i).0;
      num2 = (num2 i).0;
      rename_width = (rename_width i).0;
      issue_width = (issue_width i).0;
      retire_width = (retire_width i).0;
      issue_queue = (issue_queue i).0;
      reorder_buffer = (reorder_buffer i).0;
      load_queue = (load_queue i).0;
      store_queue = (store_queue i).0;
      extra_registers = (extra_registers i).0;
      front_delay = (front_delay i).0;
      alu_latency = (alu_latency i).0;
      branch_latency = (branch_latency i).0;
      store_latency = (store_latency i).0;
      hit_latency = (hit_latency i).0;
      miss_latency = (miss_latency i).0;
      num1_in_range = (num1 i).1;
      num2_in_range = (num2 i).1;
      rename_width_in_range = (rename_width i).1;
      issue_width_in_range = (issue_width i).1;
      retire_width_in_range = (retire_width i).1;
      issue_queue_in_range = (issue_queue i).1;
      reorder_buffer_in_range = (reorder_buffer i).1;
      load_queue_in_range = (load_queue i).1;
      store_queue_in_range = (store_queue i).1;
      extra_registers_in_range = (extra_registers i).1;
      front_delay_in_range = (front_delay i).1;
      alu_latency_in_range = (alu_latency i).1;
      branch_latency_in_range = (branch_latency i).1;
      store_latency_in_range = (store_latency i).1;
      hit_latency_in_range = (hit_latency i).1;
      miss_latency_in_range = (miss_latency i).1;
    }

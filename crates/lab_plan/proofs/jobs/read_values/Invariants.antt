use Rattle.std.proofs.Common.{◌≡◌, ◌++◌, length, map, drop}
use Rattle.toml.specs.View.{items_view}
use Rattle.lab_plan.specs.Jobs.{AreFaultlessBelow, job_fields, jobs_of}
use Rattle.lab_plan.proofs.jobs.read_values.Given as goal

abbrev pub invariant-loop-value : goal.invariant-loop-value
invariant-loop-value l = record {
  count : length l.jobs.items ≡ l.value-index;
  jobs : map job_fields l.jobs.items ++ jobs_of (items_view (drop l.value-index l.values)) ≡ jobs_of (items_view l.values);
  faultless : AreFaultlessBelow (items_view l.values) l.value-index;
}

-- Laws of results, for callers to cite.
-- a job and the marks at which it starts decide what it does; a plan and an opening decide its results
pub use Rattle.lab_pool.proofs.Decided.{job_decided, opening_decided, results_decided}

-- The laws of plans, for callers to cite.
-- a text has one plan
pub use Rattle.lab_plan.proofs.OnePlan.{plan_unique}

-- A worker that ran one job more.
use Rattle.std.proofs.Common.{◌≡◌, ℕ, ◌+◌, List, [], ◌∷◌, ◌++◌, Option, ◌∙◌, arith}
use Rattle.worker_pool.specs.declared.kit.Kit.{Kit}
use Rattle.worker_pool.specs.declared.shift.Shift.{Shift}
use Rattle.worker_pool.specs.declared.supply.Supply.{Supply}
use Rattle.worker_pool.specs.Results.{IsSumOfEnds}
use Rattle.worker_pool.specs.Supplies.{SameDeques, taken_from}
use Rattle.worker_pool.specs.Shifts.{IsShiftOf}
use Rattle.worker_pool.proofs.Logs.{ended_push, log_of_more}

pub same_on : (a b c : Supply) → SameDeques a b → SameDeques b c → SameDeques a c
same_on a b c s t = record { own = t.own ∙ s.own; flavor = t.flavor ∙ s.flavor; parts = t.parts ∙ s.parts; dealt = t.dealt ∙ s.dealt; row = t.row ∙ s.row }

module _ {S J N : Type 0} (is_own : S → Type 0) (room_of : S → ℕ) (runs_of : S → List (ℕ × Option N)) (gives : ℕ → J → Type 0) (is_kin : J → J → Type 0) (joined : J → J → J) where
  pub shift_of_more : (kit : Kit S) (r r' : Shift S J N) (job : ℕ) (end : Option N) → IsShiftOf is_own room_of runs_of gives is_kin joined kit r → is_own r'.seat → room_of r'.seat + 1 ≡ room_of r.seat → runs_of r'.seat ≡ runs_of r.seat ++ (job, end) ∷ [] → r'.log.ends.items ≡ r.log.ends.items ++ (job, end) ∷ []
      → SameDeques r.supply r'.supply → ((h : ℕ → ℕ) → taken_from h r'.supply ≡ taken_from h r.supply + h job) → IsSumOfEnds gives is_kin joined r'.log.ends.items r'.log.total → IsShiftOf is_own room_of runs_of gives is_kin joined kit r'
  shift_of_more kit r r' job end d own place runs ends same taken logged = record {
    log = log_of_more is_own room_of runs_of gives is_kin joined kit.seat r.seat r'.seat r.log r'.log job end d.log own place runs ends logged;
    same = same_on kit.supply r.supply r'.supply d.same same;
    taken = λ h. let e = ended_push h r.log.ends.items r'.log.ends.items job end ends in let t = taken h in let o = d.taken h in omega arith;
  }

-- Logs with one job more.
use Rattle.std.proofs.Common.{◌≡◌, ℕ, ◌+◌, List, [], ◌∷◌, ◌++◌, Option, sym, ap, ◌∙◌, subst, arith, append_assoc, append-nil}
use Rattle.std.proofs.lemmas.List.Sums.{sum_by_push}
use Rattle.worker_pool.specs.declared.log.Log.{Log}
use Rattle.worker_pool.specs.Results.{IsSumOfEnds}
use Rattle.worker_pool.specs.Numbers.{ended, jobs_of}
use Rattle.worker_pool.specs.Logs.{IsLogOf}
use Rattle.std.proofs.lemmas.List.{map_push}

pub ended_push : {N : Type 0} (h : ℕ → ℕ) (ends ends' : List (ℕ × Option N)) (job : ℕ) (end : Option N) → ends' ≡ ends ++ (job, end) ∷ [] → ended h ends' ≡ ended h ends + h job
ended_push h ends ends' job end e = ap (ended h) e ∙ sum_by_push (λ e. h e.0) ends (job, end)

module _ {S J N : Type 0} (is_own : S → Type 0) (room_of : S → ℕ) (runs_of : S → List (ℕ × Option N)) (gives : ℕ → J → Type 0) (is_kin : J → J → Type 0) (joined : J → J → J) where
  pub log_of_nothing : (before after : S) (log : Log J N) → is_own before → after ≡ before → log.ends.items ≡ [] → IsSumOfEnds gives is_kin joined log.ends.items log.total → IsLogOf is_own room_of runs_of gives is_kin joined before after log
  log_of_nothing before after log own seat none logged = record {
    own = subst is_own (sym seat) own;
    runs = ap runs_of seat ∙ (sym (append-nil (runs_of before)) ∙ ap (λ es. runs_of before ++ es) (sym none));
    room = (let l = ap (ended (λ _. 1)) none in let s = ap room_of seat in omega arith);
    logged = logged;
  }

  pub log_of_more : (before after after' : S) (log log' : Log J N) (job : ℕ) (end : Option N) → IsLogOf is_own room_of runs_of gives is_kin joined before after log → is_own after' → room_of after' + 1 ≡ room_of after → runs_of after' ≡ runs_of after ++ (job, end) ∷ []
      → log'.ends.items ≡ log.ends.items ++ (job, end) ∷ [] → IsSumOfEnds gives is_kin joined log'.ends.items log'.total → IsLogOf is_own room_of runs_of gives is_kin joined before after' log'
  log_of_more before after after' log log' job end d own place runs ends logged = record {
    own = own;
    runs = runs ∙ (ap (λ es. es ++ (job, end) ∷ []) d.runs ∙ (append_assoc (runs_of before) log.ends.items ((job, end) ∷ []) ∙ ap (λ es. runs_of before ++ es) (sym ends)));
    room = (let l = ended_push (λ _. 1) log.ends.items log'.ends.items job end ends in let o = d.room in omega arith);
    logged = logged;
  }

-- one job went from those left to the log
pub next_jobs : {N : Type 0} (es es' : List (ℕ × Option N)) (rest rest' all : List ℕ) (job : ℕ) (end : Option N) → es' ≡ es ++ (job, end) ∷ [] → rest ≡ job ∷ rest' → jobs_of es ++ rest ≡ all → jobs_of es' ++ rest' ≡ all
next_jobs {N} es es' rest rest' all job end e steps h =
    ap (λ l. jobs_of l ++ rest') e
    ∙ (ap (λ l. l ++ rest') (map_push (λ (x : ℕ × Option N). x.0) es (job, end))
    ∙ (append_assoc (jobs_of es) (job ∷ []) rest' ∙ (ap (λ l. jobs_of es ++ l) (sym steps) ∙ h)))

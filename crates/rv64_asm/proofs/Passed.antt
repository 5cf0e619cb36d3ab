-- What `?` passes on to the caller.
use Rattle.std.proofs.Common.{◌≡◌, Result, Ok, Err, ap}
use Rattle.std.specs.Result.{IsErr, IsErrAnd, IfErr}

-- the fault that was passed on
pub passed : {X F : Type 0} (r : Result X F) (fault : F) → IsErr r × IsErrAnd r (λ f. f ≡ fault) → r ≡ Err fault
passed (Ok x) fault h = absurd h.1
passed (Err f) fault h = ap Err h.1

-- what holds of it
pub holds_of_passed : {X F : Type 0} (P : F → Type 0) (r : Result X F) (fault : F) → IsErr r × IsErrAnd r (λ f. f ≡ fault) → P fault → IfErr r P
holds_of_passed P r fault h p = rw (passed r fault h) p

-- The results of jobs, and their join.
use Rattle.std.specs.Prelude.{◌≡◌, ℕ, List, [], ◌∷◌, Option, None, Some, Result, Ok, Err}
use Rattle.join_law.specs.JoinOf.{IsJoinOf}

-- the note of a job, unless it was refused
abbrev pub note_of : {J N E : Type 0} → Result (J × N) E → Option N
note_of (Ok end) = Some end.1
note_of (Err e) = None

-- one result of each job that was not refused
abbrev pub AreResults : {J N : Type 0} → (ℕ → J → Type 0) → List (ℕ × Option N) → List J → Type 0
AreResults gives [] [] = Unit {0}
AreResults gives [] (r ∷ rs) = ⊥
AreResults gives ((job, None) ∷ ends) rs = AreResults gives ends rs
AreResults gives ((job, Some note) ∷ ends) [] = ⊥
AreResults gives ((job, Some note) ∷ ends) (r ∷ rs) = gives job r × AreResults gives ends rs

-- any two results are kin
abbrev pub AllResultsKin : {J : Type 0} → (ℕ → J → Type 0) → (J → J → Type 0) → Type 0
AllResultsKin {J} gives is_kin = (j k : ℕ) (r s : J) → gives j r → gives k s → is_kin r s

-- the join of results, if there is one
abbrev pub IsSumOf : {J : Type 0} → (ℕ → J → Type 0) → (J → J → Type 0) → (J → J → J) → List J → Option J → Type 0
IsSumOf gives is_kin joined rs None = rs ≡ []
IsSumOf {J} gives is_kin joined rs (Some total) = IsJoinOf is_kin joined rs total × ((k : ℕ) × (r : J) × gives k r × is_kin r total)

-- the join of one result of each job that was not refused, if there is one
abbrev pub IsSumOfEnds : {J N : Type 0} → (ℕ → J → Type 0) → (J → J → Type 0) → (J → J → J) → List (ℕ × Option N) → Option J → Type 0
IsSumOfEnds {J} gives is_kin joined ends total = (rs : List J) × AreResults gives ends rs × IsSumOf gives is_kin joined rs total

-- the join of the opening and one result of each job that was not refused
abbrev pub IsTotal : {J N : Type 0} → (ℕ → J → Type 0) → (J → J → Type 0) → (J → J → J) → J → List (ℕ × Option N) → J → Type 0
IsTotal {J} gives is_kin joined opening runs total = (rs : List J) × AreResults gives runs rs × IsJoinOf is_kin joined (opening ∷ rs) total

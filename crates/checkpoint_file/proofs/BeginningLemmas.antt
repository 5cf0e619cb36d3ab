-- Pieces written one after the other.
use Rattle.std.proofs.Common.{ℕ, ◌+◌, List, ◌++◌, length, take, Option, arith}
use Rattle.std.proofs.lemmas.List.{length-append, take-append-le}
use Rattle.std.specs.Prelude.{Result, Ok, Err, OnErr}
use Rattle.std.proofs.Math.Seq.{take-append-add}
use Rattle.std.specs.Io.KnownBytes.{Appends}
use Rattle.checkpoint_file.specs.Devices.{AppendsBeginning}
use Rattle.checkpoint_file.proofs.PutOneMore.{Appends-both}

-- a beginning of the first is one of both
pub beginning_first : (a b : Option (List ℕ)) (xs ys : List ℕ) → AppendsBeginning a b xs → AppendsBeginning a b (xs ++ ys)
beginning_first a b xs ys h = (h.0, omega (arith, h.1, length-append xs ys), rw (take-append-le h.0 xs ys h.1) h.2)

pub appends_two : (a b c : Option (List ℕ)) (xs ys : List ℕ) → Appends a b xs → Appends b c ys → Appends a c (xs ++ ys)
appends_two a b c xs ys p q = Appends-both a b c xs ys p q

-- all of the first and a beginning of the second
pub beginning_second : (a b c : Option (List ℕ)) (xs ys : List ℕ) → Appends a b xs → AppendsBeginning b c ys → AppendsBeginning a c (xs ++ ys)
beginning_second a b c xs ys p h = (length xs + h.0, omega (arith, h.1, length-append xs ys), rw (take-append-add xs ys h.0) (Appends-both a b c xs (take h.0 ys) p h.2))

pub second_fails : {X E : Type 0} (r : Result X E) (a b c : Option (List ℕ)) (xs ys : List ℕ) → Appends a b xs → OnErr r (AppendsBeginning b c ys) → OnErr r (AppendsBeginning a c (xs ++ ys))
second_fails (Ok x) a b c xs ys p h = tt
second_fails (Err e) a b c xs ys p h = beginning_second a b c xs ys p h

-- What is known of an answer that may be `None`.
use Rattle.std.proofs.Common.{◌≡◌, Option, Some, None, refl}
use Rattle.std.specs.Prelude.{IfSome}

-- a fact either way
pub none_or_some : {A P : Type 0} {Q : A → Type 0} (o : Option A) → IfSome o Q → (o ≡ None → P) → ((x : A) → Q x → P) → P
none_or_some None q none some = none refl
none_or_some (Some x) q none some = some x q

-- a fact of what is answered gives another
pub some_of : {A : Type 0} {P Q : A → Type 0} (o : Option A) → IfSome o P → ((x : A) → P x → Q x) → IfSome o Q
some_of None p f = tt
some_of (Some x) p f = f x p

use Rattle.std.proofs.Common.{◌≡◌, drop}
use Rattle.std.specs.Prelude.{find}
use Rattle.refusal_codes.specs.Codes as spec
use Rattle.refusal_codes.proofs.code.Code.from_name.Given as goal

-- the rest of the codes has the first of this name
abbrev pub invariant-loop-code : goal.invariant-loop-code
invariant-loop-code l = find (λ code. spec.is_alike (spec.name_of code) l.name) (drop l.code-index l.code-items) ≡ spec.code_named l.name

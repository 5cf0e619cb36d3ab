use Rattle.std.proofs.Common.{rules, ◌≡◌, ◌↔◌, IsTrue}
use Rattle.origin_set.proofs.Same.{same_program}
use Rattle.origin_set.proofs.has_same_parts.Goals as goal

pub returns-then-eq : goal.returns-then-eq
returns-then-eq g c =
    let words : c.words.result.now ≡ c.words-2.result.now = search rules in
    let bytes : IsTrue c.eq-then-eq.result ↔ (c.bytes.result.now ≡ c.bytes-then-eq.result.now) = (λ h. search rules, λ h. search rules) in
    same_program c.args.left.now c.args.right.now _ _ _ _ c.words.ensures c.words-2.ensures c.bytes.ensures c.bytes-then-eq.ensures words bytes

use Rattle.std.proofs.Common.{◌≡◌, true, false, sym, ◌∙◌, arith}
use Rattle.core_back.proofs.CompletedTurns.{has_none}
use Rattle.core_back.proofs.completing.hinted.Goals as goal

differ : true ≡ false → ⊥
differ e = cc

pub loop-context-init : goal.loop-context-init
loop-context-init g c = record { known = λ d is. absurd (differ (sym is ∙ has_none d)); none = λ d lt. absurd (omega (arith, lt)) }

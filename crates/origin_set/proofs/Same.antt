-- When two programs are the same.
use Rattle.std.proofs.Common.{◌≡◌, ◌↔◌, ℕ, List, refl, ap}
use Rattle.rv64_asm.specs.ProgramValue.{ProgramValue}

same_parts : (a b c d : List ℕ) → a ≡ b → c ≡ d → ◌≡◌ {A = ProgramValue} (record { words = a; bytes = c }) (record { words = b; bytes = d })
same_parts a b c d e f = rw (e, f) refl

-- programs of the same words are the same exactly where their bytes are
pub same_program : {P : Type 0} (a b : ProgramValue) (v w x y : List ℕ) → v ≡ a.words → w ≡ b.words → x ≡ a.bytes → y ≡ b.bytes → v ≡ w → P ↔ (x ≡ y) → P ↔ (a ≡ b)
same_program a b v w x y e f g h words bytes = (
  λ p. same_parts _ _ _ _ (rw (e, f) at words) (rw (g, h) at (bytes.0 p)),
  λ same. bytes.1 (rw (g, h) (ap (λ (program : ProgramValue). program.bytes) same)),
)

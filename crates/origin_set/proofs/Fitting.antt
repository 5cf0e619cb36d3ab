-- A test of the programs by their places is one of the programs.
use Rattle.std.proofs.Common.{◌≡◌, ◌↔◌, ◌≤◌, ℕ, List, length, Option, Some, Bool, true, false, IsTrue, subst, sym, ◌∙◌, All}
use Rattle.origin_set.specs.Limits.{IsWithinLimits}
use Rattle.paged_memory.specs.Regions.{most_words, most_bytes}
use Rattle.rv64_asm.specs.ProgramValue.{ProgramValue}

module _ {X : Type 0} (P : X → Type 0) (placed given : List X) (test : Bool) (same : placed ≡ given) (tests : IsTrue test ↔ All P placed) where
  pub true_all : test ≡ true → All P given
  true_all is_true = subst (All P) same (tests.0 is_true)

  pub false_none : test ≡ false → All P given → false ≡ true
  false_none is_false all = sym is_false ∙ tests.1 (subst (All P) (sym same) all)

-- a program fits where its words and bytes do
pub fitting : (program : Option ProgramValue) (p : ProgramValue) (test : Bool) (words bytes : List ℕ) → program ≡ Some p → words ≡ p.words → bytes ≡ p.bytes → IsTrue test ↔ ((length words ≤ most_words) × (length bytes ≤ most_bytes)) → IsTrue test ↔ IsWithinLimits program
fitting program p test words bytes is w b tests = rw (is, ← w, ← b) tests

-- Bytes that were taken one after another.
use Rattle.std.proofs.Common.{◌≡◌, ℕ, List, [], ◌∷◌, ◌++◌, Option, Some, length, append_assoc}
use Rattle.std.specs.Int.{to_le_bytes, w64}
use Rattle.origin_set.specs.OriginBytes.{program_bytes, words_bytes}
use Rattle.rv64_asm.specs.ProgramValue.{ProgramValue}

pub nine_pieces : (n : ℕ) (p0 p1 p2 p3 p4 p5 p6 p7 : List ℕ) → ((((((((n ∷ []) ++ p0) ++ p1) ++ p2) ++ p3) ++ p4) ++ p5) ++ p6) ++ p7 ≡ n ∷ (p0 ++ (p1 ++ (p2 ++ (p3 ++ (p4 ++ (p5 ++ (p6 ++ p7)))))))
nine_pieces n p0 p1 p2 p3 p4 p5 p6 p7 = simp append_assoc

five_pieces : (m : List ℕ) (n : ℕ) (a b c d : List ℕ) → ((((m ++ n ∷ []) ++ a) ++ b) ++ c) ++ d ≡ m ++ n ∷ (a ++ (b ++ (c ++ d)))
five_pieces m n a b c d = simp append_assoc

-- the pieces of a program
pub program_pieces : (m : List ℕ) (program : Option ProgramValue) (p : ProgramValue) (words bytes a b : List ℕ) → program ≡ Some p → words ≡ p.words → bytes ≡ p.bytes → a ≡ to_le_bytes w64 (length words) → b ≡ to_le_bytes w64 (length bytes) → ((((m ++ 1 ∷ []) ++ a) ++ words_bytes words) ++ b) ++ bytes ≡ m ++ program_bytes program
program_pieces m program p words bytes a b is w d e f = rw (is, ← w, ← d, e, f) (five_pieces m 1 (to_le_bytes w64 (length words)) (words_bytes words) (to_le_bytes w64 (length bytes)) bytes)

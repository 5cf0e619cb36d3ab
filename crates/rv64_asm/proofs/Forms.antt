-- Forms of operands that are written are read again.
use Rattle.std.proofs.Common.{◌≡◌, ℕ, ◌<◌, ◌≤◌, ◌^◌, ◌-◌, ◌==◌, Bool, true, false, List, [], ◌∷◌, ◌++◌, length, Some, Ok, codes, ℤ, refl, arith, ltb}
use Rattle.std.specs.List.{list_all, position_or_len}
use Rattle.std.specs.Fmt.{decimal, signed_decimal}
use Rattle.std.proofs.Math.Seq.{take-append_seam, drop-append-add}
use Rattle.std.proofs.lemmas.Bool.{lt-ltb}
use Rattle.std.proofs.lemmas.List.{length-append}
use Rattle.std.proofs.lemmas.List.Folds.{list_all-append}
use Rattle.std.proofs.lemmas.Grind.{common_steps}
use Rattle.rv64_decode.specs.declared.insn.BranchCondition.{BranchCondition}
use Rattle.rv64_asm.specs.declared.lexing.Operands.TheVariants.{Two, Three}
use Rattle.rv64_asm.specs.declared.statement.Target.TheVariants.{Address}
use Rattle.rv64_asm.specs.declared.statement.Statement.TheVariants.{Branch, Jump}
use Rattle.rv64_asm.specs.Lexing.{cut}
use Rattle.rv64_asm.specs.Statements.{three_registers, with_immediate, with_amount, with_place, with_upper, place_of, target_of, branch, jal}
use Rattle.rv64_asm.specs.Shown.{register_text, hex, place, IsImmediate}
use Rattle.rv64_asm.proofs.Plain.{IsPlain, plain, first_at}
use Rattle.rv64_asm.proofs.Numerals.{decimal_read, hex_read, immediate_read, natural_read, register_read, bare_signed, bare_reg, bare, plain_signed, plain_reg, immediate_small}

pub three_form : (d s t : ℕ) → d < 32 → s < 32 → t < 32 → three_registers (Three (register_text d) (register_text s) (register_text t)) ≡ Ok (d, s, t)
unfolding three_registers
three_form d s t h i j = rw (register_read d h, register_read s i, register_read t j) refl

pub immediate_form : (d s : ℕ) (z : ℤ) → d < 32 → s < 32 → IsImmediate z → with_immediate (Three (register_text d) (register_text s) (signed_decimal z)) ≡ Ok (d, s, z)
unfolding with_immediate
immediate_form d s z h i j = rw (register_read d h, register_read s i, immediate_read z j) refl

pub amount_form : (high d s n : ℕ) → d < 32 → s < 32 → n ≤ high → n < 64 → with_amount high (Three (register_text d) (register_text s) (decimal n)) ≡ Ok (d, s, n)
unfolding with_amount
amount_form high d s n h i j small = rw (register_read d h, register_read s i, natural_read high n (decimal n) (decimal_read n (omega arith)) j) refl

pub upper_form : (d n : ℕ) → d < 32 → n < 1048576 → with_upper (Two (register_text d) (hex n)) ≡ Ok (d, n)
unfolding with_upper
upper_form d n h i = rw (register_read d h, natural_read 1048575 n (hex n) (hex_read n (omega arith)) (omega arith)) refl

-- cut at a mark that does not stand before
pub cut_at : (p : ℕ → Bool) (mark : ℕ) (w more : List ℕ) → list_all p w ≡ true → ((b : ℕ) → p b ≡ true → (b == mark) ≡ false) → (mark == mark) ≡ true → cut mark (w ++ mark ∷ more) ≡ Some (w, more)
cut_at p mark w more h f same =
    let at : position_or_len (λ b. b == mark) (w ++ mark ∷ more) ≡ length w = first_at p (λ b. b == mark) f w mark more h same in
    let within : ltb (length w) (length (w ++ mark ∷ more)) ≡ true = lt-ltb (length w) (length (w ++ mark ∷ more)) (omega (arith, length-append w (mark ∷ more))) in
    rw (at, within, take-append_seam w (mark ∷ more), drop-append-add w (mark ∷ more) 1) refl

pub no_open : (b : ℕ) → bare b ≡ true → (b == 40) ≡ false
no_open b h = grind (arith, common_steps)

no_shut : (b : ℕ) → bare b ≡ true → (b == 41) ≡ false
no_shut b h = grind (arith, common_steps)

place_read : (z : ℤ) (r : ℕ) → IsImmediate z → r < 32 → place_of (place z r) ≡ Ok (r, z)
unfolding place_of
place_read z r h i =
    let outer : cut 40 (place z r) ≡ Some (signed_decimal z, register_text r ++ codes ")") = cut_at bare 40 (signed_decimal z) (register_text r ++ codes ")") (bare_signed z (immediate_small z h)) no_open refl in
    let within : cut 41 (register_text r ++ codes ")") ≡ Some (register_text r, []) = cut_at bare 41 (register_text r) [] (bare_reg r i) no_shut refl in
    rw (outer, within, register_read r i, immediate_read z h) refl

pub place_form : (d r : ℕ) (z : ℤ) → d < 32 → r < 32 → IsImmediate z → with_place (Two (register_text d) (place z r)) ≡ Ok (d, r, z)
unfolding with_place
place_form d r z h i j = rw (register_read d h, place_read z r j i) refl

target_read : (a : ℕ) → a < 2 ^ 64 → target_of (hex a) ≡ Ok (Address a)
unfolding target_of
target_read a h = rw (natural_read (2 ^ 64 - 1) a (hex a) (hex_read a h) (omega arith)) refl

pub branch_form : (condition : BranchCondition) (s t a : ℕ) → s < 32 → t < 32 → a < 2 ^ 64 → branch condition (Three (register_text s) (register_text t) (hex a)) ≡ Ok (Branch condition s t (Address a))
unfolding branch
branch_form condition s t a h i j = rw (register_read s h, register_read t i, target_read a j) refl

pub jal_form : (d a : ℕ) → d < 32 → a < 2 ^ 64 → jal (Two (register_text d) (hex a)) ≡ Ok (Jump d (Address a))
unfolding jal
jal_form d a h j = rw (register_read d h, target_read a j) refl

pub plain_place : (z : ℤ) (r : ℕ) → IsImmediate z → r < 32 → IsPlain (place z r)
plain_place z r h i =
    let a = plain_signed z (immediate_small z h) in
    let b = plain_reg r i in
    record {
      some = omega (arith, length-append (signed_decimal z) (codes "(" ++ (register_text r ++ codes ")")), a.some);
      bytes = rw (list_all-append plain (signed_decimal z) (codes "(" ++ (register_text r ++ codes ")")), a.bytes, list_all-append plain (register_text r) (codes ")"), b.bytes) refl;
    }

-- How contracts see what functions hold and return: bytes in place of references to them.
use Rattle.std.specs.Prelude.{◌≡◌, ℕ, ◌^◌, List, min, Option, option_map, Result, Ok, Err}
use denote.Ref.{Bor}
use Rattle.rv64_asm.specs.declared.fault.LineFault.{LineFault}
use Rattle.rv64_asm.specs.declared.lexing.Operands.{Operands}
use Rattle.rv64_asm.specs.declared.lexing.Operands.TheVariants.{Zero, One, Two, Three, More}
use Rattle.rv64_asm.specs.declared.statement.Target.{Target}
use Rattle.rv64_asm.specs.declared.statement.Target.TheVariants.{Label, Address}
use Rattle.rv64_asm.specs.declared.statement.Statement.{Statement}
use Rattle.rv64_asm.specs.declared.statement.Statement.TheVariants.{Enter, Give, Branch, Jump}

-- the operands behind their references
abbrev pub seen : Operands (Bor (List ℕ)) → Operands (List ℕ)
seen Zero = Zero
seen (One a) = One a.now
seen (Two a b) = Two a.now b.now
seen (Three a b c) = Three a.now b.now c.now
seen More = More

-- a target behind its reference
abbrev pub target_named : Target (Bor (List ℕ)) → Target (List ℕ)
target_named (Label n) = Label n.now
target_named (Address a) = Address a

-- a statement behind its reference
abbrev pub named : Statement (Bor (List ℕ)) → Statement (List ℕ)
named (Enter part) = Enter part
named (Give item) = Give item
named (Branch condition rs1 rs2 target) = Branch condition rs1 rs2 (target_named target)
named (Jump rd target) = Jump rd (target_named target)

-- what a function returned, seen by view, is what reading gives
abbrev pub Gives : {X Y : Type 0} → (X → Y) → Result X LineFault → Result Y LineFault → Type 0
Gives view (Ok x) read = read ≡ Ok (view x)
Gives view (Err e) read = read ≡ Err e

-- m is the magnitude n, or 2^65 where n is greater
abbrev pub IsClipped : Option ℕ → Option ℕ → Type 0
IsClipped m n = m ≡ option_map (λ k. min k (2 ^ 65)) n

-- A step over a register.
use Rattle.std.proofs.Common.{◌≡◌, ℕ, ◌+◌, ◌^◌, ◌<◌, List, [], ◌∷◌, ◌++◌, refl, sym, ap, ◌∙◌, append_assoc, arith}
use Rattle.checkpoint_file.specs.ContextLines.{HasRegisters}
use Rattle.checkpoint_file.specs.Contexts.{AreRegisters, register_lines}
use Rattle.checkpoint_file.specs.Lines.{register_line}

-- one more register before the others
pub one_more : (number value : ℕ) (bytes next rest : List ℕ) → number < 32 → value < 2 ^ 64 → bytes ≡ register_line number value ++ next
    → HasRegisters (number + 1) next rest → HasRegisters number bytes rest
one_more number value bytes next rest below fits e h = record {
  values = value ∷ h.values;
  registers = record { count = omega (arith, h.registers.count, below); words = (fits, h.registers.words) };
  parts = e ∙ ap (λ (t : List ℕ). register_line number value ++ t) h.parts ∙ sym (append_assoc (register_line number value) (register_lines (number + 1) h.values) rest);
}

-- what registers begin with
pub record BeginsWith (number : ℕ) (bytes rest : List ℕ) : Type 0 where
  pub value : ℕ
  pub fits : value < 2 ^ 64
  pub next : List ℕ
  pub parts : bytes ≡ register_line number value ++ next
  pub others : HasRegisters (number + 1) next rest

first_of : (number : ℕ) (bytes rest values : List ℕ) → number < 32 → AreRegisters number values
    → bytes ≡ register_lines number values ++ rest → BeginsWith number bytes rest
first_of number bytes rest [] below h e = absurd (omega (arith, h.count, below))
first_of number bytes rest (value ∷ values) below h e = record {
  value = value;
  fits = h.words.0;
  next = register_lines (number + 1) values ++ rest;
  parts = e ∙ append_assoc (register_line number value) (register_lines (number + 1) values) rest;
  others = record { values = values; registers = record { count = omega (arith, h.count); words = h.words.1 }; parts = refl };
}

pub first_register : (number : ℕ) (bytes rest : List ℕ) → number < 32 → HasRegisters number bytes rest → BeginsWith number bytes rest
first_register number bytes rest below h = first_of number bytes rest h.values below h.registers h.parts

-- after x31 there is none
pub no_registers : (bytes : List ℕ) → HasRegisters 32 bytes bytes
no_registers bytes = record { values = []; registers = record { count = refl; words = tt }; parts = refl }

none_of : (bytes rest values : List ℕ) → AreRegisters 32 values → bytes ≡ register_lines 32 values ++ rest → bytes ≡ rest
none_of bytes rest [] h e = e
none_of bytes rest (value ∷ values) h e = absurd (omega (arith, h.count))

pub at_end : (bytes rest : List ℕ) → HasRegisters 32 bytes rest → bytes ≡ rest
at_end bytes rest h = none_of bytes rest h.values h.registers h.parts

-- so far: the same rests follow the registers from here on as from the start
pub record Goes (bytes : List ℕ) (number : ℕ) (here : List ℕ) : Type 0 where
  pub back : (rest : List ℕ) → HasRegisters number here rest → HasRegisters 1 bytes rest
  pub on : (rest : List ℕ) → HasRegisters 1 bytes rest → HasRegisters number here rest

pub carried : (number : ℕ) (here there rest : List ℕ) → here ≡ there → HasRegisters number there rest → HasRegisters number here rest
carried number here there rest e h = rw e h

pub last : (number : ℕ) (here rest : List ℕ) → number ≡ 32 → HasRegisters number here rest → here ≡ rest
last number here rest e h = at_end here rest (rw e at h)

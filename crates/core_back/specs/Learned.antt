-- What a guess learns as entries retire, and which entries are left.
use Rattle.std.specs.Prelude.{◌≡◌, ℕ, ◌<◌, List, ◌++◌, length}
use Rattle.rv64_decode.specs.declared.insn.Insn.{Insn}
use Rattle.core_view.specs.declared.note.EntryId.{EntryId}
use Rattle.core_view.specs.View.{Context, entry_at}
use Rattle.lawful_cycle.specs.Steps.{GoesBy, IsLearnedAt, OfNamed}
use Rattle.core_back.specs.Machine.{Machine, context_at}

-- each entry of x is one of y
abbrev pub IsPartOf : Context → Context → Type 0
IsPartOf x y = (i : ℕ) → i < length x.flight → (j : ℕ) × (j < length y.flight) × (entry_at x i ≡ entry_at y j)

-- from m to n entries left the flights, those listed anew retired, and the guess learned of each
pub record HasLearned {S : Type 0} (learned : S → ℕ → ℕ → Insn → ℕ → S) (m n : Machine) (old new : List EntryId) (s t : S) : Type 0 where
  pub more : List EntryId
  pub listed : new ≡ old ++ more
  pub learns : GoesBy (OfNamed (IsLearnedAt learned) m.view) more s t
  pub left : (c : ℕ) → IsPartOf (context_at n c) (context_at m c)

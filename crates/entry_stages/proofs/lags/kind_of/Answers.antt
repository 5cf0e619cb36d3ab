use Rattle.std.proofs.Common.{◌≡◌, ap, sym, refl, inl, inr, ◌∙◌}
use Rattle.rv64_decode.specs.declared.insn.Insn.{Insn}
use Rattle.rv64_decode.specs.declared.insn.Insn.TheVariants as insn
use Rattle.data_tags.specs.declared.delay.Kind.{Kind}
use Rattle.data_tags.specs.declared.delay.Kind.TheVariants as told
use Rattle.core_view.specs.declared.decoded.OperationKind.{OperationKind}
use Rattle.core_view.specs.declared.decoded.OperationKind.TheVariants.{Plain, Jump, Guessed, Load, Store, Stop}
use Rattle.core_view.specs.declared.operation.Operation.{Operation}
use Rattle.core_view.specs.declared.operation.Operation.TheVariants.{Performs, Stops}
use Rattle.core_view.specs.Kinds as kinds
use Rattle.lawful_cycle.specs.Delays.{kind_of, kind_of_insn}
use Rattle.entry_stages.proofs.lags.kind_of.Goals as goal

abbrev told_of : OperationKind → Kind
told_of Plain = told.Alu
told_of Jump = told.Branch
told_of Guessed = told.Branch
told_of Load = told.Load
told_of Store = told.Store
told_of Stop = told.Alu

told-of_insn : (i : Insn) → told_of (kinds.kind_of_insn i) ≡ kind_of_insn i
told-of_insn (insn.Jal rd offset) = refl
told-of_insn (insn.Jalr rd rs1 immediate) = refl
told-of_insn (insn.Branch condition rs1 rs2 offset) = refl
told-of_insn (insn.Load width rd rs1 immediate) = refl
told-of_insn (insn.Store width rs1 rs2 immediate) = refl
told-of_insn i = refl

told-of : (o : Operation) → told_of (kinds.kind_of o) ≡ kind_of o
told-of (Performs i) = told-of_insn i
told-of (Stops why) = refl

pub returns-in-Jump : goal.returns-in-Jump
returns-in-Jump c = elim c.in-Jump.is [
  | inl jump ↦ ap told_of (sym jump ∙ c.kind.ensures) ∙ told-of c.args.operation.now
  | inr guessed ↦ ap told_of (sym guessed ∙ c.kind.ensures) ∙ told-of c.args.operation.now
]

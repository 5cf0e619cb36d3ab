-- Whether an entry has to wait for an older store, by what it does and what the queue answers.
use Rattle.std.proofs.Common.{◌≡◌, ℕ, Bool, true, false, List, take, refl, sym, ap, ◌∙◌}
use Rattle.std.specs.Prelude.{not, is_some}
use Rattle.rv64_decode.specs.declared.insn.Insn.{Insn}
use Rattle.rv64_decode.specs.declared.insn.LoadKind.{LoadKind}
use Rattle.hart_step.specs.declared.effect.Effect.TheVariants as effect
use Rattle.hart_step.specs.Effects.{effect_of}
use Rattle.hart_step.specs.Values.{load_bytes}
use Rattle.core_view.specs.declared.span.Span.{Span}
use Rattle.core_view.specs.declared.operation.Operation.{Operation}
use Rattle.core_view.specs.declared.operation.Operation.TheVariants.{Performs}
use Rattle.core_view.specs.declared.entry.Entry.{Entry}
use Rattle.core_view.specs.Loads.{is_clear, may_issue}
use Rattle.core_view.specs.Operations.{is_load}
use Rattle.core_view.specs.Outcomes.{load_span}
use Rattle.core_view.specs.View.{Context, entry_at}
use Rattle.lawful_cycle.specs.Issue.{is_clear_on}
use Rattle.load_store_queue.specs.declared.answer.LoadAnswer.{LoadAnswer}
use Rattle.load_store_queue.specs.Answered.{number_answered}
use Rattle.core_context.specs.Issuable.{may_issue_at}
use Rattle.core_context.proofs.HeldLoads.{plain_may}

twice : (b : Bool) → b ≡ not (not b)
twice true = refl
twice false = refl

-- what isn't a load doesn't wait
pub other_goes : (x : Context) (i a b : ℕ) (o : Operation) → (entry_at x i).operation ≡ o → is_load o ≡ false → false ≡ not (may_issue_at x i a b)
other_goes x i a b o is other = ap not (sym (plain_may (take i x.flight) (entry_at x i).operation (entry_at x i).pc a b (ap is_load is ∙ other)))

-- a load asks whether it is clear at its address
load_asks : (es : List Entry) (o : Operation) (insn : Insn) (pc a b address : ℕ) (kind : LoadKind) → o ≡ Performs insn → effect_of insn pc a b ≡ effect.Loads kind address → is_clear_on es o pc a b ≡ may_issue es (effect.Loads kind address)
load_asks es o insn pc a b address kind is does = ap (λ (q : Operation). is_clear_on es q pc a b) is ∙ ap (may_issue es) does

-- so it waits where it isn't answered
pub load_waits : (x : Context) (i a b address : ℕ) (insn : Insn) (kind : LoadKind) (span : Span) (answer : LoadAnswer) (waits : Bool) → (entry_at x i).operation ≡ Performs insn → effect_of insn (entry_at x i).pc a b ≡ effect.Loads kind address
    → span ≡ load_span address (load_bytes kind) → is_some (number_answered answer) ≡ is_clear (take i x.flight) span → is_some (number_answered answer) ≡ not waits → waits ≡ not (may_issue_at x i a b)
load_waits x i a b address insn kind span answer waits is does asked answered waited =
    let es = take i x.flight in
    twice waits ∙ ap not (sym waited ∙ answered ∙ ap (is_clear es) asked ∙ sym (load_asks es (entry_at x i).operation insn (entry_at x i).pc a b address kind is does))

-- and is clear where its entry may issue
pub load_clear : (es : List Entry) (o : Operation) (insn : Insn) (pc a b address : ℕ) (kind : LoadKind) → o ≡ Performs insn → effect_of insn pc a b ≡ effect.Loads kind address → is_clear_on es o pc a b ≡ true → may_issue es (effect.Loads kind address) ≡ true
load_clear es o insn pc a b address kind is does clear = sym (load_asks es o insn pc a b address kind is does) ∙ clear

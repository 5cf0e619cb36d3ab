use Rattle.std.proofs.Common.{◌≡◌, List, ◌∷◌, sym, subst}
use Rattle.std.specs.List.Sorted.{IsStrictlySortedBy}
use Rattle.std.specs.Map.{keys_of}
use Rattle.std.specs.String.{string_cmp}
use Rattle.toml.proofs.Views.{Entry}
use Rattle.toml.specs.View.{members_view, table_view}
use Rattle.lab_plan.proofs.ProgramOrder.{further_on, more_assemble, sorted_rest}
use Rattle.lab_plan.proofs.Refused.{refused_program}
use Rattle.lab_plan.specs.Programs.{AllAssemble, IsFirstProgramFault}
use Rattle.lab_plan.proofs.programs.assemble_each.Goals as goal

pub returns-in-Err-clause-err : goal.returns-in-Err-clause-err
returns-in-Err-clause-err c =
    let e : Entry = (c.in-Some.name.now, c.in-Some.value.now) in
    let entries : c.loop-name.name-iterator ≡ e ∷ c.next.new.self = c.in-Some.ensures.steps in
    let sorted = subst (λ (es : List Entry). IsStrictlySortedBy string_cmp (keys_of es)) entries c.loop-name.invariant.sorted in
    refused_program e c.next.new.self (table_view c.args.programs.now) c.as_str.result.now c.in-Err.fault sorted c.as_str.ensures.value
    (λ n fault line h. c.loop-name.invariant.first n fault line (subst (λ (es : List Entry). IsFirstProgramFault (members_view es) n fault line) (sym entries) h)) c.in-Err.ensures.err

pub loop-name-preserved : goal.loop-name-preserved
loop-name-preserved c =
    let e : Entry = (c.in-Some.name.now, c.in-Some.value.now) in
    let es : List Entry = c.next.new.self in
    let entries : c.loop-name.name-iterator ≡ e ∷ es = c.in-Some.ensures.steps in
    let sorted = subst (λ (es : List Entry). IsStrictlySortedBy string_cmp (keys_of es)) entries c.loop-name.invariant.sorted in
    record {
      sorted = sorted_rest e es sorted;
      all = λ more. c.loop-name.invariant.all (subst (λ (es : List Entry). AllAssemble (members_view es)) (sym entries) (more_assemble e es c.in_default.ensures.ok more));
      first = λ n fault line h. c.loop-name.invariant.first n fault line (subst (λ (es : List Entry). IsFirstProgramFault (members_view es) n fault line) (sym entries) (further_on e es n fault line sorted c.in_default.ensures.ok h));
    }

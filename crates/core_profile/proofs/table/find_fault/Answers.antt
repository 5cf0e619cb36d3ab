use Rattle.std.proofs.Common.{◌≡◌, ℕ, List, [], ◌∷◌, Some, sym, ap, ◌∙◌}
use Rattle.toml.proofs.Views.{Entry}
use Rattle.toml.specs.View.{members_view, table_view}
use Rattle.core_profile.specs.Refusals.{unknown_key, wrong_at}
use Rattle.core_profile.specs.Tables.{key_named}
use Rattle.core_profile.proofs.FirstFault.{first_met, met_unknown, met_wrong, none_met, one_met}
use Rattle.core_profile.proofs.table.find_fault.Goals as goal

pub returns-in_default : goal.returns-in_default
returns-in_default g c =
    let e : Entry = (c.in-Some.name.now, c.in-Some.value.now) in
    let entries : c.loop-name.name-iterator ≡ e ∷ c.next.new.self = c.in-Some.ensures.steps in
    let name : List ℕ = c.as_str-in_default.result.now in
    let same : c.as_str.result.now ≡ name = c.as_str.ensures.value ∙ sym c.as_str-in_default.ensures.value in
    let met : first_met (members_view c.args.table.now.entries) ≡ Some (unknown_key name) =
    sym c.loop-name.invariant ∙ ap (λ (es : List Entry). first_met (members_view es)) entries ∙ met_unknown e c.next.new.self name c.as_str-in_default.ensures.value (ap key_named (sym same) ∙ sym c.from_name.ensures ∙ c.in_default.is) in
    (unknown_key name, one_met c.args.table.now.entries (unknown_key name) c.into_iter-name-iterator.ensures.into_iter_gives.5 met, c.unknown_key.ensures)

pub returns-in-Some-wrong_at : goal.returns-in-Some-wrong_at
returns-in-Some-wrong_at g c =
    let e : Entry = (c.in-Some.name.now, c.in-Some.value.now) in
    let entries : c.loop-name.name-iterator ≡ e ∷ c.next.new.self = c.in-Some.ensures.steps in
    let fault = wrong_at c.in-Some-from_name.key c.in-Some-wrong_at.wrong in
    let met : first_met (members_view c.args.table.now.entries) ≡ Some fault =
    sym c.loop-name.invariant ∙ ap (λ (es : List Entry). first_met (members_view es)) entries
    ∙ met_wrong e c.next.new.self c.as_str.result.now c.in-Some-from_name.key c.in-Some-wrong_at.wrong c.as_str.ensures.value (sym c.from_name.ensures ∙ c.in-Some-from_name.is) (sym c.wrong_at.ensures ∙ c.in-Some-wrong_at.is) in
    (fault, one_met c.args.table.now.entries fault c.into_iter-name-iterator.ensures.into_iter_gives.5 met, c.fault_at.ensures)

pub returns : goal.returns
returns g c =
    let entries : c.loop-name.name-iterator ≡ [] = c.in-None.ensures.steps.0 in
    none_met (table_view c.args.table.now) (sym c.loop-name.invariant ∙ ap (λ (es : List Entry). first_met (members_view es)) entries)

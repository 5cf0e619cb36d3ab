use Rattle.std.proofs.Common.{ap, get_or, ◌≡◌, ◌∙◌, sym, arith, inl, inr}
use Rattle.std.proofs.lemmas.Bool.{cases_lt}
use Rattle.std.proofs.lemmas.List.{length-set}
use Rattle.std.specs.Prelude.{not, ◌==◌}
use Rattle.rename_file.specs.Shown.{shown}
use Rattle.rename_file.proofs.Uses.{newest_free}
use Rattle.rename_file.proofs.Files.{newest_above}
use Rattle.rename_file.proofs.FoundContext.{found, renamed_file, renamed_undoable}
use Rattle.rename_file.proofs.Destinations.{in_cells, named_is, mapped_zero, own_found, same_banks, same_undoable}
use Rattle.rename_file.proofs.registers.Registers.rename_destination.Goals as goal

pub mark-requires-clause-known : goal.mark-requires-clause-known
mark-requires-clause-known g c =
    omega (arith, in_cells (shown c.self.inside) c.args.context c.args.rd c.take_for-register.result c.self.invariant.file (omega arith) c.take_for-register.ensures.newest c.take_for-register.ensures.zero, c.index.ensures.value)

pub push-previous-requires-clause-zero : goal.push-previous-requires-clause-zero
push-previous-requires-clause-zero g c = λ none.
    let f = shown c.self.inside in
    let old = get_or c.self.inside.maps c.index-2.result c.index-self-index.result in
    let at = found f c.args.context c.index-2.result old c.index-2.ensures.value (omega arith) (ap (get_or c.self.inside.maps c.index-2.result) c.index-self-index.is) in
    c.take_for-register.ensures.zero none ∙ own_found f c.args.context c.index-2.result old c.self.invariant.file at

pub invariant_of-self : goal.invariant_of-self
invariant_of-self g c =
    let f = shown c.self.inside in
    let p = c.take_for-register.result in
    let old = get_or c.self.inside.maps c.index-2.result c.index-self-index.result in
    let at = found f c.args.context c.index-2.result old c.index-2.ensures.value (omega arith) (ap (get_or c.self.inside.maps c.index-2.result) c.index-self-index.is) in
    elim (cases_lt 0 c.args.rd) [
      | inl some ↦
          let taken = c.take_for-register.ensures.newest some in
          let cells = c.mark.ensures.busy (named_is c.args.rd some) in
          rw (c.take_for-register.ensures.rest some, cells, c.index.ensures.value) (record {
            file = renamed_file f c.args.context c.index-2.result c.args.rd p old c.push-previous.new.self c.self.invariant.file at some c.requires.narrow taken (c.push-previous.ensures.named some);
            room = rw length-set c.self.invariant.room;
            undoable = renamed_undoable c.self.inside.previous f c.args.context c.index-2.result c.index-3.result c.args.rd p c.push-previous.result old c.push-previous.new.self c.self.invariant.file at c.self.invariant.room (omega arith) taken (c.push-previous.ensures.named some) c.push-previous.ensures.previous c.index-3.ensures.value c.self.invariant.undoable;
          })
      | inr le ↦
          let none : c.args.rd ≡ 0 = omega (arith, le) in
          let cells = c.mark.ensures.valued (ap (λ rd. not (rd == 0)) none) in
          let banks = same_banks f c.args.context c.index-2.result old c.push-previous.new.self c.self.invariant.file at (c.push-previous.ensures.zero none) in
          rw (c.take_for-register.ensures.same none, cells, banks) (record {
            file = c.self.invariant.file;
            room = c.self.invariant.room;
            undoable = same_undoable c.self.inside.previous f c.index-3.result c.push-previous.result c.self.invariant.file (omega (arith, c.index-3.ensures.value, c.take_for-register.ensures.zero none)) c.self.invariant.undoable;
          })
    ]

pub returns-clause-zero : goal.returns-clause-zero
returns-clause-zero g c = λ none. c.take_for-register.ensures.zero none ∙ rw (← c.self.view_is) (sym (mapped_zero (shown c.self.inside) c.args.context c.self.invariant.file (omega arith)))

pub returns-clause-bound : goal.returns-clause-bound
returns-clause-bound g c = λ some.
    let taken = c.take_for-register.ensures.newest some in
    rw (← c.self.view_is) (newest_above (shown c.self.inside) c.take_for-register.result taken c.self.invariant.file, newest_free (shown c.self.inside) c.take_for-register.result c.self.invariant.file taken)

pub returns-clause-file : goal.returns-clause-file
returns-clause-file g c = (invariant_of-self g c).file

pub returns-clause-taken : goal.returns-clause-taken
returns-clause-taken g c = λ some. rw (← c.self.view_is) (c.take_for-register.ensures.newest some)

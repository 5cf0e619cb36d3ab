use Rattle.std.proofs.Common.{◌≡◌, ℕ, List, Option, length, take, Ok, Err, refl, sym, ap, ◌∙◌, arith}
use Rattle.std.specs.Str.Lines.{lines}
use Rattle.std.proofs.lemmas.List.{length_push}
use Rattle.std.proofs.Math.Seq.{take-length}
use Rattle.std.proofs.lemmas.Iterator.Splits.{YieldsList-from_lines}
use Rattle.std.proofs.lemmas.Iterator.Consumers.{YieldsList-turn, YieldsList-end}
use Rattle.rv64_asm.specs.Statements.{label_of}
use Rattle.rv64_asm.specs.Places.{Layout, behind, next_place, with_label, address}
use Rattle.rv64_asm.proofs.LayoutOfOneMore.{next_is, behind_more, stand_more, lowest, stepped, no_fault, a_fault}
use Rattle.rv64_asm.proofs.layout.lay_out.Goals as goal

pub loop-line-init : goal.loop-line-init
loop-line-init g c = record {
  number = refl;
  within = c.start-place.ensures.within;
  laid = rw (c.start-place.ensures.same, c.new-labels.ensures) refl;
  stand = λ k below. absurd (omega arith);
}

pub loop-line-preserved : goal.loop-line-preserved
loop-line-preserved g c =
    let road = YieldsList-from_lines {s = c.into_iter-line-iterator.result} c.args.text.now (rw c.into_iter-line-iterator.ensures.into_iter_gives c.lines-line-items.ensures.rest) in
    let t = YieldsList-turn road c.loop-line.yielded c.loop-line.line-iterator c.loop-line.yielded_by c.next.result c.next.new.self c.in-Some.line c.in-Some.is c.next.ensures.steps in
    let n = c.loop-line.invariant.number in
    let all = lines c.args.text.now in
    let x = c.in-Some.line.now in
    let s : Layout = record { place = c.loop-line.place; labels = c.loop-line.labels } in
    let split = rw c.as_bytes.ensures.value at c.split_line.ensures in
    let e : next_place s x ≡ Ok c.in-Ok.next = next_is s x _ _ (Ok c.in-Ok.next) split c.in-Ok.ensures.next in
    let f : c.add_label.new.labels ≡ with_label s.labels (address s.place) (label_of x) = rw (ap (λ (p : Option (List ℕ) × List ℕ). p.0) split) at c.in_ok-add_label-in-Ok.ensures in
    record {
      number = omega (arith, length_push c.loop-line.yielded c.in-Some.line);
      within = c.in-Ok.ensures.within;
      laid = behind_more all c.loop-line.number x (rw n t.0) (rw n t.1) s (record { place = c.in-Ok.next; labels = c.add_label.new.labels }) c.loop-line.invariant.laid (stepped s x c.in-Ok.next c.add_label.new.labels e f);
      stand = stand_more all c.loop-line.number x (rw n t.0) (rw n t.1) s c.loop-line.invariant.laid c.loop-line.invariant.stand (no_fault s x c.in-Ok.next e);
    }

pub returns-in-Err-clause-refused : goal.returns-in-Err-clause-refused
returns-in-Err-clause-refused g c =
    let road = YieldsList-from_lines {s = c.into_iter-line-iterator.result} c.args.text.now (rw c.into_iter-line-iterator.ensures.into_iter_gives c.lines-line-items.ensures.rest) in
    let t = YieldsList-turn road c.loop-line.yielded c.loop-line.line-iterator c.loop-line.yielded_by c.next.result c.next.new.self c.in-Some.line c.in-Some.is c.next.ensures.steps in
    let n = c.loop-line.invariant.number in
    let x = c.in-Some.line.now in
    let s : Layout = record { place = c.loop-line.place; labels = c.loop-line.labels } in
    let split = rw c.as_bytes.ensures.value at c.split_line.ensures in
    let e : next_place s x ≡ Err c.in-Err.fault = next_is s x _ _ (Err c.in-Err.fault) split c.in-Err.ensures.next in
    (c.loop-line.number, refl, lowest (lines c.args.text.now) c.loop-line.number x (rw n t.0) (rw n t.1) s c.loop-line.invariant.laid c.loop-line.invariant.stand c.in-Err.fault (a_fault s x c.in-Err.fault e))

pub returns-clause-stand : goal.returns-clause-stand
returns-clause-stand g c =
    let road = YieldsList-from_lines {s = c.into_iter-line-iterator.result} c.args.text.now (rw c.into_iter-line-iterator.ensures.into_iter_gives c.lines-line-items.ensures.rest) in
    let ended = YieldsList-end road c.loop-line.yielded c.loop-line.line-iterator c.loop-line.yielded_by c.next.result c.next.new.self c.in-None.is c.next.ensures.steps in
    let n : c.loop-line.number ≡ length (lines c.args.text.now) = c.loop-line.invariant.number ∙ ended.1 in
    rw (← n) c.loop-line.invariant.stand

pub returns-clause-labels : goal.returns-clause-labels
returns-clause-labels g c =
    let road = YieldsList-from_lines {s = c.into_iter-line-iterator.result} c.args.text.now (rw c.into_iter-line-iterator.ensures.into_iter_gives c.lines-line-items.ensures.rest) in
    let ended = YieldsList-end road c.loop-line.yielded c.loop-line.line-iterator c.loop-line.yielded_by c.next.result c.next.new.self c.in-None.is c.next.ensures.steps in
    let all = lines c.args.text.now in
    let n : c.loop-line.number ≡ length all = c.loop-line.invariant.number ∙ ended.1 in
    let whole : take c.loop-line.number all ≡ all = rw n (take-length all) in
    ap (λ (s : Layout). s.labels) (sym c.loop-line.invariant.laid ∙ ap behind whole)

use Rattle.std.proofs.Common.{◌≡◌, ℕ, List, length, take, Ok, Err, refl, sym, ap, ◌∙◌, arith}
use Rattle.std.specs.Str.Lines.{lines}
use Rattle.std.proofs.lemmas.List.{length_push}
use Rattle.std.proofs.Math.Seq.{take-length}
use Rattle.std.proofs.lemmas.Iterator.Splits.{YieldsList-from_lines}
use Rattle.std.proofs.lemmas.Iterator.Consumers.{YieldsList-turn, YieldsList-end}
use Rattle.rv64_asm.specs.Places.{behind}
use Rattle.rv64_asm.specs.Passes.{emit}
use Rattle.rv64_asm.proofs.WritingOfOneMore.{turned, fault_here}
use Rattle.rv64_asm.proofs.writing.write_lines.Goals as goal

pub loop-line-preserved : goal.loop-line-preserved
loop-line-preserved g c =
    let road = YieldsList-from_lines {s = c.into_iter-line-iterator.result} c.args.text.now (rw c.into_iter-line-iterator.ensures.into_iter_gives c.lines-line-items.ensures.rest) in
    let t = YieldsList-turn road c.loop-line.yielded c.loop-line.line-iterator c.loop-line.yielded_by c.next.result c.next.new.self c.in-Some.line c.in-Some.is c.next.ensures.steps in
    let n = c.loop-line.invariant.number in
    let e : emit c.loop-line.place c.args.labels.now c.in-Some.line.now ≡ Ok (c.in-Ok.next, c.in-Ok.item) = sym (rw c.as_bytes.ensures.value at c.in-Ok.ensures.given) in
    let u = turned (lines c.args.text.now) c.loop-line.number c.in-Some.line.now (rw n t.0) (rw n t.1) c.requires.stand c.args.labels.now c.loop-line.place c.loop-line.invariant.placed c.loop-line.words.items c.loop-line.bytes.items c.write.new.words.items c.write.new.bytes.items c.in-Ok.next c.in-Ok.item c.loop-line.invariant.word_count c.loop-line.invariant.byte_count c.loop-line.invariant.written e c.in_ok-write-in-Ok.ensures in
    record {
      number = omega (arith, length_push c.loop-line.yielded c.in-Some.line);
      within = c.in-Ok.ensures.within;
      placed = u.placed;
      word_count = u.word_count;
      byte_count = u.byte_count;
      written = u.written;
    }

pub returns-in-Err-clause-refused : goal.returns-in-Err-clause-refused
returns-in-Err-clause-refused g c =
    let road = YieldsList-from_lines {s = c.into_iter-line-iterator.result} c.args.text.now (rw c.into_iter-line-iterator.ensures.into_iter_gives c.lines-line-items.ensures.rest) in
    let t = YieldsList-turn road c.loop-line.yielded c.loop-line.line-iterator c.loop-line.yielded_by c.next.result c.next.new.self c.in-Some.line c.in-Some.is c.next.ensures.steps in
    let n = c.loop-line.invariant.number in
    let e : emit c.loop-line.place c.args.labels.now c.in-Some.line.now ≡ Err c.in-Err.fault = sym (rw c.as_bytes.ensures.value at c.in-Err.ensures.given) in
    (c.loop-line.number, refl, fault_here (lines c.args.text.now) c.loop-line.number c.in-Some.line.now (rw n t.0) (rw n t.1) c.requires.stand c.args.labels.now c.loop-line.place c.loop-line.invariant.placed c.loop-line.words.items c.loop-line.bytes.items c.in-Err.fault c.loop-line.invariant.written c.requires.labels e)

pub returns-clause-program : goal.returns-clause-program
returns-clause-program g c =
    let road = YieldsList-from_lines {s = c.into_iter-line-iterator.result} c.args.text.now (rw c.into_iter-line-iterator.ensures.into_iter_gives c.lines-line-items.ensures.rest) in
    let ended = YieldsList-end road c.loop-line.yielded c.loop-line.line-iterator c.loop-line.yielded_by c.next.result c.next.new.self c.in-None.is c.next.ensures.steps in
    let all = lines c.args.text.now in
    let n : c.loop-line.number ≡ length all = c.loop-line.invariant.number ∙ ended.1 in
    let whole : take c.loop-line.number all ≡ all = rw n (take-length all) in
    let placed : c.loop-line.place ≡ (behind all).place = sym c.loop-line.invariant.placed ∙ ap (λ (x : List (List ℕ)). (behind x).place) whole in
    record {
      written = rw (← n, c.new.ensures.words, c.new.ensures.bytes) c.loop-line.invariant.written;
      word_count = rw (c.new.ensures.words, ← placed) c.loop-line.invariant.word_count;
      byte_count = rw (c.new.ensures.bytes, ← placed) c.loop-line.invariant.byte_count;
    }

pub returns-clause-limits : goal.returns-clause-limits
returns-clause-limits g c =
    let within = c.loop-line.invariant.within in (
      omega (arith, ap length c.new.ensures.words, c.loop-line.invariant.word_count, within.0),
      omega (arith, ap length c.new.ensures.bytes, c.loop-line.invariant.byte_count, within.1),
    )

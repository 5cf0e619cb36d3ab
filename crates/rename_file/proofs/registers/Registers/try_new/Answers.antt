use Rattle.std.proofs.Common.{rules, ◌≡◌, ℕ, Option, ◌+◌, Some, length, replicate, arith}
use Rattle.std.proofs.lemmas.List.{length_push, length-replicate}
use Rattle.rename_file.proofs.Starts.{first_file, first_undoable, row_more}
use Rattle.rename_file.proofs.registers.Registers.try_new.Goals as goal

pub loop-number-preserved : goal.loop-number-preserved
loop-number-preserved g c =
    rw c.push.ensures (record {
      len = omega (arith, length_push c.loop-number.free c.at.result, c.loop-number.invariant.len);
      row = row_more c.loop-number.free c.at.result 256 c.loop-number.invariant.row (omega (arith, c.at.ensures));
    })

pub invariant_of-result : goal.invariant_of-result
invariant_of-result g c =
    let cells : c.in_ok-cells.cells ≡ replicate (256 + c.args.extra) (Some 0) = search rules in
    let len : length c.loop-number.free ≡ c.args.extra = omega arith in
    record {
      file = first_file c.args.extra c.first_maps-maps.result c.loop-number.free c.in_ok-cells.cells cells c.first_maps-maps.ensures.eight c.first_maps-maps.ensures.first len c.loop-number.invariant.row;
      undoable = first_undoable c.first_maps-maps.result (replicate 480 c.default.result) c.first_maps-maps.ensures.first;
      room = rw cells (omega (arith, length-replicate {A = Option ℕ} (256 + c.args.extra) (Some 0)));
    }

pub returns : goal.returns
returns g c = record {
  cells = search rules;
  free = omega arith;
  renames = λ k lt. (c.first_maps-maps.ensures.first k lt).renames;
  file = (invariant_of-result g c).file;
}

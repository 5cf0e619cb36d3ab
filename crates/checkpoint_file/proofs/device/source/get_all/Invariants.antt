use Rattle.std.proofs.Common.{◌≡◌, ◌≤◌, ◌-◌, false, vec_len}
use Rattle.std.specs.Io.KnownBytes.{Consumes}
use Rattle.checkpoint_file.specs.declared.device.source.TheConstants.{LIMIT}
use Rattle.checkpoint_file.proofs.device.source.get_all.Given as goal

abbrev pub invariant-loop-bytes : goal.invariant-loop-bytes
invariant-loop-bytes g l =
    record {
      within : vec_len l.bytes ≤ LIMIT;
      read : Consumes (g.R.Source.remaining l.fn.device) (g.R.Source.remaining l.device) l.bytes.items;
      works : g.R.Source.has_failed l.device ≡ false;
      name : g.R.Source.name_of l.device ≡ g.R.Source.name_of l.fn.device;
    }

abbrev pub decreases-loop-bytes : goal.decreases-loop-bytes
decreases-loop-bytes g l = LIMIT - vec_len l.bytes

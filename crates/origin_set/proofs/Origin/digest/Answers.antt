use Rattle.std.proofs.Common.{[], ap, ◌∙◌}
use Rattle.sha2.specs.Sha256.{sha256}
use Rattle.origin_set.specs.OriginBytes.{program_bytes}
use Rattle.origin_set.proofs.Joined.{nine_pieces}
use Rattle.origin_set.proofs.Origin.digest.Goals as goal

pub returns : goal.returns
returns g c =
    let p = c.self.inside.programs in
    let held = c.hash_program-8.ensures _ (c.hash_program-7.ensures _ (c.hash_program-6.ensures _ (c.hash_program-5.ensures _ (c.hash_program-4.ensures _ (c.hash_program-3.ensures _ (c.hash_program-2.ensures _ (c.hash_program.ensures _ (c.update.ensures [] c.new-hasher.ensures)))))))) in
    let pieces = nine_pieces c.number.result (program_bytes p.c0) (program_bytes p.c1) (program_bytes p.c2) (program_bytes p.c3) (program_bytes p.c4) (program_bytes p.c5) (program_bytes p.c6) (program_bytes p.c7) in
    rw (← c.self.view_is, ← c.number.ensures) (c.finalize.ensures _ held ∙ ap sha256 pieces)

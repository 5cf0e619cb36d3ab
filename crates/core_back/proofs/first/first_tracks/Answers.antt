use Rattle.std.proofs.Common.{rules, arith, ◌≡◌, ◌++◌, ◌∷◌, []}
use Rattle.core_back.proofs.FirstMachine.{first_tracks_more}
use Rattle.core_back.proofs.MachineIssues.{numbered}
use Rattle.core_back.proofs.first.first_tracks.Goals as goal

pub loop-number-preserved : goal.loop-number-preserved
loop-number-preserved g c =
    let number : c.unwrap-context.result ≡ c.loop-number.number = numbered c.new.result c.unwrap-context.result c.loop-number.number c.new.ensures.value c.unwrap-context.ensures in
    let pushed : c.push.new.self.items ≡ c.loop-number.tracks.items ++ c.in_ok-track.track ∷ [] = search rules in
    first_tracks_more c.args.profile.now c.args.marks.now c.args.targets.now c.loop-number.number c.unwrap-context.result c.loop-number.tracks.items c.push.new.self.items c.place-mark.result.now c.in_ok-track.track
    c.loop-number.invariant number c.place-mark.ensures c.in_ok-track.ensures pushed

-- the bound of the number is told by the loop: a search for it goes through all that the marks are known to be

pub bounds-targets-number : goal.bounds-targets-number
bounds-targets-number g c = c.loop-number-test.true

pub first_track-requires : goal.first_track-requires
first_track-requires g c = record { target = (c.requires.targets c.loop-number.number c.loop-number-test.true).below }

pub offset_bounds-targets-number : goal.offset_bounds-targets-number
offset_bounds-targets-number g c = let below = c.loop-number-test.true in omega (arith, below)

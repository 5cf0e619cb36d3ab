-- How full front lists are, beside the tracks.
use Rattle.std.specs.Prelude.{◌≡◌, ℕ, ◌<◌, List, length, get_or}
use Rattle.core_context.specs.FrontLists.{front_fill}
use Rattle.core_context.specs.Track.{Track}
use Rattle.core_back.specs.Machine.{no_track}

-- how full the front list of each of eight tracks is
pub record AreFills (fills : List ℕ) (ts : List Track) : Type 0 where
  pub eight : length fills ≡ 8
  pub each : (c : ℕ) → c < 8 → get_or fills c 0 ≡ front_fill (get_or ts c no_track).context

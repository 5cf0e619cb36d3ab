-- What the map of a context in memory stands for.
use Rattle.std.specs.Prelude.{◌≡◌}
use Rattle.rename_file.specs.declared.rename_map.RenameMap.TheInside.{Inside}
use Rattle.rename_file.specs.File.{Bank, map_past}

abbrev pub shown_bank : Inside → Bank
shown_bank m = record { committed = m.committed; renames = m.renames }

-- the current map is the committed one past the renames
abbrev pub IsTracked : Inside → Type 0
IsTracked m = m.current ≡ map_past m.committed m.renames

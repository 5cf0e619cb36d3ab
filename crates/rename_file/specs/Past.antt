-- The renames that changes leave.
use Rattle.std.specs.Prelude.{List, [], ◌∷◌, ◌++◌, ◌-◌, length, take, drop}
use Rattle.rename_file.specs.declared.rename_map.Rename.{Rename}
use Rattle.rename_file.specs.declared.renames.Past.{Past, Nothing, Renamed', Committed', Undone'}

abbrev pub left_by : Past → List Rename
left_by Nothing = []
left_by (Renamed' marker before rename) = left_by before ++ rename ∷ []
left_by (Committed' marker before) = drop 1 (left_by before)
left_by (Undone' marker before) = let ns = left_by before in take (length ns - 1) ns

-- What an iterator over labels has left.
use Rattle.std.specs.Prelude.{List, drop}
use Rattle.rv64_asm.specs.Label.{Label}
use Rattle.rv64_asm.specs.declared.label_iter.LabelIter.{LabelIter}

-- the labels that it has not given yet
abbrev pub labels_left : {A : Type 0} → LabelIter A → List Label
labels_left iter = drop iter.index iter.labels.now
